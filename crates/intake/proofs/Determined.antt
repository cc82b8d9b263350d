-- The promises of `intake` are tight: two outcomes that a contract permits are equal, the answer, the state, the room and the whole output.
use mathlib.Core.Path.{◌≡◌, sym, ap, ◌∙◌}
use mathlib.Core.Bool.{Bool}
use mathlib.Core.List.{List}
use Prim.Native.Nat.{ℕ}
use lib.ListN.{take}
use borrow.Fn.Kinds.{res_t, ended_of, Dens}
use denote.Triple.Clauses.{AtExit}
use contract.Lifetimes.{Lfts}
use Rattle.text.specs.Text.{Put}
use Rattle.text.proofs.Puts.{put_one}
use Rattle.intake.specs.declared.Heard.{Heard}
use Rattle.intake.specs.declared.Closed.{Closed}
use Rattle.intake.specs.Input.{Stage, stage_of, items_of, room_of}
use Rattle.intake.specs.Reader.{reader_of, stage_number, Took}
use Rattle.intake.proofs.part.Reads as part_reads
use Rattle.intake.proofs.part.Kinds as part_kinds
use Rattle.intake.proofs.end.Reads as end_reads
use Rattle.intake.proofs.end.Kinds as end_kinds

heard_one : (r r' : Heard) → r.number ≡ r'.number → r.took ≡ r'.took → r.said ≡ r'.said → r ≡ r'
heard_one r r' e f g =
    ap (λ (k : ℕ). record { number = k; took = r.took; said = r.said }) e
    ∙ ap (λ (k : ℕ). record { number = r'.number; took = k; said = r.said }) f
    ∙ ap (λ (k : ℕ). record { number = r'.number; took = r'.took; said = k }) g

closed_one : (r r' : Closed) → r.number ≡ r'.number → r.taken ≡ r'.taken → r.said ≡ r'.said → r ≡ r'
closed_one r r' e f g =
    ap (λ (k : ℕ). record { number = k; taken = r.taken; said = r.said }) e
    ∙ ap (λ (b : Bool). record { number = r'.number; taken = b; said = r.said }) f
    ∙ ap (λ (k : ℕ). record { number = r'.number; taken = r'.taken; said = k }) g

-- two outcomes of a part
pub part_one :
    {traced : Bool} {s : Stage} {bytes room out room' room'' out' out'' reader' reader'' : List ℕ} (r r' : Heard)
    → Took traced s bytes room out room' out' r.took r.said → Took traced s bytes room out room'' out'' r'.took r'.said
    → reader' ≡ reader_of (stage_of s (take r.took bytes)) → reader'' ≡ reader_of (stage_of s (take r'.took bytes))
    → r.number ≡ stage_number (stage_of s (take r.took bytes)) → r'.number ≡ stage_number (stage_of s (take r'.took bytes))
    → (r ≡ r') × ((reader' ≡ reader'') × ((room' ≡ room'') × (out' ≡ out'')))
part_one {traced} {s} {bytes} {room} r r' p q pr qr pn qn =
    let t : r.took ≡ r'.took = p.count ∙ sym q.count in
    let lines = put_one (rw t at p.lines) q.lines in (
      heard_one r r' (pn ∙ ap (λ (k : ℕ). stage_number (stage_of s (take k bytes))) t ∙ sym qn) t lines.1,
      (
        pr ∙ ap (λ (k : ℕ). reader_of (stage_of s (take k bytes))) t ∙ sym qr,
        (p.leaves ∙ ap (λ (k : ℕ). room_of room (items_of s (take k bytes))) t ∙ sym q.leaves, lines.0),
      ),
    )

pub part_determined :
    (κs : Lfts 4)
    (a : Dens κs part_kinds.ps)
    (r r' : (res_t part_kinds.r κs).Denot)
    (e e' : AtExit (ended_of 4 part_kinds.ps part_kinds.r) κs)
    → part_reads.Post κs a r e → part_reads.Post κs a r' e'
    → (r ≡ r') × ((e.0.now ≡ e'.0.now) × ((e.1.0.now ≡ e'.1.0.now) × (e.1.1.1.0.now ≡ e'.1.1.1.0.now)))
part_determined κs a r r' e e' p q = part_one r r' p.0 q.0 p.1.0 q.1.0 p.1.1 q.1.1

-- two outcomes of the end
pub end_one :
    {number : ℕ} {taken : Bool} {lines out out' out'' reader reader' reader'' : List ℕ} (r r' : Closed)
    → reader' ≡ reader → reader'' ≡ reader
    → (r.number ≡ number) × (r.taken ≡ taken) → (r'.number ≡ number) × (r'.taken ≡ taken)
    → Put out 0 lines out' r.said → Put out 0 lines out'' r'.said
    → (r ≡ r') × ((reader' ≡ reader'') × (out' ≡ out''))
end_one r r' pr qr pn qn pl ql =
    let lines = put_one pl ql in
    (closed_one r r' (pn.0 ∙ sym qn.0) (pn.1 ∙ sym qn.1) lines.1, (pr ∙ sym qr, lines.0))

pub end_determined :
    (κs : Lfts 3)
    (a : Dens κs end_kinds.ps)
    (r r' : (res_t end_kinds.r κs).Denot)
    (e e' : AtExit (ended_of 3 end_kinds.ps end_kinds.r) κs)
    → end_reads.Post κs a r e → end_reads.Post κs a r' e'
    → (r ≡ r') × ((e.0.now ≡ e'.0.now) × (e.1.1.0.now ≡ e'.1.1.0.now))
end_determined κs a r r' e e' p q = end_one r r' p.0 q.0 p.1.0 q.1.0 p.1.1 q.1.1
