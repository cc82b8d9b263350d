-- Laws of a slice that an export hands out as its offset and its bytes: it is the paper's, and both are 0 beside a refusal.
-- Assumes nothing.
use native.Mathlib.Omega.{arith}
use mathlib.Core.Path.{◌≡◌, sym, ap, ◌∙◌}
use mathlib.Core.Bool.{cond}
use mathlib.Core.List.{List, [], ◌∷◌}
use lib.ListN.{length}
use lib.Dec.{eqb, eqb-suc-zero}
use Prim.Native.Nat.{ℕ, zero, suc, ◌+◌, ◌≤◌}
use Rattle.paper.specs.Number.{done, refused}
use Rattle.paper.specs.Parts.{part}
use Rattle.paper.specs.Record.{Family, size, data_at, data_bytes}
use Rattle.paper.specs.Tag.{family_of, cop_allowed, kind_known}
use Rattle.paper.specs.Answer.{candidate_number, candidate_answer, candidate_data, ask_number, ask_answer, ask_data}
use Rattle.paper.proofs.Parts.{length_part}
use Rattle.refusals.specs.Reply.{refusal_number}
use Rattle.refusals.specs.declared.Refusal.{Refusal}
use Rattle.refusals.proofs.Answers.{above_zero, refused_number, done_number}
use Rattle.tags.specs.Candidates.{Placed}
use Rattle.std.specs.Prelude.{Result, Ok, Err}
use Rattle.tags.proofs.Shown.{placed_as, shown_at, shown_refused}
use Rattle.ask.specs.Answered.{ask_place}
use Rattle.ask.proofs.Tells.{answer_there, no_data}
use Rattle.ffi.specs.declared.Shown.{Shown}
use Rattle.ffi.specs.declared.Told.{Told}
use Rattle.ffi.specs.Handed.{shown_of, told_of}
use Rattle.ffi.specs.Offset.{candidate_offset, ask_offset}

-- the data of a record that lies inside the room does too, and so has its full length
data_length : (f : Family) (x : ℕ) (room : List ℕ) → x + size f ≤ length room
    → length (part (x + data_at f) (data_bytes f) room) ≡ data_bytes f
data_length f x room h = length_part (x + data_at f) (data_bytes f) room (omega arith)

-- a number that is not 0 has the offset 0
no_offset : (k x : ℕ) → 1 ≤ k → 0 ≡ cond (eqb k 0) x 0
no_offset zero x h = absurd (omega arith)
no_offset (suc k) x h = rw (eqb-suc-zero k)

module _ (sat kind cop w t : ℕ) (room : List ℕ) (r : Result ℕ Refusal) (p : Placed r (cop_allowed cop) (kind_known kind) sat kind cop w t room) where
  abbrev Shows : Shown → Type 0
  Shows s =
      (s
      ≡ shown_of (candidate_answer sat kind cop w t room) (candidate_offset sat kind cop w t room) (length (candidate_data sat kind cop w t room)))
      × (part s.offset s.bytes room ≡ candidate_data sat kind cop w t room)

  pub shown_part : (x : ℕ) → r ≡ Ok x → (o b : ℕ) → o ≡ data_at (family_of kind) → b ≡ data_bytes (family_of kind)
      → Shows (record { number = 0; offset = x + o; bytes = b })
  unfolding candidate_offset
  shown_part x q o b eo eb =
      let there = (placed_as (cop_allowed cop) (kind_known kind) sat kind cop w t room r p (Ok x) q).1 in
      let shown = shown_at sat kind cop w t room r p x q in
      let none : candidate_number sat kind cop w t room ≡ 0 = done_number _ [] [] shown.0 in
      let long : data_bytes (family_of kind) ≡ length (candidate_data sat kind cop w t room) =
      sym (data_length (family_of kind) x room there.inside) ∙ ap length shown.1 in
      (rw (none, eo, eb, ← long, ← there.place), rw (eo, eb) shown.1)

  pub shown_nothing : (why : Refusal) → r ≡ Err why → (n : ℕ) → n ≡ refusal_number why
      → Shows (record { number = n; offset = 0; bytes = 0 })
  unfolding candidate_offset
  shown_nothing why q n en =
      let shown = shown_refused sat kind cop w t room r p why q in
      let k : candidate_number sat kind cop w t room ≡ refusal_number why = refused_number _ _ [] shown.0 in
      let o : 0 ≡ candidate_offset sat kind cop w t room = rw k (no_offset (refusal_number why) _ (above_zero why)) in
      (rw (en, ← shown.0, ← o, ← shown.1), shown.1)

module _ (f : Family) (sat : ℕ) (room : List ℕ) where
  abbrev Tells : Told → Type 0
  Tells s =
      (s ≡ told_of (ask_answer f sat room) (ask_offset f sat room) (length (ask_data f sat room)))
      × (part s.offset s.bytes room ≡ ask_data f sat room)

  pub told_nothing : (why : Refusal) → refused (refusal_number why) ≡ ask_answer f sat room → (n : ℕ) → n ≡ refusal_number why
      → Tells (record { number = n; authbits = 0; week = 0; time = 0; offset = 0; bytes = 0 })
  unfolding ask_offset ask_answer
  told_nothing why e n en =
      let k : ask_number f sat room ≡ refusal_number why = refused_number _ _ _ e in
      let o : 0 ≡ ask_offset f sat room = rw k (no_offset (refusal_number why) _ (above_zero why)) in
      let d : [] ≡ ask_data f sat room = no_data f sat room (refusal_number why) e in
      (rw (en, ← e, ← o, ← d), d)

  pub told_part : (n w t x : ℕ) → done (n ∷ w ∷ t ∷ []) ≡ ask_answer f sat room → x ≡ ask_place f sat room
      → (o b : ℕ) → o ≡ data_at f → b ≡ data_bytes f
      → Tells (record { number = 0; authbits = n; week = w; time = t; offset = x + o; bytes = b })
  unfolding ask_offset ask_answer
  told_part n w t x e p o b eo eb =
      let there = answer_there f sat room _ x e p in
      let none : ask_number f sat room ≡ 0 = done_number _ _ _ e in
      let long : data_bytes f ≡ length (ask_data f sat room) = sym (data_length f x room there.inside) ∙ ap length there.bytes in
      (rw (← e, none, eo, eb, ← long, ← p), rw (eo, eb) there.bytes)
