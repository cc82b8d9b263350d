-- Each export's promise is tight: two outcomes that its contract permits are equal, what it hands back, the state, the room and the output.
use mathlib.Core.Path.{◌≡◌}
use borrow.Fn.Kinds.{res_t, ended_of, Dens}
use denote.Triple.Clauses.{AtExit}
use contract.Lifetimes.{Lfts}
use Rattle.intake.proofs.Determined.{part_one, end_one}
use Rattle.ffi_intake.proofs.dawnstook_part.Reads as part_reads
use Rattle.ffi_intake.proofs.dawnstook_part.Kinds as part_kinds
use Rattle.ffi_intake.proofs.dawnstook_end.Reads as end_reads
use Rattle.ffi_intake.proofs.dawnstook_end.Kinds as end_kinds

pub dawnstook_part_determined :
    (κs : Lfts 4)
    (a : Dens κs part_kinds.ps)
    (r r' : (res_t part_kinds.r κs).Denot)
    (e e' : AtExit (ended_of 4 part_kinds.ps part_kinds.r) κs)
    → part_reads.Post κs a r e → part_reads.Post κs a r' e'
    → (r ≡ r') × ((e.0.now ≡ e'.0.now) × ((e.1.0.now ≡ e'.1.0.now) × (e.1.1.1.0.now ≡ e'.1.1.1.0.now)))
dawnstook_part_determined κs a r r' e e' p q = part_one r r' p.0 q.0 p.1.0 q.1.0 p.1.1 q.1.1

pub dawnstook_end_determined :
    (κs : Lfts 3)
    (a : Dens κs end_kinds.ps)
    (r r' : (res_t end_kinds.r κs).Denot)
    (e e' : AtExit (ended_of 3 end_kinds.ps end_kinds.r) κs)
    → end_reads.Post κs a r e → end_reads.Post κs a r' e'
    → (r ≡ r') × ((e.0.now ≡ e'.0.now) × (e.1.1.0.now ≡ e'.1.1.0.now))
dawnstook_end_determined κs a r r' e e' p q = end_one r r' p.0 q.0 p.1.0 q.1.0 p.1.1 q.1.1
