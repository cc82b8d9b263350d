-- The promise of `reset` is tight: any two rooms that the contract permits are equal.
use mathlib.Core.Path.{◌≡◌, sym, ◌∙◌}
use borrow.Fn.Kinds.{res_t, ended_of, Dens}
use denote.Triple.Clauses.{AtExit}
use contract.Lifetimes.{Lfts}
use Rattle.reset.proofs.reset_room.Reads as reads
use Rattle.reset.proofs.reset_room.Kinds as kinds

pub reset_room_determined :
    (κs : Lfts 1)
    (a : Dens κs kinds.ps)
    (r r' : (res_t kinds.r κs).Denot)
    (e e' : AtExit (ended_of 1 kinds.ps kinds.r) κs)
    → reads.Post κs a r e → reads.Post κs a r' e' → e.0.now ≡ e'.0.now
reset_room_determined κs a r r' e e' p q = p ∙ sym q
