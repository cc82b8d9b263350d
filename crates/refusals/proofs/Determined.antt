-- Two outcomes that a contract of this crate permits are equal. Assumes nothing.
use borrow.Fn.Kinds.{res_t, ended_of, Dens}
use denote.Triple.Clauses.{AtExit}
use contract.Lifetimes.{Lfts}
use mathlib.Core.Path.{◌≡◌, sym, ◌∙◌}
use Rattle.refusals.proofs.U8FromRefusal.from.Reads as reads
use Rattle.refusals.proofs.U8FromRefusal.from.Kinds as kinds

pub number_determined :
    (κs : Lfts 0) (a : Dens κs kinds.ps) (r r' : (res_t kinds.r κs).Denot) (e e' : AtExit (ended_of 0 kinds.ps kinds.r) κs)
    → reads.Post κs a r e → reads.Post κs a r' e' → r ≡ r'
number_determined κs a r r' e e' p q = p ∙ sym q
