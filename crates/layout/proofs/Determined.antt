-- Two outcomes that the contract of `base` permits are equal. Assumes nothing.
use borrow.Fn.Kinds.{res_t, ended_of, Dens}
use denote.Triple.Clauses.{AtExit}
use contract.Lifetimes.{Lfts}
use mathlib.Core.Path.{◌≡◌, sym, ◌∙◌}
use Rattle.layout.proofs.base.Reads as reads
use Rattle.layout.proofs.base.Kinds as kinds

pub base_determined :
    (κs : Lfts 0) (a : Dens κs kinds.ps) (r r' : (res_t kinds.r κs).Denot) (e e' : AtExit (ended_of 0 kinds.ps kinds.r) κs)
    → reads.Post κs a r e → reads.Post κs a r' e' → r ≡ r'
base_determined κs a r r' e e' p q = p ∙ sym q
