-- The promises of `ageing` are tight: any two answers that a contract permits are equal.
use mathlib.Core.Path.{◌≡◌, sym, ◌∙◌}
use borrow.Fn.Kinds.{res_t, ended_of, Dens}
use denote.Triple.Clauses.{AtExit}
use contract.Lifetimes.{Lfts}
use Rattle.ageing.proofs.comes_earlier.Reads as comes_earlier_reads
use Rattle.ageing.proofs.comes_earlier.Kinds as comes_earlier_kinds
use Rattle.ageing.proofs.rises_by.Reads as rises_by_reads
use Rattle.ageing.proofs.rises_by.Kinds as rises_by_kinds

pub comes_earlier_determined :
    (κs : Lfts 1)
    (a : Dens κs comes_earlier_kinds.ps)
    (r r' : (res_t comes_earlier_kinds.r κs).Denot)
    (e e' : AtExit (ended_of 1 comes_earlier_kinds.ps comes_earlier_kinds.r) κs)
    → comes_earlier_reads.Post κs a r e → comes_earlier_reads.Post κs a r' e' → r ≡ r'
comes_earlier_determined κs a r r' e e' p q = p ∙ sym q

pub rises_by_determined :
    (κs : Lfts 1)
    (a : Dens κs rises_by_kinds.ps)
    (r r' : (res_t rises_by_kinds.r κs).Denot)
    (e e' : AtExit (ended_of 1 rises_by_kinds.ps rises_by_kinds.r) κs)
    → rises_by_reads.Post κs a r e → rises_by_reads.Post κs a r' e' → r ≡ r'
rises_by_determined κs a r r' e e' p q = p ∙ sym q
