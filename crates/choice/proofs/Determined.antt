-- The promises of `choice` are tight: any two answers that a contract permits are equal.
use mathlib.Core.Path.{◌≡◌, sym, ◌∙◌}
use borrow.Fn.Kinds.{res_t, ended_of, Dens}
use denote.Triple.Clauses.{AtExit}
use contract.Lifetimes.{Lfts}
use Rattle.choice.proofs.choose.Reads as choose_reads
use Rattle.choice.proofs.choose.Kinds as choose_kinds

pub choose_determined :
    (κs : Lfts 1)
    (a : Dens κs choose_kinds.ps)
    (r r' : (res_t choose_kinds.r κs).Denot)
    (e e' : AtExit (ended_of 1 choose_kinds.ps choose_kinds.r) κs)
    → choose_reads.Post κs a r e → choose_reads.Post κs a r' e' → r ≡ r'
choose_determined κs a r r' e e' p q = p.0 ∙ sym q.0
