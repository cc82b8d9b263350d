-- The promises of `store` are tight: any two answers that a contract permits are equal.
use mathlib.Core.Path.{◌≡◌, sym, ◌∙◌}
use borrow.Fn.Kinds.{res_t, ended_of, Dens}
use denote.Triple.Clauses.{AtExit}
use contract.Lifetimes.{Lfts}
use Rattle.store.proofs.is_store.Reads as is_store_reads
use Rattle.store.proofs.is_store.Kinds as is_store_kinds

pub is_store_determined :
    (κs : Lfts 1)
    (a : Dens κs is_store_kinds.ps)
    (r r' : (res_t is_store_kinds.r κs).Denot)
    (e e' : AtExit (ended_of 1 is_store_kinds.ps is_store_kinds.r) κs)
    → is_store_reads.Post κs a r e → is_store_reads.Post κs a r' e' → r ≡ r'
is_store_determined κs a r r' e e' p q = p ∙ sym q
