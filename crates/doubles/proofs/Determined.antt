-- Two doubles that a contract of this crate permits are equal. Assumes nothing.
use mathlib.Core.Path.{◌≡◌, sym, ◌∙◌}
use borrow.Fn.Kinds.{res_t, ended_of, Dens}
use denote.Triple.Clauses.{AtExit}
use contract.Lifetimes.{Lfts}
use Rattle.doubles.proofs.of_signed.Reads as of_signed_reads
use Rattle.doubles.proofs.of_signed.Kinds as of_signed_kinds
use Rattle.doubles.proofs.of_unsigned.Reads as of_unsigned_reads
use Rattle.doubles.proofs.of_unsigned.Kinds as of_unsigned_kinds

pub of_signed_determined :
    (κs : Lfts 0)
    (a : Dens κs of_signed_kinds.ps)
    (r r' : (res_t of_signed_kinds.r κs).Denot)
    (e e' : AtExit (ended_of 0 of_signed_kinds.ps of_signed_kinds.r) κs)
    → of_signed_reads.Post κs a r e → of_signed_reads.Post κs a r' e' → r ≡ r'
of_signed_determined κs a r r' e e' p q = p ∙ sym q

pub of_unsigned_determined :
    (κs : Lfts 0)
    (a : Dens κs of_unsigned_kinds.ps)
    (r r' : (res_t of_unsigned_kinds.r κs).Denot)
    (e e' : AtExit (ended_of 0 of_unsigned_kinds.ps of_unsigned_kinds.r) κs)
    → of_unsigned_reads.Post κs a r e → of_unsigned_reads.Post κs a r' e' → r ≡ r'
of_unsigned_determined κs a r r' e e' p q = p ∙ sym q
