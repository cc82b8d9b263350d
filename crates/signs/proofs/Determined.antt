-- Two outcomes that a contract of this crate permits are equal. Assumes nothing.
use borrow.Fn.Kinds.{res_t, ended_of, Dens}
use denote.Triple.Clauses.{AtExit}
use contract.Lifetimes.{Lfts}
use mathlib.Core.Path.{◌≡◌, sym, ◌∙◌}
use Rattle.signs.proofs.below_zero.Reads as below_zero_reads
use Rattle.signs.proofs.below_zero.Kinds as below_zero_kinds
use Rattle.signs.proofs.size.Reads as size_reads
use Rattle.signs.proofs.size.Kinds as size_kinds
use Rattle.signs.proofs.of_bits.Reads as of_bits_reads
use Rattle.signs.proofs.of_bits.Kinds as of_bits_kinds

pub below_zero_determined :
    (κs : Lfts 0) (a : Dens κs below_zero_kinds.ps) (r r' : (res_t below_zero_kinds.r κs).Denot) (e e' : AtExit (ended_of 0 below_zero_kinds.ps below_zero_kinds.r) κs)
    → below_zero_reads.Post κs a r e → below_zero_reads.Post κs a r' e' → r ≡ r'
below_zero_determined κs a r r' e e' p q = p ∙ sym q

pub size_determined :
    (κs : Lfts 0) (a : Dens κs size_kinds.ps) (r r' : (res_t size_kinds.r κs).Denot) (e e' : AtExit (ended_of 0 size_kinds.ps size_kinds.r) κs)
    → size_reads.Post κs a r e → size_reads.Post κs a r' e' → r ≡ r'
size_determined κs a r r' e e' p q = p ∙ sym q

pub of_bits_determined :
    (κs : Lfts 0) (a : Dens κs of_bits_kinds.ps) (r r' : (res_t of_bits_kinds.r κs).Denot) (e e' : AtExit (ended_of 0 of_bits_kinds.ps of_bits_kinds.r) κs)
    → of_bits_reads.Post κs a r e → of_bits_reads.Post κs a r' e' → r ≡ r'
of_bits_determined κs a r r' e e' p q = p ∙ sym q
