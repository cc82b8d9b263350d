-- The promises of `bits` are tight: any two outcomes that a contract permits are equal, the answer and the slice at exit.
use mathlib.Core.Path.{◌≡◌, sym, ◌∙◌}
use borrow.Fn.Kinds.{res_t, ended_of, Dens}
use denote.Triple.Clauses.{AtExit}
use contract.Lifetimes.{Lfts}
use Rattle.bits.proofs.move_bits.Reads as move_bits_reads
use Rattle.bits.proofs.move_bits.Kinds as move_bits_kinds

pub move_bits_determined :
    (κs : Lfts 2)
    (a : Dens κs move_bits_kinds.ps)
    (r r' : (res_t move_bits_kinds.r κs).Denot)
    (e e' : AtExit (ended_of 2 move_bits_kinds.ps move_bits_kinds.r) κs)
    → move_bits_reads.Post κs a r e → move_bits_reads.Post κs a r' e' → (e.0.now ≡ e'.0.now) × (r ≡ r')
move_bits_determined κs a r r' e e' p q = (p.0 ∙ sym q.0, p.1 ∙ sym q.1)
