-- The promise of `adler` is tight: two answers that its contract permits are equal.
use mathlib.Core.Path.{◌≡◌, sym, ◌∙◌}
use borrow.Fn.Kinds.{res_t, ended_of, Dens}
use denote.Triple.Clauses.{AtExit}
use contract.Lifetimes.{Lfts}
use Rattle.adler.proofs.adler32.Reads as reads
use Rattle.adler.proofs.adler32.Kinds as kinds

pub adler32_determined :
    (κs : Lfts 1)
    (a : Dens κs kinds.ps)
    (r r' : (res_t kinds.r κs).Denot)
    (e e' : AtExit (ended_of 1 kinds.ps kinds.r) κs)
    → reads.Post κs a r e → reads.Post κs a r' e' → r ≡ r'
adler32_determined κs a r r' e e' p q = p ∙ sym q
