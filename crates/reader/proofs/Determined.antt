-- The promise of `reader` is tight.
use mathlib.Core.Path.{◌≡◌, sym, ◌∙◌}
use borrow.Fn.Kinds.{res_t, ended_of, Dens}
use denote.Triple.Clauses.{AtExit}
use contract.Lifetimes.{Lfts}
use Rattle.reader.proofs.run.Reads as run_reads
use Rattle.reader.proofs.run.Kinds as run_kinds

pub run_determined :
    (κs : Lfts 0)
    (a : Dens κs run_kinds.ps)
    (r r' : (res_t run_kinds.r κs).Denot)
    (e e' : AtExit (ended_of 0 run_kinds.ps run_kinds.r) κs)
    → run_reads.Post κs a r e → run_reads.Post κs a r' e' → r ≡ r'
run_determined κs a r r' e e' p q = p ∙ sym q
