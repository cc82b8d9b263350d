-- The promises of `ask` are tight: any two answers that a contract permits are equal.
use mathlib.Core.Path.{◌≡◌, sym, ◌∙◌}
use Rattle.ask.proofs.OneToOne.{answered_one}
use borrow.Fn.Kinds.{res_t, ended_of, Dens}
use denote.Triple.Clauses.{AtExit}
use contract.Lifetimes.{Lfts}
use Rattle.ask.proofs.ask.Reads as ask_reads
use Rattle.ask.proofs.ask.Kinds as ask_kinds

pub ask_determined :
    (κs : Lfts 1)
    (a : Dens κs ask_kinds.ps)
    (r r' : (res_t ask_kinds.r κs).Denot)
    (e e' : AtExit (ended_of 1 ask_kinds.ps ask_kinds.r) κs)
    → ask_reads.Post κs a r e → ask_reads.Post κs a r' e' → r ≡ r'
ask_determined κs a r r' e e' p q = answered_one r r' (p.0 ∙ sym q.0) (p.1 ∙ sym q.1)
