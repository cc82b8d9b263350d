-- The promises of `benchlines` are tight: any two outcomes that a contract permits are equal.
use mathlib.Core.Path.{◌≡◌, sym, ◌∙◌}
use borrow.Fn.Kinds.{res_t, ended_of, Dens}
use denote.Triple.Clauses.{AtExit}
use contract.Lifetimes.{Lfts}
use Rattle.text.proofs.Puts.{put_one}
use Rattle.lines.proofs.OneToOne.{outcome_one}
use Rattle.benchlines.proofs.outcome.Reads as outcome_reads
use Rattle.benchlines.proofs.outcome.Kinds as outcome_kinds
use Rattle.benchlines.proofs.part.Reads as part_reads
use Rattle.benchlines.proofs.part.Kinds as part_kinds
use Rattle.benchlines.proofs.answer.Reads as answer_reads
use Rattle.benchlines.proofs.answer.Kinds as answer_kinds

pub outcome_determined :
    (κs : Lfts 2)
    (a : Dens κs outcome_kinds.ps)
    (r r' : (res_t outcome_kinds.r κs).Denot)
    (e e' : AtExit (ended_of 2 outcome_kinds.ps outcome_kinds.r) κs)
    → outcome_reads.Post κs a r e → outcome_reads.Post κs a r' e' → (r ≡ r') × (e.0.now ≡ e'.0.now)
outcome_determined κs a r r' e e' p q = (outcome_one r r' (p.0 ∙ sym q.0), p.1 ∙ sym q.1)

pub part_determined :
    (κs : Lfts 2)
    (a : Dens κs part_kinds.ps)
    (r r' : (res_t part_kinds.r κs).Denot)
    (e e' : AtExit (ended_of 2 part_kinds.ps part_kinds.r) κs)
    → part_reads.Post κs a r e → part_reads.Post κs a r' e' → r.now ≡ r'.now
part_determined κs a r r' e e' p q = p ∙ sym q

pub answer_determined :
    (κs : Lfts 3)
    (a : Dens κs answer_kinds.ps)
    (r r' : (res_t answer_kinds.r κs).Denot)
    (e e' : AtExit (ended_of 3 answer_kinds.ps answer_kinds.r) κs)
    → answer_reads.Post κs a r e → answer_reads.Post κs a r' e' → (e.0.now ≡ e'.0.now) × ((e.1.1.1.0.now ≡ e'.1.1.1.0.now) × (r ≡ r'))
answer_determined κs a r r' e e' p q = (p.0 ∙ sym q.0, put_one p.1.0 q.1.0)
