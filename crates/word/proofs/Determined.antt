-- The promises of `word` are tight: any two records that a contract permits afterwards are equal.
use mathlib.Core.Path.{◌≡◌, sym, ◌∙◌}
use borrow.Fn.Kinds.{res_t, ended_of, Dens}
use denote.Triple.Clauses.{AtExit}
use contract.Lifetimes.{Lfts}
use Rattle.word.proofs.feed_record.Reads as feed_record_reads
use Rattle.word.proofs.feed_record.Kinds as feed_record_kinds

pub feed_record_determined :
    (κs : Lfts 2)
    (a : Dens κs feed_record_kinds.ps)
    (r r' : (res_t feed_record_kinds.r κs).Denot)
    (e e' : AtExit (ended_of 2 feed_record_kinds.ps feed_record_kinds.r) κs)
    → feed_record_reads.Post κs a r e → feed_record_reads.Post κs a r' e' → e.0.now ≡ e'.0.now
feed_record_determined κs a r r' e e' p q = p ∙ sym q
