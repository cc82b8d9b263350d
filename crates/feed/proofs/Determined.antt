-- The promise of `feed` is tight: any two rooms that its contract permits afterwards are equal.
use mathlib.Core.Path.{◌≡◌, sym, ◌∙◌}
use borrow.Fn.Kinds.{res_t, ended_of, Dens}
use denote.Triple.Clauses.{AtExit}
use contract.Lifetimes.{Lfts}
use Rattle.feed.proofs.feed_word.Reads as feed_word_reads
use Rattle.feed.proofs.feed_word.Kinds as feed_word_kinds

pub feed_word_determined :
    (κs : Lfts 2)
    (a : Dens κs feed_word_kinds.ps)
    (r r' : (res_t feed_word_kinds.r κs).Denot)
    (e e' : AtExit (ended_of 2 feed_word_kinds.ps feed_word_kinds.r) κs)
    → feed_word_reads.Post κs a r e → feed_word_reads.Post κs a r' e' → e.0.now ≡ e'.0.now
feed_word_determined κs a r r' e e' p q = p ∙ sym q
