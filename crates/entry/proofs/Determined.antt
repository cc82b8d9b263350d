-- Two outcomes that a contract of this crate permits are equal. Assumes nothing.
use borrow.Fn.Kinds.{res_t, ended_of, Dens}
use denote.Triple.Clauses.{AtExit}
use contract.Lifetimes.{Lfts}
use mathlib.Core.Path.{◌≡◌, sym, ◌∙◌}
use Rattle.refusals.proofs.Answers.{same_reply}
use Rattle.entry.proofs.fresh_entry.Reads as fresh
use Rattle.entry.proofs.fresh_entry.Kinds as fresh_kinds
use Rattle.entry.proofs.feed_entry.Reads as feed
use Rattle.entry.proofs.feed_entry.Kinds as feed_kinds
use Rattle.entry.proofs.mack_entry.Reads as mack
use Rattle.entry.proofs.mack_entry.Kinds as mack_kinds

pub fresh_entry_determined :
    (κs : Lfts 1) (a : Dens κs fresh_kinds.ps) (r r' : (res_t fresh_kinds.r κs).Denot)
    (e e' : AtExit (ended_of 1 fresh_kinds.ps fresh_kinds.r) κs) → fresh.Post κs a r e → fresh.Post κs a r' e' → r ≡ r'
fresh_entry_determined κs a r r' e e' p q = same_reply r r' (p ∙ sym q)

pub feed_entry_determined :
    (κs : Lfts 2) (a : Dens κs feed_kinds.ps) (r r' : (res_t feed_kinds.r κs).Denot)
    (e e' : AtExit (ended_of 2 feed_kinds.ps feed_kinds.r) κs) → feed.Post κs a r e → feed.Post κs a r' e' → r ≡ r'
feed_entry_determined κs a r r' e e' p q = same_reply r r' (p ∙ sym q)

pub mack_entry_determined :
    (κs : Lfts 1) (a : Dens κs mack_kinds.ps) (r r' : (res_t mack_kinds.r κs).Denot)
    (e e' : AtExit (ended_of 1 mack_kinds.ps mack_kinds.r) κs) → mack.Post κs a r e → mack.Post κs a r' e' → r ≡ r'
mack_entry_determined κs a r r' e e' p q = same_reply r r' (p ∙ sym q)
