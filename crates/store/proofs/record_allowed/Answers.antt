-- `store::record_allowed` meets its contract: past the first test the record holds a satellite that it may, or neither a satellite nor a
-- count, and its last byte decides.
use mathlib.Core.Path.{sym, ◌∙◌}
use Rattle.store.proofs.Records.{held_known, held_none, held_last, not_held}
use Rattle.store.proofs.record_allowed.Goals as goal
use Rattle.store.proofs.record_allowed.Goals.{then-not-known+else-holds-ne0, else-not-known}

pub returns-then-holds-ne0 : goal.returns-then-holds-ne0
returns-then-holds-ne0 c = λ f e. not_held _ _ (sym c.known.ensures ∙ c.if-not-known.true) (λ z. c.if-holds-ne0.true (c.holds.ensures ∙ z)) f

pub returns : goal.returns
returns c =
    held_last _ _
    (elim c.if-not-known.branch [
      | then-not-known+else-holds-ne0 w ↦ held_none _ _ (sym w.holds.ensures ∙ w.if-holds-ne0.false)
      | else-not-known w ↦ held_known _ _ (sym c.known.ensures ∙ w.if-not-known.false)
    ])
