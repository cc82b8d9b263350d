-- `store::is_plain` meets its contract: in a row that may hold no satellite, none is known.
use mathlib.Core.Path.{sym, ◌∙◌}
use Rattle.store.proofs.Slots.{known_plain, unknown_plain, none_known}
use Rattle.store.proofs.is_plain.Goals as goal
use Rattle.store.proofs.is_plain.Goals.{then-most-gt0+else-known, else-most-gt0}

pub returns-then-known : goal.returns-then-known
returns-then-known c = c.is_shared.ensures ∙ known_plain _ _ (sym c.known.ensures ∙ c.if-known.true)

pub returns : goal.returns
returns c =
    c.is_empty.ensures
    ∙ unknown_plain _ _ (elim c.if-most-gt0.branch [ then-most-gt0+else-known w ↦ sym w.known.ensures ∙ w.if-known.false | else-most-gt0 w ↦ none_known _ c.args.slot.now w.if-most-gt0.false ])
