-- The row that is looked at is the row j back; its first slot that answers decides.
use mathlib.Core.Path.{◌∙◌}
use Rattle.paper.specs.Record.{family_if}
use Rattle.ask.proofs.Steps.{place_none, place_here}
use Rattle.ask.proofs.place_back.Goals as goal

pub returns-in_err-slot : goal.returns-in_err-slot
returns-in_err-slot c =
    let a = c.args in
    c.from_residual.ensures
    ∙ place_none a.room.now _ a.j _ _ c.slots-n.ensures.0 c.row_before-r.ensures.0 c.row.ensures.0 (family_if a.timing) a.sat c.enough_slot.ensures c.in_err-slot.was

pub returns : goal.returns
returns c =
    let a = c.args in
    place_here a.room.now _ a.j _ _ c.slots-n.ensures.0 c.row_before-r.ensures.0 c.row.ensures.0 (family_if a.timing) a.sat c.enough_slot.ensures c.in_ok-slot.was
    c.row_start-row.ensures c.record_start.ensures
