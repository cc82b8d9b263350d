-- `reset::clear_slot` meets its contract: the two bytes written are the count of the record.
use Rattle.paper.specs.Record.{family_if}
use Rattle.reset.proofs.Cleared.{slot_cleared}
use Rattle.reset.proofs.clear_slot.Goals as goal

pub returns : goal.returns
returns c = slot_cleared (family_if c.args.timing) _ c.args.slot.now _ c.requires c.base.ensures c.write16.ensures
