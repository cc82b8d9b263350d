-- `reset::reset_room` meets its contract: the two passes have the D and N that stood in the header at entry.
use Rattle.reset.proofs.Cleared.{two_passes}
use Rattle.reset.proofs.reset_room.Goals as goal

pub returns : goal.returns
returns c = two_passes _ _ _ _ _ c.depth-d.ensures.0 c.slots-n.ensures.0 c.requires c.clear_rows.ensures c.clear_rows-2.ensures
