-- The ring is advanced or not, and what the calls go by holds either way.
use Rattle.ring.proofs.Turn.{moved_facts}
use Rattle.ring.proofs.settle.Goals as goal

pub mark_current-requires : goal.mark_current-requires
mark_current-requires c = rw c.advance_for.ensures (moved_facts _ _ _ c.requires)
