-- The ring is settled first, and what the calls go by holds of it still.
use Rattle.paper.proofs.WordViews.{settled_facts}
use Rattle.feed.proofs.feed_word.Goals as goal

pub feed_current-requires : goal.feed_current-requires
feed_current-requires c = (rw c.settle.ensures (settled_facts _ _ _ c.requires.0), c.requires.2)
