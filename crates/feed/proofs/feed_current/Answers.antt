-- The slice that is lent is the current row, and comes back with the word in it.
use mathlib.Core.Path.{◌∙◌}
use Rattle.paper.specs.Feed.{fed_row, fed_current}
use Rattle.paper.proofs.Parts.{part_back_at}
use Rattle.feed.proofs.feed_current.Goals as goal

pub returns : goal.returns
unfolding fed_current
returns c =
    let args = c.args in
    part_back_at (fed_row c.slots-n.result args.sat args.band args.word.now) c.row_start-at.result c.row_size.result
    args.room.now c.feed_row.new.row c.feed_row.ensures
    ∙ rw (c.row_start-at.ensures, c.row_size.ensures, c.slots-n.ensures.0, c.current.ensures.0)
