-- The slice that is lent is the current row, and comes back marked.
use mathlib.Core.Path.{◌∙◌}
use Rattle.paper.specs.Feed.{marked_at, current_marked}
use Rattle.paper.proofs.Parts.{part_back_at}
use Rattle.ring.proofs.mark_current.Goals as goal

pub returns : goal.returns
unfolding current_marked
returns c =
    let args = c.args in
    part_back_at (marked_at args.week args.time) c.row_start-at.result c.row_size.result args.room.now
    c.mark_row.new.row c.mark_row.ensures
    ∙ rw (c.row_start-at.ensures, c.row_size.ensures, c.slots-n.ensures.0, c.current.ensures.0)
