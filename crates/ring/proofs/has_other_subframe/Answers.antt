-- The row that is looked at is the current row; its mark decides first, then its subframe.
use mathlib.Core.Path.{sym, ap, ◌∙◌}
use Rattle.paper.specs.Room.{row_of}
use Rattle.ring.proofs.Turn.{moves_blank, moves_marked}
use Rattle.ring.proofs.has_other_subframe.Goals as goal

pub returns-then-not-is_marked : goal.returns-then-not-is_marked
returns-then-not-is_marked c =
    let room = c.args.room.now in
    let args = c.args in
    let lent = c.row-row.ensures.0 ∙ ap (λ r. row_of r room) c.current.ensures.0 in
    moves_blank args.week args.time room _ lent (sym c.is_marked.ensures ∙ c.if-not-is_marked.true)

pub returns : goal.returns
returns c =
    let args = c.args in
    let room = args.room.now in
    let lent = c.row-row.ensures.0 ∙ ap (λ r. row_of r room) c.current.ensures.0 in
    moves_marked args.week args.time room _ lent _ (sym c.is_marked.ensures ∙ c.if-not-is_marked.false) c.is_at.ensures
