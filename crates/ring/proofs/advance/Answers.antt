-- The steps of the code, in the order of the definition: the copy, the current row, the ages of the slice that is lent.
use native.Mathlib.Omega.{arith}
use lib.ListN.{length-set}
use Rattle.ring.proofs.Turn.{next_fits, advanced_by}
use Rattle.ring.proofs.advance.Goals as goal

pub slice_bounds-age_row-end : goal.slice_bounds-age_row-end
slice_bounds-age_row-end c =
    let fits =
    next_fits c.args.room.now c.requires c.slots-n.ensures.0 c.current-c.ensures.0 c.depth.ensures.0 c.next_row-next.ensures c.row_start-to.ensures in
    simp length-set (omega (arith, fits, c.row_size.ensures, c.copy_records.auto.room))

pub returns : goal.returns
returns c =
    advanced_by c.args.room.now _ c.row_size.ensures c.slots-n.ensures.0 c.current-c.ensures.0 c.depth.ensures.0 c.next_row-next.ensures
    c.row_start.ensures c.row_start-to.ensures c.copy_records.ensures c.age_row.ensures
