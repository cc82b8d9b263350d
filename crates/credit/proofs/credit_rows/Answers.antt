-- `credit_rows` goes through the rows in order, as `credit_row` through the slots; each counts at most as many as it may have slots.
use native.Mathlib.Omega.{arith}
use Prim.Native.Nat.{ℕ, ◌+◌, ◌*◌, ◌≤◌}
use mathlib.Core.Path.{refl}
use lib.ListN.{length}
use Rattle.paper.specs.Record.{family_if}
use Rattle.paper.specs.Room.{header_size, row_size, each_record, how_many}
use Rattle.paper.specs.Tag.{matches, credited}
use Rattle.paper.proofs.Views.{row_inside}
use Rattle.credit.proofs.Slots.{keeps_row, turn}
use Rattle.credit.proofs.credit_rows.Goals as goal

pub loop-r-preserved : goal.loop-r-preserved
loop-r-preserved c =
    let l = c.loop-r in
    let a = c.args in
    let n = c.slots-n.result in
    let f = family_if a.timing in
    let took = c.credit_row-total.ensures in
    let from : ℕ = header_size + l.r * c.row_size-row.result in
    let long = c.row_size-row.ensures in
    let fits : from + row_size n ≤ length a.room.now = rw (long, c.slots-n.ensures.0) (row_inside a.room.now c.requires.0 l.r (omega arith)) in
    let t =
    turn (each_record f n (credited f a.sat a.given.now a.added)) (how_many f n (matches f a.sat a.given.now)) (row_size n) l.r header_size
    from c.row_size-row.result a.room.now l.room c.credit_row-total.new.row l.total c.credit_row-total.result
    (keeps_row f a.sat a.given.now a.added n) fits long (rw long refl) l.invariant.taken l.invariant.counted took.0 took.1.0 in
    record { taken = t.0; counted = t.1; most = omega arith }
