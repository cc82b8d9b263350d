-- `credit_row` goes through the slots in order: those before this one have taken the tag, and each counts at most 1.
use native.Mathlib.Omega.{arith}
use mathlib.Core.Path.{refl}
use Rattle.paper.specs.Record.{family_if}
use Rattle.paper.specs.Room.{head_size, slot_size, in_slot}
use Rattle.paper.specs.Tag.{credited}
use Rattle.credit.specs.Slot.{takes}
use Rattle.credit.proofs.Slots.{takes_one, keeps_slot, turn}
use Rattle.credit.proofs.credit_row.Goals as goal

pub loop-i-preserved : goal.loop-i-preserved
loop-i-preserved c =
    let l = c.loop-i in
    let a = c.args in
    let f = family_if a.timing in
    let took = c.credit_slot-total.ensures in
    let t =
    turn (in_slot f (credited f a.sat a.given.now a.added)) (takes f a.sat a.given.now) slot_size l.i head_size c.slot_start-at.result slot_size
    a.row.now l.row c.credit_slot-total.new.slot l.total c.credit_slot-total.result (keeps_slot f a.sat a.given.now a.added) (omega arith) refl
    c.slot_start-at.ensures l.invariant.taken l.invariant.counted took.0 took.1 in
    record { taken = t.0; counted = t.1; most = omega (arith, took.1, takes_one f a.sat a.given.now) }
