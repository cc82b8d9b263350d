-- `credit_slot` changes the slot only where the record has the satellite and the bits, and says so.
use mathlib.Core.Path.{refl}
use Rattle.paper.specs.Record.{family_if, size, data_at}
use Rattle.credit.proofs.Slots.{other_lent, differs_lent, agrees_lent}
use Rattle.credit.proofs.credit_slot.Goals as goal

pub returns-then-slot-a : goal.returns-then-slot-a
returns-then-slot-a c =
    let a = c.base-a in
    let args = c.args in
    let f = family_if args.timing in
    other_lent f args.sat args.given.now args.added args.slot.now a.result (size f) (data_at f) a.ensures refl refl c.if-slot-a.true

pub returns-then-not-same_bits : goal.returns-then-not-same_bits
returns-then-not-same_bits c =
    let args = c.args in
    differs_lent (family_if args.timing) args.sat args.given.now args.added args.slot.now
    c.base-a.result c.size_of.result c.data_at.result c.base-a.ensures c.size_of.ensures c.data_at.ensures _
    c.same_bits.ensures (c.if-not-same_bits.true)

pub returns : goal.returns
returns c =
    let args = c.args in
    agrees_lent (family_if args.timing) args.sat args.given.now args.added args.slot.now
    c.base-a.result c.size_of.result c.data_at.result c.base-a.ensures c.size_of.ensures c.data_at.ensures _ _
    c.if-slot-a.false c.same_bits.ensures (c.if-not-same_bits.false) c.add_length.ensures
