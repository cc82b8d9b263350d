-- `credit_row` goes through the slots in order: those before this one have taken the tag, and each counts at most 1.
use mathlib.Core.Path.{◌≡◌}
use Prim.Native.Nat.{◌≤◌}
use Rattle.paper.specs.Parts.{on_parts, sum_parts}
use Rattle.paper.specs.Record.{family_if}
use Rattle.paper.specs.Room.{head_size, slot_size, in_slot}
use Rattle.paper.specs.Tag.{credited}
use Rattle.credit.specs.Slot.{takes}
use Rattle.credit.proofs.credit_row.Given as goal

abbrev pub invariant-loop-i : goal.invariant-loop-i
invariant-loop-i l = record {
  taken : l.row ≡ on_parts (in_slot (family_if l.timing) (credited (family_if l.timing) l.sat l.given l.added)) slot_size l.i head_size l.initial.row;
  counted : l.total ≡ sum_parts (takes (family_if l.timing) l.sat l.given) slot_size l.i head_size l.initial.row;
  most : l.total ≤ l.i;
}
