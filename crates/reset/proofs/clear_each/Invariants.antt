-- `reset::clear_each` meets its contract: the slots before this one are cleared.
use mathlib.Core.Path.{◌≡◌}
use Rattle.paper.specs.Parts.{on_parts}
use Rattle.paper.specs.Record.{family_if, with_count}
use Rattle.paper.specs.Room.{head_size, slot_size, in_slot}
use Rattle.reset.proofs.clear_each.Given as goal

abbrev pub invariant-loop-i : goal.invariant-loop-i
invariant-loop-i l = l.row ≡ on_parts (in_slot (family_if l.timing) (with_count 0)) slot_size l.i head_size l.initial.row
