-- The slots before this one are aged; the two passes of the definition are one pass that ages both records of a slot.
use mathlib.Core.Path.{◌≡◌}
use Rattle.paper.specs.Parts.{on_parts}
use Rattle.paper.specs.Room.{head_size, slot_size}
use Rattle.ring.specs.Slot.{aged_slot}
use Rattle.ring.proofs.age_row.Given as goal

abbrev pub invariant-loop-i : goal.invariant-loop-i
invariant-loop-i l = l.row ≡ on_parts (aged_slot l.by) slot_size l.i head_size l.initial.row
