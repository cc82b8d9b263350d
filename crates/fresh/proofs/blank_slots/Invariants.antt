-- `fresh::blank_slots` meets its contract: the slots before this one are blank.
use mathlib.Core.Path.{◌≡◌}
use Rattle.paper.specs.Fresh.{blank_slot}
use Rattle.paper.specs.Parts.{on_parts}
use Rattle.paper.specs.Room.{head_size, slot_size}
use Rattle.fresh.proofs.blank_slots.Given as goal

abbrev pub invariant-loop-i : goal.invariant-loop-i
invariant-loop-i l = l.row ≡ on_parts (λ _. blank_slot) slot_size l.i head_size l.initial.row
