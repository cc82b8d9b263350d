-- `store::passed` meets its contract: the slots before this one are allowed.
use mathlib.Core.Path.{◌≡◌}
use mathlib.Core.Bool.{true}
use Rattle.paper.specs.Parts.{all_parts}
use Rattle.paper.specs.Room.{head_size, slot_size}
use Rattle.paper.specs.Store.{slot_allowed}
use Rattle.store.proofs.passed.Given as goal

abbrev pub invariant-loop-i : goal.invariant-loop-i
invariant-loop-i l = all_parts (slot_allowed l.most) slot_size l.i head_size l.row ≡ true
