-- `store::rows_allowed` meets its contract: the rows before this one are allowed.
use mathlib.Core.Path.{◌≡◌}
use mathlib.Core.Bool.{true}
use Rattle.paper.specs.Parts.{all_parts}
use Rattle.paper.specs.Room.{header_size, row_size}
use Rattle.paper.specs.Store.{row_allowed}
use Rattle.store.proofs.rows_allowed.Given as goal

abbrev pub invariant-loop-r : goal.invariant-loop-r
invariant-loop-r l = all_parts (row_allowed l.n) (row_size l.n) l.r header_size l.room ≡ true
