-- `fresh::blank_rows` meets its contract: the rows before this one are blank.
use mathlib.Core.Path.{◌≡◌}
use Rattle.paper.specs.Fresh.{blank_row}
use Rattle.paper.specs.Parts.{on_parts}
use Rattle.paper.specs.Room.{header_size, row_size}
use Rattle.fresh.proofs.blank_rows.Given as goal

abbrev pub invariant-loop-r : goal.invariant-loop-r
invariant-loop-r l = l.room ≡ on_parts (blank_row l.n) (row_size l.n) l.r header_size l.initial.room
