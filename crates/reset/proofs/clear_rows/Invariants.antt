-- `reset::clear_rows` meets its contract: the rows before this one are cleared.
use mathlib.Core.Path.{◌≡◌}
use Rattle.paper.specs.Parts.{on_parts}
use Rattle.paper.specs.Record.{family_if, with_count}
use Rattle.paper.specs.Room.{header_size, row_size, each_record}
use Rattle.reset.proofs.clear_rows.Given as goal

abbrev pub invariant-loop-r : goal.invariant-loop-r
invariant-loop-r l = l.room ≡ on_parts (each_record (family_if l.timing) l.n (with_count 0)) (row_size l.n) l.r header_size l.initial.room
