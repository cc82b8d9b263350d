-- `records::older` meets its contract. The loop's invariant: what was passed is older, and what is left is still to be.
use mathlib.Core.Path.{◌≡◌}
use mathlib.Core.List.{map, ◌++◌}
use lib.ListN.{take, drop}
use Rattle.paper.specs.Record.{older}
use Rattle.records.proofs.older.Given as goal

abbrev pub invariant-loop-age : goal.invariant-loop-age
invariant-loop-age g l =
    map (older l.by) l.fn.ages ≡ take l.age-index l.age-items ++ map (older l.by) (drop l.age-index l.age-items)
