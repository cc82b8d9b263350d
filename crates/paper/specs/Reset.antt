-- STORE 13.1: every count 0.
use Rattle.std.specs.Prelude.{List, ℕ}
use Rattle.paper.specs.Record.{CED, Timing, with_count}
use Rattle.paper.specs.Room.{every_record}

unfoldable pub reset : List ℕ → List ℕ
reset room = let c = every_record CED (with_count 0) room in every_record Timing (with_count 0) c
