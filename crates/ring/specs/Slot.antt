-- One slot aged: what is done to both records of a slot in one turn.
use Rattle.std.specs.Prelude.{ℕ, List}
use Rattle.paper.specs.Record.{CED, Timing, aged}
use Rattle.paper.specs.Room.{in_slot}

abbrev pub aged_slot : ℕ → List ℕ → List ℕ
aged_slot by slot = in_slot Timing (aged Timing by) (in_slot CED (aged CED by) slot)
