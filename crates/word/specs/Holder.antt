-- STORE 10.6: whether a record had another satellite.
use Rattle.std.specs.Prelude.{ℕ, Bool, not, ◌||◌, List, eqb}
use Rattle.paper.specs.Record.{satellite}

-- another than this one, and not none
abbrev pub held_another : ℕ → List ℕ → Bool
held_another sat rec = not (eqb (satellite rec) sat || eqb (satellite rec) 0)
