-- Whether a slot's record takes a tag, as the number that its total counts.
use Rattle.std.specs.Prelude.{ℕ, cond, List}
use Rattle.paper.specs.Parts.{part}
use Rattle.paper.specs.Record.{Family, size}
use Rattle.paper.specs.Room.{base}
use Rattle.paper.specs.Tag.{matches}

abbrev pub takes : Family → ℕ → List ℕ → List ℕ → ℕ
takes f sat bits slot = cond (matches f sat bits (part (base f) (size f) slot)) 1 0
