-- The examples, computed by the checker from the definitions. Assumes nothing.
use mathlib.Core.Path.{refl}
use Rattle.paper.proofs.Opens.{calls_open}
use Rattle.history.specs.Line.{fills, begins}
use Rattle.since.specs.Brought.{brings, brought_along}
use Rattle.since.specs.Examples.{start, came, twenty, Examples}

pub examples : Examples
unfolding start came twenty brought_along brings fills begins calls_open
examples = (
  (refl, refl),
  (refl, refl),
  (refl, refl),
  (refl, refl),
  (refl, refl),
  (refl, refl),
  (refl, refl),
  (refl, refl),
  (refl, refl),
  (refl, refl),
)
