-- `same_first`: what the library answers of two slices.
use mathlib.Core.Path.{◌∙◌}
use Rattle.credit.proofs.Same.{pointwise_same}
use Rattle.credit.proofs.same_first.Goals as goal

pub returns : goal.returns
returns c = c.eq.ensures ∙ pointwise_same _ _
