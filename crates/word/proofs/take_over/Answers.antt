-- Ages become 255 only where it held another satellite.
use mathlib.Core.Path.{◌∙◌}
use borrow.Author.Tests.{not-true, not-false}
use Rattle.word.proofs.Taken.{taken_kept, taken_over_lem}
use Rattle.word.proofs.take_over.Goals as goal

pub returns-then-not-take : goal.returns-then-not-take
returns-then-not-take g c f e =
    let t = c.take.ensures in
    taken_kept f _ _ _ _ t.0 t.1 (not-true _ c.if-not-take.true-raw)

pub returns : goal.returns
returns g c f e =
    let t = c.take.ensures in
    c.put_ages.ensures ∙ rw (← e) (taken_over_lem f _ _ _ _ t.0 t.1 (not-false _ c.if-not-take.false-raw))
