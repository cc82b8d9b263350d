-- The test decides, and nothing is written where the ring stays. By how much ages rise may be held at the greatest age first.
use mathlib.Core.Path.{sym, ap, ◌∙◌}
use Prim.Native.Nat.{ℕ}
use Rattle.paper.specs.Feed.{rises_by, advanced}
use Rattle.paper.proofs.WordViews.{advanced_held}
use Rattle.ring.proofs.advance_for.Goals as goal

pub returns : goal.returns
returns c =
    let args = c.args in
    simp (sym c.has_other_subframe.ensures ∙ c.if-not-has_other_subframe.false)
    (c.advance.ensures
    ∙ ap (λ (by : ℕ). advanced by args.room.now) c.rises_by-by.ensures
    ∙ advanced_held (rises_by args.week args.time args.room.now) args.room.now)
