-- `sum`: by the sign and the size of what is added, each way out is a case of the exact sum.
use borrow.Author.Tests.{not-true, not-false}
use lib.IntN.{nat_abs}
use lib.Signed.{non_neg}
use mathlib.Core.Bool.{true, false}
use mathlib.Core.Path.{◌≡◌, sym, ◌∙◌}
use mir.Facts.{to_z-of_z}
use Rattle.gst.proofs.Sums.{too_far, too_early, backward, forward}
use Rattle.gst.proofs.Gst.sum.Goals as goal

pub returns-then-by-ge-WEEK_SECONDS : goal.returns-then-by-ge-WEEK_SECONDS
returns-then-by-ge-WEEK_SECONDS c =
    too_far _ _ _ c.args.seconds
    (let it : c.size-by.result ≡ nat_abs c.args.seconds = simp (to_z-of_z c.ranges.seconds) at c.size-by.ensures in it) (let it : non_neg c.args.seconds ≡ false = let same = to_z-of_z c.ranges.seconds in
    not-true _ (sym (simp same at c.below_zero.ensures) ∙ c.if-below_zero.true) in it) c.if-by-ge-WEEK_SECONDS.true

pub returns-then-from-by : goal.returns-then-from-by
returns-then-from-by c =
    let total = c.seconds-from.ensures in
    too_early _ _ _ c.args.seconds
    (let it : c.size-by.result ≡ nat_abs c.args.seconds = simp (to_z-of_z c.ranges.seconds) at c.size-by.ensures in it) (let it : non_neg c.args.seconds ≡ false = let same = to_z-of_z c.ranges.seconds in
    not-true _ (sym (simp same at c.below_zero.ensures) ∙ c.if-below_zero.true) in it)
    c.if-by-ge-WEEK_SECONDS.false (rw total at c.if-from-by.true)

pub returns-then-below_zero : goal.returns-then-below_zero
returns-then-below_zero c =
    let total = c.seconds-from.ensures in
    c.time_at.ensures
    ∙ rw total
    (backward _ _ _ c.args.seconds
    (let it : c.size-by.result ≡ nat_abs c.args.seconds = simp (to_z-of_z c.ranges.seconds) at c.size-by.ensures in it) (let it : non_neg c.args.seconds ≡ false = let same = to_z-of_z c.ranges.seconds in
    not-true _ (sym (simp same at c.below_zero.ensures) ∙ c.if-below_zero.true) in it)
    c.if-by-ge-WEEK_SECONDS.false (rw total at c.if-from-by.false))

pub returns : goal.returns
returns c =
    c.time_at-2.ensures
    ∙ rw c.seconds-from.ensures
    (forward _ _ _ c.args.seconds
    (let it : c.size-by.result ≡ nat_abs c.args.seconds = simp (to_z-of_z c.ranges.seconds) at c.size-by.ensures in it) (let it : non_neg c.args.seconds ≡ true = let same = to_z-of_z c.ranges.seconds in
    not-false _ (sym (simp same at c.below_zero.ensures) ∙ c.if-below_zero.false) in it))
