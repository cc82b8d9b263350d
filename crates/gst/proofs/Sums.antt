-- The exact sum of `paper`, by the sign and the size of what is added.
use native.Mathlib.Omega.{arith}
use mathlib.Core.Path.{◌≡◌}
use mathlib.Core.Bool.{true, false}
use borrow.Author.Tests.{le-ltb, lt-ltb, le-leb, lt-leb}
use Prim.Native.Nat.{ℕ, suc, ◌+◌, ◌-◌, ◌≤◌, ◌<◌}
use lib.IntN.{ℤ, pos, negsuc, nat_abs}
use lib.Signed.{non_neg}
use Rattle.paper.specs.Number.{refused}
use Rattle.paper.specs.Time.{seconds_of, week_seconds, time_of_seconds, sum_of}

-- a week or more backward
pub too_far :
    (w t k : ℕ) (s : ℤ) → k ≡ nat_abs s → non_neg s ≡ false → week_seconds ≤ k → refused 7 ≡ sum_of w t s
unfolding sum_of
too_far w t k (pos n) e h l = absurd (let y : ◌≡◌ {A = ℕ} 0 1 = cc in omega arith)
too_far w t k (negsuc n) e h l = simp (le-leb 604799 n (omega arith))

-- to before the start of week 0
pub too_early :
    (w t k : ℕ) (s : ℤ) →
    k ≡ nat_abs s → non_neg s ≡ false → k < week_seconds → seconds_of w t < k → refused 7 ≡ sum_of w t s
unfolding sum_of time_of_seconds
too_early w t k (pos n) e h l m = absurd (let y : ◌≡◌ {A = ℕ} 0 1 = cc in omega arith)
too_early w t k (negsuc n) e h l m =
    simp (lt-leb 604799 n (omega arith), lt-ltb (seconds_of w t) (suc n) (omega arith))

pub backward :
    (w t k : ℕ) (s : ℤ) →
    k ≡ nat_abs s → non_neg s ≡ false → k < week_seconds → k ≤ seconds_of w t →
    time_of_seconds (pos (seconds_of w t - k)) ≡ sum_of w t s
unfolding sum_of
backward w t k (pos n) e h l m = absurd (let y : ◌≡◌ {A = ℕ} 0 1 = cc in omega arith)
backward w t k (negsuc n) e h l m =
    simp (lt-leb 604799 n (omega arith), le-ltb (seconds_of w t) (suc n) (omega arith), e)

pub forward :
    (w t k : ℕ) (s : ℤ) → k ≡ nat_abs s → non_neg s ≡ true → time_of_seconds (pos (seconds_of w t + k)) ≡ sum_of w t s
unfolding sum_of
forward w t k (pos n) e h = simp e
forward w t k (negsuc n) e h = absurd (let y : ◌≡◌ {A = ℕ} 0 1 = cc in omega arith)
