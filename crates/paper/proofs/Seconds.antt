-- STORE 3.5, 3.6 and 10.3 in seconds since week 0, by addition: a sum of a time and a span is so many seconds later, and of two starts the
-- one that is not earlier is as many times 30 seconds later as subframes have gone by. Assumes nothing.
use native.Mathlib.Omega.{arith}
use mathlib.Core.Bool.{Bool, true, false, not, cond}
use mathlib.Core.List.{[], ◌∷◌}
use mathlib.Core.Path.{◌≡◌, refl, sym, subst}
use Prim.Native.Nat.{ℕ, zero, suc, ◌+◌, ◌-◌, ◌*◌, ◌/◌, ◌%◌, ◌<◌}
use lib.Dec.{ltb, leb}
use lib.ListN.{get_or}
use lib.IntN.{ℤ, pos, negsuc, nat_abs, neg_ℤ, sub_ℕ, ◌+ℤ◌, ◌-ℤ◌, ◌*ℤ◌}
use lib.Signed.{le_z, non_neg, quot_z}
use borrow.Author.Tests.{ltb-true, ltb-false, lt-ltb}
use Rattle.paper.specs.Number.{Answer, number, values, done, refused}
use Rattle.paper.specs.Time.{week_seconds, week_subframes, subframe_seconds, last_week, most_subframes, is_time, seconds_of, time_of_seconds, sum_of, add_subframes}
use Rattle.paper.specs.Time.{difference, subframes_of, is_earlier, gone_by}

-- ---- whole numbers as differences of natural ones
-- z is a less b
abbrev pub Less : ℤ → ℕ → ℕ → Type 0
Less (pos m) a b = m + b ≡ a
Less (negsuc m) a b = a + suc m ≡ b

-- it depends on the difference alone
same_less : (z : ℤ) (a b c d : ℕ) → a + d ≡ c + b → Less z a b → Less z c d
same_less (pos m) a b c d e h = omega arith
same_less (negsuc m) a b c d e h = omega arith

sub_less : (a b : ℕ) → Less (sub_ℕ a b) a b
sub_less a b = by_order (ltb a b) refl
  where
    by_order : (x : Bool) → ltb a b ≡ x → Less (cond x (negsuc (b - suc a)) (pos (a - b))) a b
    by_order true e = omega (arith, ltb-true a b e)
    by_order false e = omega (arith, ltb-false a b e)

minus_less : (a b : ℕ) → Less (pos a -ℤ pos b) a b
minus_less a zero = omega arith
minus_less a (suc b) = sub_less a (suc b)

pub negated_less : (x a b : ℕ) → a + x ≡ b → Less (neg_ℤ (pos x)) a b
negated_less zero a b e = omega arith
negated_less (suc x) a b e = omega arith

pub sum_less : (y z : ℤ) (a b c d : ℕ) → Less y a b → Less z c d → Less (y +ℤ z) (a + c) (b + d)
sum_less (pos m) (pos n) a b c d h k = omega arith
sum_less (pos m) (negsuc n) a b c d h k = same_less (sub_ℕ m (suc n)) m (suc n) (a + c) (b + d) (omega arith) (sub_less m (suc n))
sum_less (negsuc m) (pos n) a b c d h k = same_less (sub_ℕ n (suc m)) n (suc m) (a + c) (b + d) (omega arith) (sub_less n (suc m))
sum_less (negsuc m) (negsuc n) a b c d h k = omega arith

-- so many times each
pub weeks_less : (z : ℤ) (a b : ℕ) → Less z a b → Less (z *ℤ pos week_subframes) (a * week_subframes) (b * week_subframes)
weeks_less (pos m) a b h = omega arith
weeks_less (negsuc m) a b h = negated_less (suc m * week_subframes) (a * week_subframes) (b * week_subframes) (omega arith)

pub subframes_less : (z : ℤ) (a b : ℕ) → Less z a b → Less (z *ℤ pos subframe_seconds) (a * subframe_seconds) (b * subframe_seconds)
subframes_less (pos m) a b h = omega arith
subframes_less (negsuc m) a b h = negated_less (suc m * subframe_seconds) (a * subframe_seconds) (b * subframe_seconds) (omega arith)

-- of whole subframes nothing is rounded
thirtieth_less : (z : ℤ) (a b : ℕ) → Less z (a * subframe_seconds) (b * subframe_seconds) → Less (quot_z z (pos subframe_seconds)) a b
thirtieth_less (pos m) a b h = omega arith
thirtieth_less (negsuc m) a b h = negated_less (suc m / subframe_seconds) a b (omega arith)

-- ---- a sum
-- the seconds of a time that was answered
abbrev pub seconds_in : Answer → ℕ
seconds_in a = seconds_of (get_or (values a) 0 0) (get_or (values a) 1 0)

module _ (w t : ℕ) (z : ℤ) (a b : ℕ) (h : Less z a b) where
  -- where it is answered, a seconds later and b earlier
  abbrev Sums : Answer → Type 0
  Sums s = number s ≡ 0 → seconds_in s + b ≡ seconds_of w t + a

  at_sums : (x : ℤ) → Less x (seconds_of w t + a) (0 + b) → Sums (time_of_seconds x)
  unfolding time_of_seconds
  at_sums (pos s) l = go (leb (s / week_seconds) last_week)
    where
      go : (in-weeks : Bool) → Sums (cond in-weeks (done (s / week_seconds ∷ s % week_seconds ∷ [])) (refused 7))
      go true e = omega arith
      go false e = absurd (omega arith)
  at_sums (negsuc s) l = λ e. absurd (omega arith)

  pub sum_seconds : Sums (sum_of w t z)
  unfolding sum_of
  sum_seconds = go (le_z z (neg_ℤ (pos week_seconds)))
    where
      go : (back : Bool) → Sums (cond back (refused 7) (time_of_seconds (pos (seconds_of w t) +ℤ z)))
      go true e = absurd (omega arith)
      go false e = at_sums (pos (seconds_of w t) +ℤ z) (sum_less (pos (seconds_of w t)) z (seconds_of w t) 0 a b (omega arith) h) e

-- of so many subframes
pub subframes_seconds : (w t : ℕ) (z : ℤ) (a b : ℕ) → Less z a b → number (add_subframes w t z) ≡ 0
    → seconds_in (add_subframes w t z) + b * subframe_seconds ≡ seconds_of w t + a * subframe_seconds
unfolding add_subframes
subframes_seconds w t z a b h = go (is_time t) (leb (nat_abs z) most_subframes)
  where
    s : Answer
    s = sum_of w t (z *ℤ pos subframe_seconds)

    go : (time few : Bool) → number (cond time (cond few s (refused 7)) (refused 5)) ≡ 0
        → seconds_in (cond time (cond few s (refused 7)) (refused 5)) + b * subframe_seconds ≡ seconds_of w t + a * subframe_seconds
    go true true e = sum_seconds w t (z *ℤ pos subframe_seconds) (a * subframe_seconds) (b * subframe_seconds) (subframes_less z a b h) e
    go true false e = absurd (omega arith)
    go false few e = absurd (omega arith)

-- ---- two starts
module _ (w t w' t' : ℕ) (start : t % subframe_seconds ≡ 0) (start' : t' % subframe_seconds ≡ 0) where
  abbrev apart : ℤ
  apart = (pos w -ℤ pos w') *ℤ pos week_subframes +ℤ quot_z (pos t -ℤ pos t') (pos subframe_seconds)

  -- each start as the subframes since week 0
  abbrev here : ℕ
  here = w * week_subframes + t / subframe_seconds

  abbrev there : ℕ
  there = w' * week_subframes + t' / subframe_seconds

  apart_less : Less apart here there
  apart_less =
      let seconds : Less (pos t -ℤ pos t') (t / subframe_seconds * subframe_seconds) (t' / subframe_seconds * subframe_seconds) =
      same_less (pos t -ℤ pos t') t t' (t / subframe_seconds * subframe_seconds) (t' / subframe_seconds * subframe_seconds) (omega arith) (minus_less t t') in
      sum_less ((pos w -ℤ pos w') *ℤ pos week_subframes) (quot_z (pos t -ℤ pos t') (pos subframe_seconds))
      (w * week_subframes) (w' * week_subframes) (t / subframe_seconds) (t' / subframe_seconds)
      (weeks_less (pos w -ℤ pos w') w w' (minus_less w w'))
      (thirtieth_less (pos t -ℤ pos t') (t / subframe_seconds) (t' / subframe_seconds) seconds)

  difference_is : t < week_seconds → t' < week_seconds → subframes_of (difference w t w' t') ≡ apart
  unfolding difference
  difference_is h h' = rw (lt-ltb t week_seconds h, lt-ltb t' week_seconds h')

  not_below : (z : ℤ) → Less z here there → not (non_neg z) ≡ false → seconds_of w t ≡ seconds_of w' t' + nat_abs z * subframe_seconds
  not_below (pos k) h e = omega arith
  not_below (negsuc k) h e = absurd (let x : ◌≡◌ {A = ℕ} 0 1 = cc in omega arith)

  pub gone_seconds : t < week_seconds → t' < week_seconds → is_earlier w t w' t' ≡ false
      → seconds_of w t ≡ seconds_of w' t' + gone_by w t w' t' * subframe_seconds
  unfolding is_earlier gone_by
  gone_seconds h h' e = not_below (subframes_of (difference w t w' t')) (subst (λ (z : ℤ). Less z here there) (sym (difference_is h h')) apart_less) e
