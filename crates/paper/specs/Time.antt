-- STORE 3: times, a week and a time of week.
use Rattle.std.specs.Prelude.{ℕ, ◌+◌, ◌-◌, ◌*◌, ◌/◌, ◌%◌, Bool, cond, not, ◌&&◌, [], ◌∷◌, leb, ltb, eqb, ℤ, pos, negsuc, neg_ℤ, nat_abs, ◌+ℤ◌, ◌-ℤ◌, ◌*ℤ◌}
use Rattle.std.specs.Int.Signed.{le_z, non_neg, quot_z}
use Rattle.paper.specs.Number.{Answer, done, refused}

-- the seconds of a week
abbrev pub week_seconds : ℕ
week_seconds = 604800

-- the seconds of a subframe
abbrev pub subframe_seconds : ℕ
subframe_seconds = 30

-- the subframes of a week, 20160
abbrev pub week_subframes : ℕ
week_subframes = week_seconds / subframe_seconds

-- the start of the last subframe of a week, 604770
abbrev pub last_start : ℕ
last_start = week_seconds - subframe_seconds

-- STORE 3.1: the greatest week
abbrev pub last_week : ℕ
last_week = 65535

-- STORE 3.6: the most subframes that can be added or taken
abbrev pub most_subframes : ℕ
most_subframes = 71582788

-- STORE 3.1: else it is 5; the test that it is a time of week
abbrev pub is_time : ℕ → Bool
is_time t = ltb t week_seconds

-- STORE 3.4: a start
abbrev pub is_start : ℕ → Bool
is_start t = eqb (t % subframe_seconds) 0

-- STORE 3.4: the start of its subframe
abbrev pub start_of : ℕ → ℕ
start_of t = t / subframe_seconds * subframe_seconds

-- the seconds from the start of week 0 to week w, time t
abbrev pub seconds_of : ℕ → ℕ → ℕ
seconds_of w t = w * week_seconds + t

-- the time so many seconds from the start of week 0; STORE 3.5: 7 outside of the weeks
unfoldable pub time_of_seconds : ℤ → Answer
time_of_seconds (pos s) = cond (leb (s / week_seconds) last_week) (done (s / week_seconds ∷ s % week_seconds ∷ [])) (refused 7)
time_of_seconds (negsuc s) = refused 7

-- STORE 3.5: the exact sum; 7 for a week or more back
unfoldable pub sum_of : ℕ → ℕ → ℤ → Answer
sum_of w t s = cond (le_z s (neg_ℤ (pos week_seconds))) (refused 7) (time_of_seconds (pos (seconds_of w t) +ℤ s))

-- the call: 5, then 7
unfoldable pub add_seconds : ℕ → ℕ → ℤ → Answer
add_seconds w t s = cond (is_time t) (sum_of w t s) (refused 5)

-- the call: 5, then 7 for too many subframes or for the sum
unfoldable pub add_subframes : ℕ → ℕ → ℤ → Answer
add_subframes w t k =
    cond (is_time t)
    (cond (leb (nat_abs k) most_subframes) (sum_of w t (k *ℤ pos subframe_seconds)) (refused 7))
    (refused 5)

-- the call: the start of the subframe, or 5
unfoldable pub subframe_of : ℕ → ℕ → Answer
subframe_of w t = cond (is_time t) (done (w ∷ start_of t ∷ [])) (refused 5)

-- the call: 1 for a start, else 0, or 5
unfoldable pub is_subframe : ℕ → ℕ → Answer
is_subframe w t = cond (is_time t) (done (cond (is_start t) 1 0 ∷ [])) (refused 5)

-- what the call for a difference answers
pub data Difference : Type 0 where
  subframes : ℤ → Difference
  no_difference : ℕ → Difference

-- STORE 3.7: weeks apart in subframes, plus seconds apart in subframes, rounded toward zero; 5 for either time
unfoldable pub difference : ℕ → ℕ → ℕ → ℕ → Difference
difference w t w' t' =
    cond (is_time t && is_time t')
    (subframes ((pos w -ℤ pos w') *ℤ pos week_subframes +ℤ quot_z (pos t -ℤ pos t') (pos subframe_seconds)))
    (no_difference 5)

-- the subframes that a difference says; 0 where it is refused
abbrev pub subframes_of : Difference → ℤ
subframes_of (subframes k) = k
subframes_of (no_difference why) = pos 0

-- STORE 10.9: week w, time t is earlier than week w', time t' where the difference is negative
unfoldable pub is_earlier : ℕ → ℕ → ℕ → ℕ → Bool
is_earlier w t w' t' = not (non_neg (subframes_of (difference w t w' t')))

-- STORE 10.3: the subframes gone by from week w', time t' to week w, time t, which is not earlier
unfoldable pub gone_by : ℕ → ℕ → ℕ → ℕ → ℕ
gone_by w t w' t' = nat_abs (subframes_of (difference w t w' t'))
