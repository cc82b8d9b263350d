-- The two questions of the ageing rule, of the current row as it was lent. Assumes nothing.
use mathlib.Core.Bool.{true, false, not}
use mathlib.Core.List.{List}
use mathlib.Core.Path.{◌≡◌, refl}
use Prim.Native.Nat.{ℕ, min}
use lib.IntN.{ℤ, nat_abs}
use lib.Signed.{non_neg}
use Rattle.paper.specs.Time.{difference, subframes_of, is_earlier, gone_by}
use Rattle.paper.specs.Record.{oldest}
use Rattle.paper.specs.Room.{current, by_time, row_of, week, time, marked}
use Rattle.paper.specs.Feed.{comes_earlier, rises_by}

module _ (w t : ℕ) (room : List ℕ) where
  -- under rule 0 no word comes earlier, and ages rise by one
  pub none_earlier : by_time room ≡ false → false ≡ comes_earlier w t room
  unfolding comes_earlier
  none_earlier h = rw h

  pub rise_one : by_time room ≡ false → 1 ≡ min oldest (rises_by w t room)
  unfolding rises_by
  rise_one h = rw h refl

  module _ (row : List ℕ) (e : row ≡ row_of (current room) room) (h : by_time room ≡ true) where
    pub blank_earlier : marked row ≡ false → false ≡ comes_earlier w t room
    unfolding comes_earlier
    blank_earlier m = rw (← e, h, m)

    -- the subframes that T comes after the row's
    module _ (k : ℤ) (d : k ≡ subframes_of (difference w t (week row) (time row))) where
      pub marked_earlier : marked row ≡ true → not (non_neg k) ≡ comes_earlier w t room
      unfolding comes_earlier is_earlier
      marked_earlier m = rw (← e, h, m, ← d)

      pub rise_gone : min oldest (nat_abs k) ≡ min oldest (rises_by w t room)
      unfolding rises_by gone_by
      rise_gone = rw (← e, h, ← d)
