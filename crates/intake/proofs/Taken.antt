-- How much of a part is taken: never more than it has, and something of one that has bytes where the output takes the longest lines. The
-- end inside an item is 14, and taken where its line fits. Assumes nothing.
use native.Mathlib.Omega.{arith}
use mathlib.Core.Path.{◌≡◌, refl, ap}
use mathlib.Core.Bool.{Bool, true, false, cond}
use mathlib.Core.List.{List, [], ◌∷◌}
use Prim.Native.Nat.{ℕ, suc, ◌+◌, ◌≤◌, ◌<◌}
use lib.ListN.{length}
use borrow.Author.Tests.{lt-ltb, le-ltb}
use Rattle.lines.specs.Lines.{longest_line}
use Rattle.intake.specs.Input.{Item, cut, Stage, going, ended, stage_after, items_with, cut_short, stage_at_end, items_at_end, most_for, room_of, lines_of}
use Rattle.intake.specs.Reader.{full, part_taken, end_fits, stage_ended, items_ended, stage_number, number_at_end}

one_or_none : (b : Bool) (later n : ℕ) → later ≤ n → cond b 0 (suc later) ≤ suc n
one_or_none true later n h = omega arith
one_or_none false later n h = omega arith

pub part_taken_most : (traced : Bool) (limit said : ℕ) (room : List ℕ) (s : Stage) (l : List ℕ) → part_taken traced limit said room s l ≤ length l
unfolding part_taken
part_taken_most traced limit said room s [] = omega arith
part_taken_most traced limit said room s (b ∷ l) =
    let items : List Item = items_with s b in
    one_or_none (full traced limit said items) _ (length l) (part_taken_most traced limit (said + length (lines_of traced room items)) (room_of room items) (stage_after s b) l)

-- nothing is written yet, and the longest lines fit
pub part_taken_some : (traced : Bool) (limit : ℕ) (room : List ℕ) (s : Stage) (l : List ℕ) → most_for traced ≤ limit → 0 < length l → 0 < part_taken traced limit 0 room s l
unfolding part_taken
part_taken_some traced limit room s [] h n = omega arith
part_taken_some traced limit room s (b ∷ l) h n = rw (not_full (items_with s b)) (omega arith)
  where
    not_full : (items : List Item) → full traced limit 0 items ≡ false
    not_full [] = refl
    not_full (item ∷ rest) = le-ltb limit (0 + most_for traced) (omega arith)

-- the line of an item alone is no longer than what it prints
pub line_fits : (traced : Bool) → longest_line ≤ most_for traced
line_fits true = omega arith
line_fits false = omega arith

-- ---- the end of the input inside an item
module _ (traced : Bool) (out kept : List ℕ) (some : length kept ≡ 0 → ⊥) where
  items_cut : (l : List ℕ) → (length l ≡ 0 → ⊥) → items_at_end (going l) ≡ cut ∷ []
  unfolding items_at_end
  items_cut [] h = absurd (h refl)
  items_cut (b ∷ l) h = refl

  stage_cut : (l : List ℕ) → (length l ≡ 0 → ⊥) → stage_at_end (going l) ≡ ended cut_short
  unfolding stage_at_end
  stage_cut [] h = absurd (h refl)
  stage_cut (b ∷ l) h = refl

  -- its number, whether its line fits or not
  number_cut : number_at_end (going kept) ≡ cut_short
  number_cut = ap stage_number (stage_cut kept some)

  -- its line might not fit
  short_fits : length out < most_for traced → end_fits traced out (going kept) ≡ false
  unfolding end_fits
  short_fits h = rw (items_cut kept some, lt-ltb (length out) (0 + most_for traced) (omega arith)) refl

  pub end_short :
      length out < most_for traced
      → (end_fits traced out (going kept) ≡ false)
      × ((stage_ended traced out (going kept) ≡ going kept) × ((items_ended traced out (going kept) ≡ []) × (number_at_end (going kept) ≡ cut_short)))
  unfolding stage_ended items_ended
  end_short h = (short_fits h, (rw (short_fits h) refl, (rw (short_fits h) refl, number_cut)))

  -- it fits
  long_fits : most_for traced ≤ length out → end_fits traced out (going kept) ≡ true
  unfolding end_fits
  long_fits h = rw (items_cut kept some, le-ltb (length out) (0 + most_for traced) (omega arith)) refl

  pub end_long :
      most_for traced ≤ length out
      → (end_fits traced out (going kept) ≡ true)
      × ((stage_ended traced out (going kept) ≡ ended cut_short) × ((items_ended traced out (going kept) ≡ cut ∷ []) × (number_at_end (going kept) ≡ cut_short)))
  unfolding stage_ended items_ended
  end_long h = (long_fits h, (rw (long_fits h) (stage_cut kept some), (rw (long_fits h) (items_cut kept some), number_cut)))
