-- The head of a record, its satellite and its count, decides whether the record answers; the head of a row has its subframe.
-- Assumes nothing.
use native.Mathlib.Omega.{arith}
use mathlib.Core.Path.{◌≡◌, sym, ◌∙◌}
use mathlib.Core.Bool.{Bool}
use mathlib.Core.List.{List}
use Prim.Native.Nat.{ℕ, ◌+◌, ◌≤◌, ◌<◌}
use lib.Dec.{ltb}
use lib.ListN.{take, drop}
use lib.Seq.{take-take}
use Rattle.paper.specs.Parts.{part}
use Rattle.paper.specs.Record.{Family, ages_at, size}
use Rattle.paper.specs.Room.{week_at, time_at, head_size, row_size, depth, slots, current, week, time, row_of, record_at, record_of}
use Rattle.paper.specs.Ask.{has_enough, enough_slot, row_back, time_before}
use Rattle.paper.proofs.Big.{be16_part, be32_part}
use Rattle.paper.proofs.Views.{record_fits}
use Rattle.paper.proofs.RecordViews.{same_count, same_satellite}

-- ---- the tests of the two searches
abbrev pub is_enough : Family → ℕ → List ℕ → ℕ → Bool
is_enough f sat row i = has_enough sat (record_of f i row)

abbrev pub answers_at : Family → ℕ → List ℕ → ℕ → Bool
answers_at f sat room j = ltb (enough_slot f sat (slots room) (row_of (row_back (depth room) (current room) j) room)) (slots room)

-- ---- the head of a record
pub head_inside : (f : Family) (n i : ℕ) → i < n → record_at f i + ages_at ≤ row_size n
head_inside f n i h = omega (arith, record_fits f n i h)

module _ (f : Family) (sat i : ℕ) (row : List ℕ) where
  abbrev head : List ℕ
  head = part (record_at f i) ages_at row

  same_head : take ages_at head ≡ take ages_at (record_of f i row)
  same_head =
      take-take ages_at ages_at (drop (record_at f i) row) (omega arith)
      ∙ sym (take-take ages_at (size f) (drop (record_at f i) row) (omega arith))

  pub enough_head : has_enough sat head ≡ has_enough sat (record_of f i row)
  unfolding has_enough
  enough_head = rw (same_satellite head (record_of f i row) same_head, same_count head (record_of f i row) same_head)

-- ---- the head of a row
pub time_head : (f : Family) (at k : ℕ) (room rec : List ℕ) → head_size ≤ k
    → time_before f (part at head_size room) rec ≡ time_before f (part at k room) rec
unfolding time_before
time_head f at k room rec h =
    let w : week (part at head_size room) ≡ week (part at k room) =
    be16_part at head_size room week_at (omega arith) ∙ sym (be16_part at k room week_at (omega arith)) in
    let t : time (part at head_size room) ≡ time (part at k room) =
    be32_part at head_size room time_at (omega arith) ∙ sym (be32_part at k room time_at (omega arith)) in
    rw (w, t)
