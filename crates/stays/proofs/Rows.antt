-- A row that a store may hold is one still after each change that a call makes to it. Assumes nothing.
use mathlib.Core.List.{List}
use mathlib.Core.Path.{◌≡◌, sym, ◌∙◌}
use Prim.Native.Nat.{ℕ, ◌+◌, ◌%◌, ◌<◌, ◌≤◌}
use native.Mathlib.Omega.{arith}
use lib.ListN.{get_or}
use Rattle.paper.specs.Big.{be16, be32}
use Rattle.paper.specs.Record.{Family, CED, Timing, blank_record}
use Rattle.paper.specs.Time.{subframe_seconds, last_start}
use Rattle.paper.specs.Room.{mark_at, week_at, time_at, spare_at, head_size, mark, week, time, spare, record_of}
use Rattle.paper.specs.Store.{most_in}
use Rattle.paper.specs.Satellite.{most_satellites}
use Rattle.paper.proofs.Big.{be16_same}
use Rattle.paper.proofs.Views.{other}
use Rattle.paper.proofs.StoreFacts.{RecordFacts, RowFacts, most_in_marked}
use Rattle.stays.proofs.Records.{blank_record_lem}

-- what holds of a family and of the other holds of both
pub either_family : (P : Family → Type 0) (f : Family) → P f → P (other f) → (g : Family) → P g
either_family P CED a b CED = a
either_family P CED a b Timing = b
either_family P Timing a b CED = b
either_family P Timing a b Timing = a

-- ---- the head of a row
-- rows whose heads are the same
abbrev pub SameHead : List ℕ → List ℕ → Type 0
SameHead x y = (k : ℕ) → k < head_size → get_or y k 0 ≡ get_or x k 0

pub same_week : (x y : List ℕ) → SameHead x y → week y ≡ week x
same_week x y e = be16_same y x week_at week_at (e week_at (omega arith)) (e (week_at + 1) (omega arith))

pub same_time : (x y : List ℕ) → SameHead x y → time y ≡ time x
unfolding be32
same_time x y e =
    rw (
      be16_same y x time_at time_at (e time_at (omega arith)) (e (time_at + 1) (omega arith)),
      be16_same y x (time_at + 2) (time_at + 2) (e (time_at + 2) (omega arith)) (e (time_at + 3) (omega arith)),
    )

pub same_most : (x y : List ℕ) → SameHead x y → most_in y ≡ most_in x
unfolding most_in
same_most x y e = rw (e mark_at (omega arith))

-- ---- the head stays, the records stay allowed
pub row_stays : (n : ℕ) (x y : List ℕ) → SameHead x y → ((f : Family) (i : ℕ) → i < n → RecordFacts f (most_in x) (record_of f i y)) → RowFacts n x → RowFacts n y
row_stays n x y e records R =
    record {
      mark1 = rw (e mark_at (omega arith)) R.mark1;
      spare0 = e spare_at (omega arith) ∙ R.spare0;
      blank = λ z. let b = R.blank (sym (e mark_at (omega arith)) ∙ z) in (same_week x y e ∙ b.0, same_time x y e ∙ b.1);
      subframe = λ z. let s = R.subframe (sym (e mark_at (omega arith)) ∙ z) in (rw (same_time x y e) s.0, rw (same_time x y e) s.1);
      records = λ f i h. rw (same_most x y e) (records f i h);
    }

-- a row whose head is all zero and whose records are blank
pub blank_row_lem : (n : ℕ) (row : List ℕ) → ((k : ℕ) → k < head_size → get_or row k 0 ≡ 0) → ((f : Family) (i : ℕ) → i < n → record_of f i row ≡ blank_record f) → RowFacts n row
unfolding be32 be16
blank_row_lem n row e records =
    record {
      mark1 = omega (arith, e mark_at (omega arith));
      spare0 = e spare_at (omega arith);
      blank = λ z. (
        rw (e week_at (omega arith), e (week_at + 1) (omega arith)),
        rw (e time_at (omega arith), e (time_at + 1) (omega arith), e (time_at + 2) (omega arith), e (time_at + 3) (omega arith)),
      );
      subframe = λ z. absurd (omega (arith, z, e mark_at (omega arith)));
      records = λ f i h. rw (records f i h) (blank_record_lem f (most_in row));
    }

-- a row marked with a subframe's start, whose records have satellites up to 36
pub marked_row : (n t : ℕ) (row : List ℕ) → mark row ≡ 1 → spare row ≡ 0 → time row ≡ t → t ≤ last_start → t % subframe_seconds ≡ 0
    → ((f : Family) (i : ℕ) → i < n → RecordFacts f most_satellites (record_of f i row)) → RowFacts n row
marked_row n t row m s e h g records =
    record {
      mark1 = omega (arith, m);
      spare0 = s;
      blank = λ z. absurd (omega (arith, m, z));
      subframe = λ z. (rw e h, rw e g);
      records = λ f i l. rw (most_in_marked row m) (records f i l);
    }
