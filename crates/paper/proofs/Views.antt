-- What stands where in a room after a change: its header, its rows, the records of a row, and the bytes past the rows; for a change
-- of one row, of one record, of all records of a row and of the room. Assumes nothing.
use mathlib.Core.Bool.{cond}
use mathlib.Core.List.{List}
use mathlib.Core.Logic.{◌≢◌, ◌⊎◌, inl, inr}
use mathlib.Core.Path.{◌≡◌, refl, ap, ◌∙◌}
use Prim.Native.Nat.{ℕ, ◌+◌, ◌*◌, ◌-◌, ◌<◌, ◌≤◌}
use native.Mathlib.Omega.{arith}
use native.Mathlib.Decide.{dec_lt}
use lib.ListN.{length, take, drop, get_or, set}
use lib.Dec.{leb}
use borrow.Author.Tests.{le-leb, lt-leb}
use lib.Seq.{drop-set-lt}
use Rattle.paper.specs.Parts.{part, on_part}
use Rattle.paper.specs.Record.{Family, CED, Timing, record_bits, data_bytes, bits_past, size}
use Rattle.paper.specs.Room.{depth_at, slots_at, current_at, header_size, head_size, slot_size, slot_at, base, row_size, room_size}
use Rattle.paper.specs.Room.{depth, slots, current, row_at, row_of, record_at, record_of, in_slot, each_record, every_record}
use Rattle.paper.specs.Store.{InRange}
use Rattle.paper.proofs.Parts.{Keeps, mul_within, length_part, part_part, on_part_length, on_part_part, on_part_before, on_part_get_d_before}
use Rattle.paper.proofs.Parts.{on_part_drop, on_part_after, on_parts_length, on_parts_get_d_before, on_parts_drop, on_parts_part, on_parts_within}
use Rattle.paper.specs.Ask.{row_back}

-- ---- where rows and records lie
-- row r of a room of rows of n slots: `row_of r room` is the one of the room's own n
abbrev pub row_in : ℕ → ℕ → List ℕ → List ℕ
row_in n r room = part (row_at n r) (row_size n) room

pub row_fits : (d n r : ℕ) → r < d → row_at n r + row_size n ≤ room_size d n
row_fits d n r h = omega (arith, mul_within r d (row_size n) h)

pub row_before : (n r c : ℕ) → r < c → row_at n r + row_size n ≤ row_at n c
row_before n r c h = omega (arith, mul_within r c (row_size n) h)

pub length_row : (d n r : ℕ) (room : List ℕ) → room_size d n ≤ length room → r < d → length (row_in n r room) ≡ row_size n
length_row d n r room fits h = length_part (row_at n r) (row_size n) room (omega (arith, row_fits d n r h))

-- where the row r ends in a room whose header is in range
pub row_inside : (room : List ℕ) → InRange room → (r : ℕ) → r < depth room → row_at (slots room) r + row_size (slots room) ≤ length room
row_inside room F r h = omega (arith, row_fits (depth room) (slots room) r h, F.fits)

pub length_row_of : (room : List ℕ) → InRange room → (r : ℕ) → r < depth room → length (row_of r room) ≡ row_size (slots room)
length_row_of room F r h = length_row (depth room) (slots room) r room F.fits h

-- the row so many back is a row
pub back_below : (d c j : ℕ) → c < d → j < d → row_back d c j < d
unfolding row_back
back_below d c j h g = go (dec_lt c j)
  where
    go : Dec (c < j) → cond (leb j c) (c - j) (d + c - j) < d
    go (yes i) = simp (lt-leb _ _ i) (omega arith)
    go (no i) = let e : j ≤ c = omega arith in simp (le-leb _ _ e) (omega arith)

-- a room with the same length, D and N, and a current row below D
pub facts_same : (x y : List ℕ) → InRange x → length y ≡ length x → depth y ≡ depth x → slots y ≡ slots x → current y < depth x → InRange y
facts_same x y F l d n c =
    record {
      long = rw l F.long;
      some_row = rw d F.some_row;
      rows_within = rw d F.rows_within;
      some_slot = rw n F.some_slot;
      slots_within = rw n F.slots_within;
      in_ring = rw d c;
      fits = rw (l, d, n) F.fits;
    }

-- the other family
abbrev pub other : Family → Family
other CED = Timing
other Timing = CED

pub slot_fits : (f : Family) → base f + size f ≤ slot_size
slot_fits CED = omega arith
slot_fits Timing = omega arith

pub record_fits : (f : Family) (n i : ℕ) → i < n → record_at f i + size f ≤ row_size n
record_fits f n i h = omega (arith, slot_fits f)

pub length_record : (f : Family) (n i : ℕ) (row : List ℕ) → length row ≡ row_size n → i < n → length (record_of f i row) ≡ size f
length_record f n i row l h = length_part (record_at f i) (size f) row (omega (arith, record_fits f n i h))

-- a record of a slot, as a slice of the row
pub record_in_slot : (f : Family) (i : ℕ) (row : List ℕ) → part (base f) (size f) (part (slot_at i) slot_size row) ≡ record_of f i row
record_in_slot f i row = part_part (base f) (size f) (slot_at i) slot_size row (slot_fits f)

-- the data's bytes hold its bits and those past the end
pub bits_and_bytes : (f : Family) → record_bits f + bits_past ≡ 8 * data_bytes f
bits_and_bytes CED = refl
bits_and_bytes Timing = refl

-- ---- one row of a room changed
module _ (n c : ℕ) (g : List ℕ → List ℕ) (keep : Keeps g (row_size n)) (room : List ℕ) (h : row_at n c + row_size n ≤ length room) where
  pub on_row_length : length (on_part g (row_at n c) (row_size n) room) ≡ length room
  on_row_length = on_part_length g (row_size n) keep (row_at n c) room h

  pub on_row_header : (i : ℕ) → i < header_size → get_or (on_part g (row_at n c) (row_size n) room) i 0 ≡ get_or room i 0
  on_row_header i l = on_part_get_d_before g (row_size n) keep (row_at n c) room h i (omega arith)

  pub on_row_here : row_in n c (on_part g (row_at n c) (row_size n) room) ≡ g (row_in n c room)
  on_row_here = on_part_part g (row_size n) keep (row_at n c) room h

  pub on_row_there : (r : ℕ) → r ≢ c → row_in n r (on_part g (row_at n c) (row_size n) room) ≡ row_in n r room
  on_row_there r e = go (dec_lt r c)
    where
      go : Dec (r < c) → row_in n r (on_part g (row_at n c) (row_size n) room) ≡ row_in n r room
      go (yes l) = on_part_before g (row_size n) keep (row_at n c) room h (row_at n r) (row_size n) (row_before n r c l)
      go (no l) = on_part_after g (row_size n) keep (row_at n c) room h (row_at n r) (row_size n) (row_before n c r (omega arith))

  -- bytes past the rows
  pub on_row_past : (b : ℕ) → row_at n c + row_size n ≤ b → drop b (on_part g (row_at n c) (row_size n) room) ≡ drop b room
  on_row_past b l = on_part_drop g (row_size n) keep (row_at n c) room h b l

-- ---- a byte of the header changed
pub header_set_row : (n r i x : ℕ) (room : List ℕ) → i < header_size → row_in n r (set room i x) ≡ row_in n r room
header_set_row n r i x room h = ap (take (row_size n)) (drop-set-lt (row_at n r) room i x (omega arith))

-- ---- one record of a row changed
module _ (f : Family) (n i : ℕ) (g : List ℕ → List ℕ) (keep : Keeps g (size f)) (row : List ℕ) (l : length row ≡ row_size n) (h : i < n) where
  record_here_fits : record_at f i + size f ≤ length row
  record_here_fits = omega (arith, record_fits f n i h)

  pub on_record_length : length (on_part g (record_at f i) (size f) row) ≡ row_size n
  on_record_length = on_part_length g (size f) keep (record_at f i) row record_here_fits ∙ l

  pub on_record_head : (k : ℕ) → k < head_size → get_or (on_part g (record_at f i) (size f) row) k 0 ≡ get_or row k 0
  on_record_head k b = on_part_get_d_before g (size f) keep (record_at f i) row record_here_fits k (omega arith)

  pub on_record_here : record_of f i (on_part g (record_at f i) (size f) row) ≡ g (record_of f i row)
  on_record_here = on_part_part g (size f) keep (record_at f i) row record_here_fits

  apart : (a k : ℕ) → (a + k ≤ record_at f i) ⊎ (record_at f i + size f ≤ a)
      → part a k (on_part g (record_at f i) (size f) row) ≡ part a k row
  apart a k (inl b) = on_part_before g (size f) keep (record_at f i) row record_here_fits a k b
  apart a k (inr b) = on_part_after g (size f) keep (record_at f i) row record_here_fits a k b

  pub on_record_there : (j : ℕ) → j ≢ i → record_of f j (on_part g (record_at f i) (size f) row) ≡ record_of f j row
  on_record_there j e = apart (record_at f j) (size f) (go (dec_lt j i))
    where
      go : Dec (j < i) → (record_at f j + size f ≤ record_at f i) ⊎ (record_at f i + size f ≤ record_at f j)
      go (yes b) = inl (omega (arith, slot_fits f))
      go (no b) = inr (omega (arith, slot_fits f, e))

  pub on_record_other : (j : ℕ) → record_of (other f) j (on_part g (record_at f i) (size f) row) ≡ record_of (other f) j row
  on_record_other j = apart (record_at (other f) j) (size (other f)) (go f (dec_lt j i) (dec_lt i j))
    where
      go : (f : Family) → Dec (j < i) → Dec (i < j)
          → (record_at (other f) j + size (other f) ≤ record_at f i) ⊎ (record_at f i + size f ≤ record_at (other f) j)
      go CED (yes a) b = inl (omega arith)
      go CED (no a) b = inr (omega arith)
      go Timing a (yes b) = inr (omega arith)
      go Timing a (no b) = inl (omega arith)

-- ---- all records of a family of a row changed
module _ (f : Family) (g : List ℕ → List ℕ) (keep : Keeps g (size f)) where
  keeps_in_slot : Keeps (in_slot f g) slot_size
  keeps_in_slot slot e = on_part_length g (size f) keep (base f) slot (omega (arith, slot_fits f)) ∙ e

  slot_other : (f' : Family) → f' ≡ other f → (slot : List ℕ) → length slot ≡ slot_size
      → part (base f') (size f') (in_slot f g slot) ≡ part (base f') (size f') slot
  slot_other CED e slot l = on_part_before g (size f) keep (base f) slot (omega (arith, slot_fits f)) (base CED) (size CED) (go f e)
    where
      go : (f : Family) → CED ≡ other f → size CED ≤ base f
      go CED e = let z : CED ≡ Timing = e in absurd (omega (arith, ap size z))
      go Timing e = omega arith
  slot_other Timing e slot l = on_part_after g (size f) keep (base f) slot (omega (arith, slot_fits f)) (base Timing) (size Timing) (go f e)
    where
      go : (f : Family) → Timing ≡ other f → base f + size f ≤ base Timing
      go CED e = omega arith
      go Timing e = let z : Timing ≡ CED = e in absurd (omega (arith, ap size z))

  module _ (n : ℕ) (row : List ℕ) (l : length row ≡ row_size n) where
    slots_fit : head_size + n * slot_size ≤ length row
    slots_fit = omega arith

    pub each_record_length : length (each_record f n g row) ≡ row_size n
    unfolding each_record
    each_record_length = on_parts_length (in_slot f g) slot_size keeps_in_slot n head_size row slots_fit ∙ l

    pub each_record_head : (k : ℕ) → k < head_size → get_or (each_record f n g row) k 0 ≡ get_or row k 0
    unfolding each_record
    each_record_head k b = on_parts_get_d_before (in_slot f g) slot_size keeps_in_slot n head_size k row slots_fit b

    length_slot : (i : ℕ) → i < n → length (part (slot_at i) slot_size row) ≡ slot_size
    length_slot i h = length_part (slot_at i) slot_size row (omega arith)

    pub each_record_here : (i : ℕ) → i < n → record_of f i (each_record f n g row) ≡ g (record_of f i row)
    unfolding each_record
    each_record_here i h =
        on_parts_within (in_slot f g) slot_size keeps_in_slot n head_size i (base f) (size f) row slots_fit h (slot_fits f)
        ∙ on_part_part g (size f) keep (base f) (part (slot_at i) slot_size row) (omega (arith, slot_fits f, length_slot i h))
        ∙ ap g (record_in_slot f i row)

    pub each_record_other : (i : ℕ) → i < n → record_of (other f) i (each_record f n g row) ≡ record_of (other f) i row
    unfolding each_record
    each_record_other i h =
        on_parts_within (in_slot f g) slot_size keeps_in_slot n head_size i (base (other f)) (size (other f)) row slots_fit h (slot_fits (other f))
        ∙ slot_other (other f) refl (part (slot_at i) slot_size row) (length_slot i h)
        ∙ record_in_slot (other f) i row

  pub keeps_each_record : (n : ℕ) → Keeps (each_record f n g) (row_size n)
  keeps_each_record n row l = each_record_length n row l

  -- ---- all records of a family of a room changed
  module _ (room : List ℕ) (fits : room_size (depth room) (slots room) ≤ length room) where
    pub every_record_length : length (every_record f g room) ≡ length room
    unfolding every_record
    every_record_length =
        on_parts_length (each_record f (slots room) g) (row_size (slots room)) (keeps_each_record (slots room)) (depth room) header_size room fits

    pub every_record_header : (i : ℕ) → i < header_size → get_or (every_record f g room) i 0 ≡ get_or room i 0
    unfolding every_record
    every_record_header i b =
        on_parts_get_d_before (each_record f (slots room) g) (row_size (slots room)) (keeps_each_record (slots room)) (depth room) header_size i room fits b

    every_record_row_in : (r : ℕ) → r < depth room → row_in (slots room) r (every_record f g room) ≡ each_record f (slots room) g (row_of r room)
    unfolding every_record
    every_record_row_in r h =
        on_parts_part (each_record f (slots room) g) (row_size (slots room)) (keeps_each_record (slots room)) (depth room) header_size r room fits h

    pub every_record_row : (r : ℕ) → r < depth room → row_of r (every_record f g room) ≡ each_record f (slots room) g (row_of r room)
    every_record_row r h = rw (every_record_header slots_at (omega arith)) (every_record_row_in r h)

    pub every_record_past : (b : ℕ) → room_size (depth room) (slots room) ≤ b → drop b (every_record f g room) ≡ drop b room
    unfolding every_record
    every_record_past b h =
        on_parts_drop (each_record f (slots room) g) (row_size (slots room)) (keeps_each_record (slots room)) (depth room) header_size b room fits h

  -- the same of a room with the facts of a store, record by record
  module _ (room : List ℕ) (F : InRange room) where
    pub every_record_facts : InRange (every_record f g room)
    every_record_facts =
        facts_same room (every_record f g room) F (every_record_length room F.fits)
        (every_record_header room F.fits depth_at (omega arith))
        (every_record_header room F.fits slots_at (omega arith))
        (rw (every_record_header room F.fits current_at (omega arith)) F.in_ring)

    module _ (r : ℕ) (h : r < depth room) where
      pub every_record_head : (k : ℕ) → k < head_size → get_or (row_of r (every_record f g room)) k 0 ≡ get_or (row_of r room) k 0
      every_record_head k b =
          ap (λ (row : List ℕ). get_or row k 0) (every_record_row room F.fits r h)
          ∙ each_record_head (slots room) (row_of r room) (length_row_of room F r h) k b

      pub every_record_here : (i : ℕ) → i < slots room → record_of f i (row_of r (every_record f g room)) ≡ g (record_of f i (row_of r room))
      every_record_here i b =
          ap (record_of f i) (every_record_row room F.fits r h) ∙ each_record_here (slots room) (row_of r room) (length_row_of room F r h) i b

      pub every_record_other : (i : ℕ) → i < slots room → record_of (other f) i (row_of r (every_record f g room)) ≡ record_of (other f) i (row_of r room)
      every_record_other i b =
          ap (record_of (other f) i) (every_record_row room F.fits r h) ∙ each_record_other (slots room) (row_of r room) (length_row_of room F r h) i b
