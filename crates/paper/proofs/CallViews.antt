-- What a fresh call, a tag and a reset leave where in a room. Assumes nothing.
use mathlib.Core.List.{List}
use mathlib.Core.Path.{◌≡◌, refl, ap, ◌∙◌}
use Prim.Native.Nat.{ℕ, ◌<◌, ◌≤◌}
use native.Mathlib.Omega.{arith}
use lib.ListN.{length, take, drop, get_or, replicate, get_or-replicate}
use lib.Seq.{take_at, drop_at, take_all}
use Rattle.paper.specs.Parts.{part, on_part}
use Rattle.paper.specs.Record.{Family, CED, Timing, size, satellite, data_of, with_count, blank_record}
use Rattle.paper.specs.Room.{depth_at, slots_at, current_at, header_size, head_size, slot_size, base, row_size, room_size, depth, slots, current, row_at, row_of, record_of, every_record}
use Rattle.paper.specs.Fresh.{header, blank_slot, blank_row, fresh}
use Rattle.paper.specs.Store.{InRange}
use Rattle.paper.specs.Tag.{credited, tagged}
use Rattle.paper.specs.Reset.{reset}
use native.Mathlib.Nat.{zero-add}
use Rattle.paper.proofs.Parts.{Keeps, on_part_length, on_part_drop, on_part_after, on_part_get_d_in, on_parts_length, on_parts_get_d_before, on_parts_drop, on_parts_part, on_parts_within}
use Rattle.paper.proofs.Views.{row_in, length_row, other, slot_fits, every_record_length, every_record_header}
use Rattle.paper.proofs.Views.{every_record_past, every_record_facts, every_record_head, every_record_here, every_record_other}
use Rattle.paper.proofs.Lengths.{keeps_const, keeps_with_count, keeps_credited, length_blank, length_blank_slot, keeps_blank_row}

-- ---- a fresh room
in_blank_slot : (f : Family) → part (base f) (size f) blank_slot ≡ blank_record f
unfolding blank_slot
in_blank_slot CED = take_at (blank_record CED) (blank_record Timing) (size CED) (length_blank CED)
in_blank_slot Timing =
    ap (take (size Timing)) (drop_at (blank_record CED) (blank_record Timing) (size CED) (length_blank CED))
    ∙ take_all (size Timing) (blank_record Timing) (omega (arith, length_blank Timing))

module _ (n : ℕ) (row : List ℕ) (l : length row ≡ row_size n) where
  abbrev blank_head : List ℕ
  blank_head = on_part (λ (_ : List ℕ). replicate head_size 0) 0 head_size row

  blank_head_length : length blank_head ≡ row_size n
  blank_head_length = on_part_length (λ (_ : List ℕ). replicate head_size 0) head_size (keeps_const head_size (replicate head_size 0) refl) 0 row (omega arith) ∙ l

  -- mark, week, time and spare are 0
  pub blank_row_head : (k : ℕ) → k < head_size → get_or (blank_row n row) k 0 ≡ 0
  unfolding blank_row
  blank_row_head k h =
      on_parts_get_d_before (λ (_ : List ℕ). blank_slot) slot_size (keeps_const slot_size blank_slot length_blank_slot) n head_size k blank_head (omega (arith, blank_head_length)) h
      ∙ rw zero-add at (on_part_get_d_in (λ (_ : List ℕ). replicate head_size 0) head_size (keeps_const head_size (replicate head_size 0) refl) 0 row (omega arith) k h)
      ∙ get_or-replicate head_size k 0 0 h

  pub blank_row_record : (f : Family) (i : ℕ) → i < n → record_of f i (blank_row n row) ≡ blank_record f
  unfolding blank_row
  blank_row_record f i h =
      on_parts_within (λ (_ : List ℕ). blank_slot) slot_size (keeps_const slot_size blank_slot length_blank_slot) n head_size i (base f) (size f) blank_head
      (omega (arith, blank_head_length)) h (slot_fits f)
      ∙ in_blank_slot f

module _ (d n rule : ℕ) (room : List ℕ) (fits : room_size d n ≤ length room) where
  abbrev headed : List ℕ
  headed = on_part (λ (_ : List ℕ). header d n rule) 0 header_size room

  headed_length : length headed ≡ length room
  headed_length = on_part_length (λ (_ : List ℕ). header d n rule) header_size (keeps_const header_size (header d n rule) refl) 0 room (omega arith)

  headed_fits : room_size d n ≤ length headed
  headed_fits = rw headed_length fits

  pub fresh_length : length (fresh d n rule room) ≡ length room
  unfolding fresh
  fresh_length = on_parts_length (blank_row n) (row_size n) (keeps_blank_row n) d header_size headed headed_fits ∙ headed_length

  pub fresh_header : (i : ℕ) → i < header_size → get_or (fresh d n rule room) i 0 ≡ get_or (header d n rule) i 0
  unfolding fresh
  fresh_header i h =
      on_parts_get_d_before (blank_row n) (row_size n) (keeps_blank_row n) d header_size i headed headed_fits h
      ∙ rw zero-add at (on_part_get_d_in (λ (_ : List ℕ). header d n rule) header_size (keeps_const header_size (header d n rule) refl) 0 room (omega arith) i h)

  pub fresh_depth : depth (fresh d n rule room) ≡ d
  fresh_depth = fresh_header depth_at (omega arith)

  pub fresh_slots : slots (fresh d n rule room) ≡ n
  fresh_slots = fresh_header slots_at (omega arith)

  pub fresh_current : current (fresh d n rule room) ≡ 0
  fresh_current = fresh_header current_at (omega arith)

  fresh_row_in : (r : ℕ) → r < d → row_in n r (fresh d n rule room) ≡ blank_row n (row_in n r headed)
  unfolding fresh
  fresh_row_in r h = on_parts_part (blank_row n) (row_size n) (keeps_blank_row n) d header_size r headed headed_fits h

  pub fresh_row : (r : ℕ) → r < d → row_of r (fresh d n rule room) ≡ blank_row n (row_in n r room)
  fresh_row r h =
      rw fresh_slots
      (fresh_row_in r h
      ∙ ap (blank_row n) (on_part_after (λ (_ : List ℕ). header d n rule) header_size (keeps_const header_size (header d n rule) refl) 0 room (omega arith) (row_at n r) (row_size n) (omega arith)))

  pub fresh_head : (r : ℕ) → r < d → (k : ℕ) → k < head_size → get_or (row_of r (fresh d n rule room)) k 0 ≡ 0
  fresh_head r h k b =
      ap (λ (row : List ℕ). get_or row k 0) (fresh_row r h) ∙ blank_row_head n (row_in n r room) (length_row d n r room fits h) k b

  pub fresh_record : (f : Family) (r : ℕ) → r < d → (i : ℕ) → i < n → record_of f i (row_of r (fresh d n rule room)) ≡ blank_record f
  fresh_record f r h i b = ap (record_of f i) (fresh_row r h) ∙ blank_row_record n (row_in n r room) (length_row d n r room fits h) f i b

  pub fresh_past : (k : ℕ) → room_size d n ≤ k → drop k (fresh d n rule room) ≡ drop k room
  unfolding fresh
  fresh_past k h =
      on_parts_drop (blank_row n) (row_size n) (keeps_blank_row n) d header_size k headed headed_fits h
      ∙ on_part_drop (λ (_ : List ℕ). header d n rule) header_size (keeps_const header_size (header d n rule) refl) 0 room (omega arith) k (omega arith)

-- ---- a tag
module _ (f : Family) (candidate : List ℕ) (l : ℕ) (room : List ℕ) (F : InRange room) where
  abbrev credit : List ℕ → List ℕ
  credit = credited f (satellite candidate) (data_of f candidate) l

  keeps_credit : Keeps credit (size f)
  keeps_credit = keeps_credited (size f) f (satellite candidate) (data_of f candidate) l

  pub tagged_length : length (tagged f candidate l room) ≡ length room
  unfolding tagged
  tagged_length = every_record_length f credit keeps_credit room F.fits

  pub tagged_header : (i : ℕ) → i < header_size → get_or (tagged f candidate l room) i 0 ≡ get_or room i 0
  unfolding tagged
  tagged_header i h = every_record_header f credit keeps_credit room F.fits i h

  pub tagged_facts : InRange (tagged f candidate l room)
  unfolding tagged
  tagged_facts = every_record_facts f credit keeps_credit room F

  pub tagged_past : (k : ℕ) → room_size (depth room) (slots room) ≤ k → drop k (tagged f candidate l room) ≡ drop k room
  unfolding tagged
  tagged_past k h = every_record_past f credit keeps_credit room F.fits k h

  module _ (r : ℕ) (h : r < depth room) where
    pub tagged_head : (k : ℕ) → k < head_size → get_or (row_of r (tagged f candidate l room)) k 0 ≡ get_or (row_of r room) k 0
    unfolding tagged
    tagged_head k b = every_record_head f credit keeps_credit room F r h k b

    pub tagged_record : (i : ℕ) → i < slots room
        → record_of f i (row_of r (tagged f candidate l room)) ≡ credited f (satellite candidate) (data_of f candidate) l (record_of f i (row_of r room))
    unfolding tagged
    tagged_record i b = every_record_here f credit keeps_credit room F r h i b

    pub tagged_other : (i : ℕ) → i < slots room → record_of (other f) i (row_of r (tagged f candidate l room)) ≡ record_of (other f) i (row_of r room)
    unfolding tagged
    tagged_other i b = every_record_other f credit keeps_credit room F r h i b

-- ---- a reset
module _ (room : List ℕ) (F : InRange room) where
  keeps_none : (f : Family) → Keeps (with_count 0) (size f)
  keeps_none f = keeps_with_count (size f) 0

  -- the CED records have their counts 0, the timing records not yet
  abbrev halfway : List ℕ
  halfway = every_record CED (with_count 0) room

  halfway_facts : InRange halfway
  halfway_facts = every_record_facts CED (with_count 0) (keeps_none CED) room F

  halfway_header : (i : ℕ) → i < header_size → get_or halfway i 0 ≡ get_or room i 0
  halfway_header i h = every_record_header CED (with_count 0) (keeps_none CED) room F.fits i h

  pub reset_length : length (reset room) ≡ length room
  unfolding reset
  reset_length =
      every_record_length Timing (with_count 0) (keeps_none Timing) halfway halfway_facts.fits
      ∙ every_record_length CED (with_count 0) (keeps_none CED) room F.fits

  pub reset_header : (i : ℕ) → i < header_size → get_or (reset room) i 0 ≡ get_or room i 0
  unfolding reset
  reset_header i h = every_record_header Timing (with_count 0) (keeps_none Timing) halfway halfway_facts.fits i h ∙ halfway_header i h

  pub reset_facts : InRange (reset room)
  unfolding reset
  reset_facts = every_record_facts Timing (with_count 0) (keeps_none Timing) halfway halfway_facts

  pub reset_past : (k : ℕ) → room_size (depth room) (slots room) ≤ k → drop k (reset room) ≡ drop k room
  unfolding reset
  reset_past k h =
      every_record_past Timing (with_count 0) (keeps_none Timing) halfway halfway_facts.fits k
      (rw (halfway_header depth_at (omega arith), halfway_header slots_at (omega arith)) h)
      ∙ every_record_past CED (with_count 0) (keeps_none CED) room F.fits k h

  module _ (r : ℕ) (h : r < depth room) where
    halfway_row : r < depth halfway
    halfway_row = rw (halfway_header depth_at (omega arith)) h

    pub reset_head : (k : ℕ) → k < head_size → get_or (row_of r (reset room)) k 0 ≡ get_or (row_of r room) k 0
    unfolding reset
    reset_head k b =
        every_record_head Timing (with_count 0) (keeps_none Timing) halfway halfway_facts r halfway_row k b
        ∙ every_record_head CED (with_count 0) (keeps_none CED) room F r h k b

    pub reset_record : (f : Family) (i : ℕ) → i < slots room → record_of f i (row_of r (reset room)) ≡ with_count 0 (record_of f i (row_of r room))
    unfolding reset
    reset_record CED i b =
        every_record_other Timing (with_count 0) (keeps_none Timing) halfway halfway_facts r halfway_row i (rw (halfway_header slots_at (omega arith)) b)
        ∙ every_record_here CED (with_count 0) (keeps_none CED) room F r h i b
    reset_record Timing i b =
        every_record_here Timing (with_count 0) (keeps_none Timing) halfway halfway_facts r halfway_row i (rw (halfway_header slots_at (omega arith)) b)
        ∙ ap (with_count 0) (every_record_other CED (with_count 0) (keeps_none CED) room F r h i b)
