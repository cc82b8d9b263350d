-- "Not a store", clause by clause: what the test of a room says of its header, of each row and of each record, and back. Assumes nothing.
use mathlib.Core.Bool.{Bool, true, false, cond, ◌||◌, ◌&&◌, not, false≢true}
use mathlib.Core.List.{List}
use mathlib.Core.Logic.{◌≢◌}
use mathlib.Core.Path.{◌≡◌, refl}
use Prim.Native.Nat.{ℕ, ◌+◌, ◌-◌, ◌%◌, ◌<◌, ◌≤◌}
use native.Mathlib.Omega.{arith}
use lib.Dec.{eqb, leb, ltb}
use borrow.Author.Tests.{ltb-true, leb-true, eqb-true, eqb-false, eq-eqb, ne_eqb, le-leb, lt-ltb}
use lib.ListN.{length, get_or}
use Rattle.paper.specs.Big.{be16, be32}
use Rattle.paper.specs.Parts.{part, all_parts}
use Rattle.paper.specs.Record.{Family, CED, Timing, last_weight, size, satellite, count}
use Rattle.paper.specs.Room.{most_rows, most_slots, current_at, rule_at, zeros_at, header_size, head_size, slot_size, slot_at, base, row_size}
use Rattle.paper.specs.Room.{room_size, depth, slots, current, row_of, mark, week, time, spare, record_of}
use Rattle.paper.specs.Store.{sizes_allowed, header_in_range, InRange, header_rest, satellite_allowed, count_has_satellite, no_bit_past, record_allowed}
use Rattle.paper.specs.Store.{slot_allowed, mark_allowed, subframe_allowed, blank_allowed, most_in, row_allowed, is_store}
use Rattle.paper.specs.Satellite.{most_satellites}
use Rattle.paper.specs.Time.{subframe_seconds, last_start}
use Rattle.paper.proofs.Parts.{all_part, all_true}
use Rattle.paper.proofs.Views.{record_in_slot}

-- ---- tests
pub both_true : (a b : Bool) → a && b ≡ true → (a ≡ true) × (b ≡ true)
both_true true b e = (refl, e)
both_true false b e = (e, absurd (false≢true e))

pub true_both : (a b : Bool) → a ≡ true → b ≡ true → a && b ≡ true
true_both a b p q = rw (p, q)

-- ---- the header and the length
pub sizes_facts : (d n : ℕ) → sizes_allowed d n ≡ true → (1 ≤ d) × (d ≤ most_rows) × (1 ≤ n) × (n ≤ most_slots)
sizes_facts d n e =
    let a = both_true (leb 1 d && leb d most_rows && leb 1 n) (leb n most_slots) e in
    let b = both_true (leb 1 d && leb d most_rows) (leb 1 n) a.0 in
    let c = both_true (leb 1 d) (leb d most_rows) b.0 in
    (leb-true 1 d c.0, leb-true d most_rows c.1, leb-true 1 n b.1, leb-true n most_slots a.1)

pub sizes_allowed_lem : (d n : ℕ) → 1 ≤ d → d ≤ most_rows → 1 ≤ n → n ≤ most_slots → sizes_allowed d n ≡ true
sizes_allowed_lem d n a b c e = rw (le-leb 1 d a, le-leb d most_rows b, le-leb 1 n c, le-leb n most_slots e)

-- what the test of a room says
record Clauses (room : List ℕ) : Type 0 where
  long : leb header_size (length room) ≡ true
  in_range : header_in_range room ≡ true
  rest : header_rest room ≡ true
  fits : leb (room_size (depth room) (slots room)) (length room) ≡ true
  rows : all_parts (row_allowed (slots room)) (row_size (slots room)) (depth room) header_size room ≡ true

clauses : (room : List ℕ) → is_store room ≡ true → Clauses room
unfolding is_store
clauses room e =
    let a = both_true
    (leb header_size (length room) && header_in_range room && header_rest room && leb (room_size (depth room) (slots room)) (length room))
    (all_parts (row_allowed (slots room)) (row_size (slots room)) (depth room) header_size room)
    e in
    let b = both_true (leb header_size (length room) && header_in_range room && header_rest room) (leb (room_size (depth room) (slots room)) (length room)) a.0 in
    let c = both_true (leb header_size (length room) && header_in_range room) (header_rest room) b.0 in
    let d = both_true (leb header_size (length room)) (header_in_range room) c.0 in
    record { long = d.0; in_range = d.1; rest = c.1; fits = b.1; rows = a.1 }

header_facts : (room : List ℕ) → header_in_range room ≡ true → (sizes_allowed (depth room) (slots room) ≡ true) × (current room < depth room)
unfolding header_in_range
header_facts room e =
    let a = both_true (sizes_allowed (depth room) (slots room)) (ltb (current room) (depth room)) e in
    (a.0, ltb-true (current room) (depth room) a.1)

pub store_facts : (room : List ℕ) → is_store room ≡ true → InRange room
store_facts room e =
    let c = clauses room e in
    let h = header_facts room c.in_range in
    let s = sizes_facts (depth room) (slots room) h.0 in
    record {
      long = leb-true header_size (length room) c.long;
      some_row = s.0;
      rows_within = s.1;
      some_slot = s.2;
      slots_within = s.3;
      in_ring = h.1;
      fits = leb-true (room_size (depth room) (slots room)) (length room) c.fits;
    }

pub store_rest : (room : List ℕ) → is_store room ≡ true → header_rest room ≡ true
store_rest room e = (clauses room e).rest

pub store_row : (room : List ℕ) → is_store room ≡ true → (r : ℕ) → r < depth room → row_allowed (slots room) (row_of r room) ≡ true
store_row room e r h = all_part (row_allowed (slots room)) (row_size (slots room)) (depth room) header_size room (clauses room e).rows r h

-- and back
in_range_lem : (room : List ℕ) → InRange room → header_in_range room ≡ true
unfolding header_in_range
in_range_lem room F =
    true_both (sizes_allowed (depth room) (slots room)) (ltb (current room) (depth room))
    (sizes_allowed_lem (depth room) (slots room) F.some_row F.rows_within F.some_slot F.slots_within)
    (lt-ltb (current room) (depth room) F.in_ring)

pub facts_store : (room : List ℕ) → InRange room → header_rest room ≡ true
    → ((r : ℕ) → r < depth room → row_allowed (slots room) (row_of r room) ≡ true) → is_store room ≡ true
unfolding is_store
facts_store room F z rows =
    rw (le-leb header_size (length room) F.long, in_range_lem room F, z, le-leb (room_size (depth room) (slots room)) (length room) F.fits)
    (all_true (row_allowed (slots room)) (row_size (slots room)) (depth room) header_size room rows)

-- the rule and the four zeros of the header
pub rest_same : (x y : List ℕ) → ((i : ℕ) → i < header_size → i ≢ current_at → get_or y i 0 ≡ get_or x i 0) → header_rest x ≡ true → header_rest y ≡ true
unfolding header_rest be32 be16
rest_same x y e z =
    rw (
      e rule_at (omega arith) (omega arith),
      e zeros_at (omega arith) (omega arith),
      e (zeros_at + 1) (omega arith) (omega arith),
      e (zeros_at + 2) (omega arith) (omega arith),
      e (zeros_at + 3) (omega arith) (omega arith),
    )
    z

-- ---- a record
pub record RecordFacts (f : Family) (most : ℕ) (rec : List ℕ) : Type 0 where
  pub known : satellite rec ≤ most
  pub none : satellite rec ≡ 0 → count rec ≡ 0
  pub clear : get_or rec (size f - 1) 0 % last_weight ≡ 0

pub record_facts : (f : Family) (most : ℕ) (rec : List ℕ) → record_allowed f most rec ≡ true → RecordFacts f most rec
unfolding record_allowed satellite_allowed count_has_satellite no_bit_past
record_facts f most rec e =
    let a = both_true (leb (satellite rec) most && (not (eqb (satellite rec) 0) || eqb (count rec) 0)) (eqb (get_or rec (size f - 1) 0 % last_weight) 0) e in
    let b = both_true (leb (satellite rec) most) (not (eqb (satellite rec) 0) || eqb (count rec) 0) a.0 in
    record {
      known = leb-true (satellite rec) most b.0;
      none = λ z. eqb-true (count rec) 0 (rw (eq-eqb (satellite rec) 0 z) at b.1);
      clear = eqb-true (get_or rec (size f - 1) 0 % last_weight) 0 a.1;
    }

pub record_allowed_lem : (f : Family) (most : ℕ) (rec : List ℕ) → RecordFacts f most rec → record_allowed f most rec ≡ true
unfolding record_allowed satellite_allowed count_has_satellite no_bit_past
record_allowed_lem f most rec R =
    rw (le-leb (satellite rec) most R.known, eq-eqb (get_or rec (size f - 1) 0 % last_weight) 0 R.clear, counted (eqb (satellite rec) 0) refl)
  where
    counted : (b : Bool) → eqb (satellite rec) 0 ≡ b → not b || eqb (count rec) 0 ≡ true
    counted true e = eq-eqb (count rec) 0 (R.none (eqb-true (satellite rec) 0 e))
    counted false e = refl

-- ---- a row
pub record RowFacts (n : ℕ) (row : List ℕ) : Type 0 where
  pub mark1 : mark row ≤ 1
  pub spare0 : spare row ≡ 0
  pub blank : mark row ≡ 0 → (week row ≡ 0) × (time row ≡ 0)
  pub subframe : mark row ≡ 1 → (time row ≤ last_start) × (time row % subframe_seconds ≡ 0)
  pub records : (f : Family) (i : ℕ) → i < n → RecordFacts f (most_in row) (record_of f i row)

-- what the test of a slot says of its two records, and back
pub slot_record : (most i : ℕ) (row : List ℕ) → slot_allowed most (part (slot_at i) slot_size row) ≡ true
    → (f : Family) → record_allowed f most (record_of f i row) ≡ true
unfolding slot_allowed
slot_record most i row e f = rw (record_in_slot f i row) at (one f)
  where
    slot : List ℕ
    slot = part (slot_at i) slot_size row

    two : (record_allowed CED most (part (base CED) (size CED) slot) ≡ true) × (record_allowed Timing most (part (base Timing) (size Timing) slot) ≡ true)
    two = both_true (record_allowed CED most (part (base CED) (size CED) slot)) (record_allowed Timing most (part (base Timing) (size Timing) slot)) e

    one : (f : Family) → record_allowed f most (part (base f) (size f) slot) ≡ true
    one CED = two.0
    one Timing = two.1

pub records_slot : (most i : ℕ) (row : List ℕ) → ((f : Family) → record_allowed f most (record_of f i row) ≡ true)
    → slot_allowed most (part (slot_at i) slot_size row) ≡ true
unfolding slot_allowed
records_slot most i row e =
    true_both (record_allowed CED most (part (base CED) (size CED) (part (slot_at i) slot_size row)))
    (record_allowed Timing most (part (base Timing) (size Timing) (part (slot_at i) slot_size row)))
    (rw (record_in_slot CED i row) (e CED))
    (rw (record_in_slot Timing i row) (e Timing))

-- "none in a blank row"
pub most_in_blank : (row : List ℕ) → mark row ≡ 0 → most_in row ≡ 0
unfolding most_in
most_in_blank row e = rw (eq-eqb (mark row) 0 e)

pub most_in_marked : (row : List ℕ) → mark row ≡ 1 → most_in row ≡ most_satellites
unfolding most_in
most_in_marked row e = rw e

-- up to 36 in any row
pub most_in_most : (row : List ℕ) → most_in row ≤ most_satellites
unfolding most_in
most_in_most row = go (eqb (mark row) 0)
  where
    go : (b : Bool) → cond b 0 most_satellites ≤ most_satellites
    go true = omega arith
    go false = omega arith

pub row_facts : (n : ℕ) (row : List ℕ) → row_allowed n row ≡ true → RowFacts n row
unfolding row_allowed mark_allowed blank_allowed subframe_allowed
row_facts n row e =
    let a = both_true
    (leb (mark row) 1 && eqb (spare row) 0 && cond (eqb (mark row) 0) (eqb (week row) 0 && eqb (time row) 0) (leb (time row) last_start && eqb (time row % subframe_seconds) 0))
    (all_parts (slot_allowed (most_in row)) slot_size n head_size row)
    e in
    let b = both_true (leb (mark row) 1 && eqb (spare row) 0)
    (cond (eqb (mark row) 0) (eqb (week row) 0 && eqb (time row) 0) (leb (time row) last_start && eqb (time row % subframe_seconds) 0))
    a.0 in
    let c = both_true (leb (mark row) 1) (eqb (spare row) 0) b.0 in
    record {
      mark1 = leb-true (mark row) 1 c.0;
      spare0 = eqb-true (spare row) 0 c.1;
      blank = λ z.
          let y = both_true (eqb (week row) 0) (eqb (time row) 0) (rw (eq-eqb (mark row) 0 z) at b.1) in
          (eqb-true (week row) 0 y.0, eqb-true (time row) 0 y.1);
      subframe = λ z.
          let y = both_true (leb (time row) last_start) (eqb (time row % subframe_seconds) 0) (rw (ne_eqb (mark row) 0 (λ q. omega (arith, q, z))) at b.1) in
          (leb-true (time row) last_start y.0, eqb-true (time row % subframe_seconds) 0 y.1);
      records = λ f i h.
          record_facts f (most_in row) (record_of f i row)
          (slot_record (most_in row) i row (all_part (slot_allowed (most_in row)) slot_size n head_size row a.1 i h) f);
    }

pub row_allowed_lem : (n : ℕ) (row : List ℕ) → RowFacts n row → row_allowed n row ≡ true
unfolding row_allowed mark_allowed blank_allowed subframe_allowed
row_allowed_lem n row R =
    rw (le-leb (mark row) 1 R.mark1, eq-eqb (spare row) 0 R.spare0, head (eqb (mark row) 0) refl)
    (all_true (slot_allowed (most_in row)) slot_size n head_size row
    (λ i h. records_slot (most_in row) i row (λ f. record_allowed_lem f (most_in row) (record_of f i row) (R.records f i h))))
  where
    head : (b : Bool) → eqb (mark row) 0 ≡ b → cond b (eqb (week row) 0 && eqb (time row) 0) (leb (time row) last_start && eqb (time row % subframe_seconds) 0) ≡ true
    head true e =
        let z = R.blank (eqb-true (mark row) 0 e) in
        true_both (eqb (week row) 0) (eqb (time row) 0) (eq-eqb (week row) 0 z.0) (eq-eqb (time row) 0 z.1)
    head false e =
        let one : mark row ≡ 1 = omega (arith, R.mark1, eqb-false (mark row) 0 e) in
        let z = R.subframe one in
        true_both (leb (time row) last_start) (eqb (time row % subframe_seconds) 0) (le-leb (time row) last_start z.0) (eq-eqb (time row % subframe_seconds) 0 z.1)

-- a record of a store
pub store_record : (room : List ℕ) → is_store room ≡ true → (f : Family) (r : ℕ) → r < depth room → (i : ℕ) → i < slots room
    → RecordFacts f (most_in (row_of r room)) (record_of f i (row_of r room))
store_record room e f r h i g = (row_facts (slots room) (row_of r room) (store_row room e r h)).records f i g
