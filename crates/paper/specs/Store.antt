-- STORE 8, refusal 3: the test that a room is a store, clause by clause.
use Rattle.std.specs.Prelude.{ℕ, ◌-◌, ◌%◌, ◌<◌, ◌≤◌, Bool, cond, not, ◌&&◌, ◌||◌, List, get_or, length, leb, ltb, eqb}
use Rattle.paper.specs.Big.{be32}
use Rattle.paper.specs.Parts.{part, all_parts}
use Rattle.paper.specs.Record.{Family, CED, Timing, size, satellite, count, last_weight}
use Rattle.paper.specs.Room.{most_rows, most_slots, zeros_at, header_size, head_size, slot_size, base, row_size, room_size, depth, slots, current, time_rule, rule, mark, week, time, spare}
use Rattle.paper.specs.Satellite.{most_satellites}
use Rattle.paper.specs.Time.{last_start, is_start}

-- STORE 7.1: the test that D and N are in range
abbrev pub sizes_allowed : ℕ → ℕ → Bool
sizes_allowed d n = leb 1 d && leb d most_rows && leb 1 n && leb n most_slots

-- STORE 7.7: the test that it is a rule
abbrev pub rule_known : ℕ → Bool
rule_known r = leb r time_rule

-- STORE 8.1: D, N and the current row are in range
unfoldable pub header_in_range : List ℕ → Bool
header_in_range room = sizes_allowed (depth room) (slots room) && ltb (current room) (depth room)

-- what every call goes by: STORE 8.1 and 8.2, D, N and the current row in range, and the room no shorter than the formula's length
pub record InRange (room : List ℕ) : Type 0 where
  pub long : header_size ≤ length room
  pub some_row : 1 ≤ depth room
  pub rows_within : depth room ≤ most_rows
  pub some_slot : 1 ≤ slots room
  pub slots_within : slots room ≤ most_slots
  pub in_ring : current room < depth room
  pub fits : room_size (depth room) (slots room) ≤ length room

-- STORE 8.3: the rule and the four zeros of the header
unfoldable pub header_rest : List ℕ → Bool
header_rest room = rule_known (rule room) && eqb (be32 room zeros_at) 0

-- STORE 8.7: no satellite above the greatest; in a blank row any satellite is one too many
unfoldable pub satellite_allowed : ℕ → List ℕ → Bool
satellite_allowed most rec = leb (satellite rec) most

-- STORE 8.8: no count without a satellite, and so none in a blank row
unfoldable pub count_has_satellite : List ℕ → Bool
count_has_satellite rec = not (eqb (satellite rec) 0) || eqb (count rec) 0

-- STORE 8.9: the last three bits of its last byte
unfoldable pub no_bit_past : Family → List ℕ → Bool
no_bit_past f rec = eqb (get_or rec (size f - 1) 0 % last_weight) 0

unfoldable pub record_allowed : Family → ℕ → List ℕ → Bool
record_allowed f most rec = satellite_allowed most rec && count_has_satellite rec && no_bit_past f rec

-- the two records of a slot
unfoldable pub slot_allowed : ℕ → List ℕ → Bool
slot_allowed most slot =
    record_allowed CED most (part (base CED) (size CED) slot)
    && record_allowed Timing most (part (base Timing) (size Timing) slot)

-- STORE 8.3, 8.4: the spare byte and the mark of a row
unfoldable pub mark_allowed : List ℕ → Bool
mark_allowed row = leb (mark row) 1 && eqb (spare row) 0

-- STORE 8.5: the time of a marked row
unfoldable pub subframe_allowed : List ℕ → Bool
subframe_allowed row = leb (time row) last_start && is_start (time row)

-- STORE 8.6: the week and the time of a blank row
unfoldable pub blank_allowed : List ℕ → Bool
blank_allowed row = eqb (week row) 0 && eqb (time row) 0

-- the satellites that a row may hold go up to this: none in a blank row
unfoldable pub most_in : List ℕ → ℕ
most_in row = cond (eqb (mark row) 0) 0 most_satellites

unfoldable pub row_allowed : ℕ → List ℕ → Bool
row_allowed n row =
    mark_allowed row
    && cond (eqb (mark row) 0) (blank_allowed row) (subframe_allowed row)
    && all_parts (slot_allowed (most_in row)) slot_size n head_size row

-- a room is a store: it has a header and the formula's length (STORE 8.2), and every row is allowed
unfoldable pub is_store : List ℕ → Bool
is_store room =
    leb header_size (length room)
    && header_in_range room
    && header_rest room
    && leb (room_size (depth room) (slots room)) (length room)
    && all_parts (row_allowed (slots room)) (row_size (slots room)) (depth room) header_size room
