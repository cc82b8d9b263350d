-- STORE 7: the lent room, byte by byte, and changes of all records of a row or of the room.
use Rattle.std.specs.Prelude.{ℕ, ◌+◌, ◌*◌, Bool, cond, ◌&&◌, List, get_or, eqb}
use Rattle.paper.specs.Big.{be16, be32}
use Rattle.paper.specs.Parts.{part, on_part, on_parts, sum_parts}
use Rattle.paper.specs.Record.{Family, CED, Timing, size}

-- STORE 7.1: the most rows, D
abbrev pub most_rows : ℕ
most_rows = 16

-- STORE 7.1: the most slots, N
abbrev pub most_slots : ℕ
most_slots = 36

-- STORE 7.3, D, N, the current row, the ageing rule and four zeros: where each starts, behind the one before it
abbrev pub depth_at : ℕ
depth_at = 0

abbrev pub slots_at : ℕ
slots_at = depth_at + 1

abbrev pub current_at : ℕ
current_at = slots_at + 1

abbrev pub rule_at : ℕ
rule_at = current_at + 1

abbrev pub zeros_at : ℕ
zeros_at = rule_at + 1

-- the bytes of the header
abbrev pub header_size : ℕ
header_size = zeros_at + 4

-- STORE 7.4, a mark, a week, a time and a spare byte: where each starts in the row
abbrev pub mark_at : ℕ
mark_at = 0

abbrev pub week_at : ℕ
week_at = mark_at + 1

abbrev pub time_at : ℕ
time_at = week_at + 2

abbrev pub spare_at : ℕ
spare_at = time_at + 4

-- the bytes of a row before its slots
abbrev pub head_size : ℕ
head_size = spare_at + 1

-- a slot is one CED record and behind it one timing record: where a record starts in its slot
abbrev pub base : Family → ℕ
base CED = 0
base Timing = size CED

abbrev pub slot_size : ℕ
slot_size = base Timing + size Timing

-- where slot i starts in its row
abbrev pub slot_at : ℕ → ℕ
slot_at i = head_size + i * slot_size

-- STORE 7.2: the bytes of a row
abbrev pub row_size : ℕ → ℕ
row_size n = head_size + n * slot_size

-- STORE 7.2: the formula's length
abbrev pub room_size : ℕ → ℕ → ℕ
room_size d n = header_size + d * row_size n

-- D, N and the current row
abbrev pub depth : List ℕ → ℕ
depth room = get_or room depth_at 0

abbrev pub slots : List ℕ → ℕ
slots room = get_or room slots_at 0

abbrev pub current : List ℕ → ℕ
current room = get_or room current_at 0

-- STORE 7.7: the ageing rule
abbrev pub rule : List ℕ → ℕ
rule room = get_or room rule_at 0

-- STORE 7.7: under rule 1 ages count time, under 0 the moves of the ring
abbrev pub time_rule : ℕ
time_rule = 1

abbrev pub by_time : List ℕ → Bool
by_time room = eqb (rule room) time_rule

-- where row r starts
abbrev pub row_at : ℕ → ℕ → ℕ
row_at n r = header_size + r * row_size n

-- the bytes of row r
abbrev pub row_of : ℕ → List ℕ → List ℕ
row_of r room = part (row_at (slots room) r) (row_size (slots room)) room

-- STORE 7.4: 0 is blank, 1 is marked
abbrev pub mark : List ℕ → ℕ
mark row = get_or row mark_at 0

abbrev pub week : List ℕ → ℕ
week row = be16 row week_at

abbrev pub time : List ℕ → ℕ
time row = be32 row time_at

abbrev pub spare : List ℕ → ℕ
spare row = get_or row spare_at 0

abbrev pub marked : List ℕ → Bool
marked row = eqb (mark row) 1

-- the row's subframe is week w, time t
abbrev pub is_at : ℕ → ℕ → List ℕ → Bool
is_at w t row = eqb (week row) w && eqb (time row) t

-- where the record of slot i starts in its row
abbrev pub record_at : Family → ℕ → ℕ
record_at f i = slot_at i + base f

-- the bytes of the record of slot i of a row
abbrev pub record_of : Family → ℕ → List ℕ → List ℕ
record_of f i row = part (record_at f i) (size f) row

-- g done to the record of a family in a slot
abbrev pub in_slot : Family → (List ℕ → List ℕ) → List ℕ → List ℕ
in_slot f g slot = on_part g (base f) (size f) slot

-- g done to all records of a family in a row
unfoldable pub each_record : Family → ℕ → (List ℕ → List ℕ) → List ℕ → List ℕ
each_record f n g row = on_parts (in_slot f g) slot_size n head_size row

-- g done to all records of a family in any row
unfoldable pub every_record : Family → (List ℕ → List ℕ) → List ℕ → List ℕ
every_record f g room = on_parts (each_record f (slots room) g) (row_size (slots room)) (depth room) header_size room

-- how many records of a family in a row have p
unfoldable pub how_many : Family → ℕ → (List ℕ → Bool) → List ℕ → ℕ
how_many f n p row = sum_parts (λ (slot : List ℕ). cond (p (part (base f) (size f) slot)) 1 0) slot_size n head_size row

-- how many records of a family in any row have p
unfoldable pub how_many_in : Family → (List ℕ → Bool) → List ℕ → ℕ
how_many_in f p room = sum_parts (how_many f (slots room) p) (row_size (slots room)) (depth room) header_size room
