-- STORE 10: the ring, the choice of a record, and the room after a word.
use Rattle.std.specs.Prelude.{ℕ, zero, suc, ◌+◌, ◌*◌, Bool, cond, not, ◌&&◌, List, set, leb, ltb, eqb}
use Rattle.paper.specs.Big.{put16, put32}
use Rattle.paper.specs.Parts.{part, on_part}
use Rattle.paper.specs.Record.{Family, CED, Timing, size, satellite, ages_of, oldest, aged, greatest}
use Rattle.paper.specs.Room.{current_at, mark_at, week_at, time_at, head_size, slot_size, row_size, depth, slots, current, by_time}
use Rattle.paper.specs.Room.{row_at, row_of, week, time, marked, is_at, record_at, record_of, each_record}
use Rattle.paper.specs.Time.{is_earlier, gone_by}
use Rattle.paper.specs.Word.{fed_record}

-- STORE 10.3: the next row; row 0 is behind the last
unfoldable pub next_row : ℕ → ℕ → ℕ
next_row d c = cond (ltb (c + 1) d) (c + 1) 0

-- STORE 10.2: the current row is marked with another subframe than T, which is week w, time t
unfoldable pub moves : ℕ → ℕ → List ℕ → Bool
moves w t room = let row = row_of (current room) room in marked row && not (is_at w t row)

-- STORE 10.9: under rule 1, the current row is marked with a later subframe than T
unfoldable pub comes_earlier : ℕ → ℕ → List ℕ → Bool
comes_earlier w t room =
    let row = row_of (current room) room in
    by_time room && marked row && is_earlier w t (week row) (time row)

-- STORE 10.3: by how much ages rise when the ring moves to T: by one, or under rule 1 by the subframes gone by
unfoldable pub rises_by : ℕ → ℕ → List ℕ → ℕ
rises_by w t room =
    let row = row_of (current room) room in
    cond (by_time room) (gone_by w t (week row) (time row)) 1

-- STORE 10.3: the slots of the row at `from`, copied to the row at `to`
unfoldable pub copied : ℕ → ℕ → ℕ → List ℕ → List ℕ
copied n from to room =
    let records = part (from + head_size) (n * slot_size) room in
    on_part (λ (_ : List ℕ). records) (to + head_size) (n * slot_size) room

-- STORE 10.3: every age of the row so much more
unfoldable pub aged_row : ℕ → ℕ → List ℕ → List ℕ
aged_row by n row = let c = each_record CED n (aged CED by) row in each_record Timing n (aged Timing by) c

-- STORE 10.3: the next row filled by the copy, current, and so much older
unfoldable pub advanced : ℕ → List ℕ → List ℕ
advanced by room =
    let n = slots room in
    let to = next_row (depth room) (current room) in
    let c = copied n (row_at n (current room)) (row_at n to) room in
    on_part (aged_row by n) (row_at n to) (row_size n) (set c current_at to)

-- a row marked T
unfoldable pub marked_at : ℕ → ℕ → List ℕ → List ℕ
marked_at w t row = let m = put16 (set row mark_at 1) week_at w in put32 m time_at t

-- STORE 10.4: the current row marked T
unfoldable pub current_marked : ℕ → ℕ → List ℕ → List ℕ
current_marked w t room = on_part (marked_at w t) (row_at (slots room) (current room)) (row_size (slots room)) room

-- the ring before the records of the current row are chosen
unfoldable pub settled : ℕ → ℕ → List ℕ → List ℕ
settled w t room = let r = cond (moves w t room) (advanced (rises_by w t room) room) room in current_marked w t r

-- STORE 10.5: two keys above every age: 256, of a record without a satellite, and 257, of one of the word's satellite. They are no ages:
-- chosen by the greatest key, the last of equals, a record is one of three cases (`three_cases_lem`, crates/choice/proofs/Cases)
abbrev pub unclaimed_key : ℕ
unclaimed_key = oldest + 1

abbrev pub own_key : ℕ
own_key = unclaimed_key + 1

-- the key of a record
unfoldable pub key : Family → ℕ → List ℕ → ℕ
key f sat rec = cond (eqb (satellite rec) sat) own_key (cond (eqb (satellite rec) 0) unclaimed_key (greatest (ages_of f rec)))

-- STORE 10.5: the last of the places with the greatest key, among the first n places
unfoldable pub last_greatest : (ℕ → ℕ) → ℕ → ℕ
last_greatest k zero = 0
last_greatest k (suc n) = let b = last_greatest k n in cond (leb (k b) (k n)) n b

-- the slot chosen in a row of n
unfoldable pub chosen : Family → ℕ → ℕ → List ℕ → ℕ
chosen f sat n row = last_greatest (λ (i : ℕ). key f sat (record_of f i row)) n

-- STORE 10.5, 10.6: the row after the chosen record of a family took the word
unfoldable pub fed_family : Family → ℕ → ℕ → ℕ → List ℕ → List ℕ → List ℕ
fed_family f n sat band word row =
    let i = chosen f sat n row in
    on_part (fed_record f sat band word) (record_at f i) (size f) row

unfoldable pub fed_row : ℕ → ℕ → ℕ → List ℕ → List ℕ → List ℕ
fed_row n sat band word row =
    let c = fed_family CED n sat band word row in
    fed_family Timing n sat band word c

-- the room with the word in its current row
unfoldable pub fed_current : ℕ → ℕ → List ℕ → List ℕ → List ℕ
fed_current sat band word room =
    let n = slots room in
    on_part (fed_row n sat band word) (row_at n (current room)) (row_size n) room

-- the room after a word of subframe w, t
unfoldable pub fed : ℕ → ℕ → ℕ → ℕ → List ℕ → List ℕ → List ℕ
fed w t sat band word room = let s = settled w t room in fed_current sat band word s
