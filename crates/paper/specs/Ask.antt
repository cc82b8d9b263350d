-- STORE 12: asking.
use Rattle.std.specs.Prelude.{ℕ, ◌+◌, ◌-◌, Bool, cond, ◌&&◌, List, leb, ltb, eqb, pos, neg_ℤ}
use Rattle.paper.specs.Number.{Answer}
use Rattle.paper.specs.Parts.{first}
use Rattle.paper.specs.Record.{Family, satellite, count, ages_of, oldest, least}
use Rattle.paper.specs.Room.{depth, slots, current, by_time, row_of, week, time, record_of}
use Rattle.paper.specs.Time.{add_subframes}

-- STORE 12.1: the count that answers
abbrev pub least_count : ℕ
least_count = 40

unfoldable pub has_enough : ℕ → List ℕ → Bool
has_enough sat rec = eqb (satellite rec) sat && leb least_count (count rec)

-- the first slot of a row that answers; the number of slots where there is none
unfoldable pub enough_slot : Family → ℕ → ℕ → List ℕ → ℕ
enough_slot f sat n row = first (λ (i : ℕ). has_enough sat (record_of f i row)) n

-- STORE 12.1, backward around the ring: the row j before row c of d
unfoldable pub row_back : ℕ → ℕ → ℕ → ℕ
row_back d c j = cond (leb j c) (c - j) (d + c - j)

-- how many rows back the first row that answers lies; the number of rows where there is none
unfoldable pub steps_back : Family → ℕ → List ℕ → ℕ
steps_back f sat room =
    first
    (λ (j : ℕ). ltb (enough_slot f sat (slots room) (row_of (row_back (depth room) (current room) j) room)) (slots room))
    (depth room)

-- STORE 12.1: where the record that answers stands: the number of its row, and its slot there
abbrev pub row_answering : Family → ℕ → List ℕ → ℕ
row_answering f sat room = row_back (depth room) (current room) (steps_back f sat room)

abbrev pub slot_answering : Family → ℕ → List ℕ → ℕ
slot_answering f sat room = enough_slot f sat (slots room) (row_of (row_answering f sat room) room)

-- the row that answers
unfoldable pub answering_row : Family → ℕ → List ℕ → List ℕ
answering_row f sat room = row_of (row_answering f sat room) room

-- the record that answers
unfoldable pub answering_record : Family → ℕ → List ℕ → List ℕ
answering_record f sat room = record_of f (slot_answering f sat room) (answering_row f sat room)

-- STORE 12.1: where no record has enough it is 12; the test that one has
unfoldable pub some_enough : Family → ℕ → List ℕ → Bool
some_enough f sat room = ltb (steps_back f sat room) (depth room)

-- STORE 12.5: under rule 1, the least age of the record that answers is the greatest there is, and so says nothing
unfoldable pub age_unknown : Family → ℕ → List ℕ → Bool
age_unknown f sat room = by_time room && eqb (least (ages_of f (answering_record f sat room))) oldest

-- STORE 12.3: the row's subframe less 30 s for each of the record's least age
unfoldable pub time_before : Family → List ℕ → List ℕ → Answer
time_before f row rec = add_subframes (week row) (time row) (neg_ℤ (pos (least (ages_of f rec))))
