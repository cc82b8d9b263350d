-- STORE 11: a tag's candidate, and the records that take it.
use Rattle.std.specs.Prelude.{ℕ, ◌+◌, min, Bool, cond, ◌&&◌, ◌||◌, List, get_or, length, leb, ltb, eqb, pos, neg_ℤ}
use Rattle.paper.specs.Number.{Answer, values}
use Rattle.paper.specs.Parts.{first}
use Rattle.paper.specs.Record.{Family, family_if, data_bytes, satellite, count, most_count, ages_of, data_of, same_bits, with_count, older, greatest}
use Rattle.paper.specs.Room.{depth, slots, row_of, marked, is_at, record_of, every_record, how_many_in}
use Rattle.paper.specs.Time.{subframe_seconds, sum_of}

-- STORE 11.1: the kinds
abbrev pub ced_kind : ℕ
ced_kind = 0

abbrev pub timing_kind : ℕ
timing_kind = 4

abbrev pub slow_ced_kind : ℕ
slow_ced_kind = 12

abbrev pub kind_known : ℕ → Bool
kind_known kind = eqb kind ced_kind || eqb kind timing_kind || eqb kind slow_ced_kind

-- the tag's family
unfoldable pub family_of : ℕ → Family
family_of kind = family_if (eqb kind timing_kind)

-- STORE 11.1: the COPs
abbrev pub cop_allowed : ℕ → Bool
cop_allowed cop = leb cop 15

-- STORE 11.1: the lengths
unfoldable pub length_allowed : ℕ → Bool
length_allowed l = eqb l 20 || eqb l 24 || eqb l 28 || eqb l 32 || eqb l 40

-- STORE 11.1: the statuses
abbrev pub status_known : ℕ → Bool
status_known s = leb s 3

-- STORE 11.5: under 0 and 3 nothing is added; the test that it is neither
abbrev pub status_adds : ℕ → Bool
status_adds s = eqb s 1 || eqb s 2

-- STORE 11.2: the MACK time less 30 s
unfoldable pub thirty_before : ℕ → ℕ → Answer
thirty_before w t = sum_of w t (neg_ℤ (pos subframe_seconds))

-- STORE 11.2: the first row, from row 0, that is marked week w, time t; the number of rows where there is none
unfoldable pub first_row : ℕ → ℕ → List ℕ → ℕ
first_row w t room = first (λ (r : ℕ). let row = row_of r room in marked row && is_at w t row) (depth room)

-- STORE 11.3: the satellite's first record of the family in a row; the number of slots where there is none
unfoldable pub first_slot : Family → ℕ → ℕ → List ℕ → ℕ
first_slot f sat n row = first (λ (i : ℕ). eqb (satellite (record_of f i row)) sat) n

-- the record where the candidate lies, for the MACK time w, t
unfoldable pub candidate_row : ℕ → ℕ → List ℕ → ℕ
candidate_row w t room =
    let before = values (thirty_before w t) in
    first_row (get_or before 0 0) (get_or before 1 0) room

unfoldable pub candidate_slot : Family → ℕ → ℕ → ℕ → List ℕ → ℕ
candidate_slot f sat w t room = first_slot f sat (slots room) (row_of (candidate_row w t room) room)

unfoldable pub candidate_record : Family → ℕ → ℕ → ℕ → List ℕ → List ℕ
candidate_record f sat w t room =
    record_of f (candidate_slot f sat w t room) (row_of (candidate_row w t room) room)

-- STORE 11.3: the greatest age and one more is not above the COP
unfoldable pub fits_cop : Family → ℕ → List ℕ → Bool
fits_cop f cop rec = leb (older 1 (greatest (ages_of f rec))) cop

-- whether there is a candidate
unfoldable pub has_candidate : Family → ℕ → ℕ → ℕ → ℕ → List ℕ → Bool
has_candidate f sat cop w t room =
    ltb (candidate_row w t room) (depth room)
    && ltb (candidate_slot f sat w t room) (slots room)
    && fits_cop f cop (candidate_record f sat w t room)

-- STORE 11.4: else it is 11; the test that the given data has its length and the candidate's bits
unfoldable pub given_agrees : Family → List ℕ → List ℕ → Bool
given_agrees f given rec = eqb (length given) (data_bytes f) && same_bits f given (data_of f rec)

-- STORE 11.6: a record with the candidate's satellite and bits
unfoldable pub matches : Family → ℕ → List ℕ → List ℕ → Bool
matches f sat bits rec = eqb (satellite rec) sat && same_bits f (data_of f rec) bits

-- STORE 11.6, 11.7: the length added, held at the cap
unfoldable pub credited : Family → ℕ → List ℕ → ℕ → List ℕ → List ℕ
credited f sat bits l rec =
    cond (matches f sat bits rec) (with_count (min most_count (count rec + l)) rec) rec

-- the room after a tag of length l was accepted for a candidate
unfoldable pub tagged : Family → List ℕ → ℕ → List ℕ → List ℕ
tagged f candidate l room = every_record f (credited f (satellite candidate) (data_of f candidate) l) room

-- STORE 11.8: the total
unfoldable pub taken_by : Family → List ℕ → List ℕ → ℕ
taken_by f candidate room = how_many_in f (matches f (satellite candidate) (data_of f candidate)) room
