-- STORE 6: the two families, their sizes, and the fields of a record.
use Rattle.std.specs.Prelude.{ℕ, ◌+◌, ◌-◌, ◌/◌, ◌^◌, min, max, Bool, true, false, ◌&&◌, List, [], ◌∷◌, ◌++◌, map, get_or, take, replicate, eqb}
use Rattle.paper.specs.Parts.{part, on_part}
use Rattle.paper.specs.Big.{be16, put16}

-- a family of records
pub data Family : Type 0 where
  CED : Family
  Timing : Family

-- the family, from whether it is the timing one
abbrev pub family_if : Bool → Family
family_if true = Timing
family_if false = CED

abbrev pub same_family : Family → Family → Bool
same_family CED CED = true
same_family CED Timing = false
same_family Timing CED = false
same_family Timing Timing = true

-- STORE 6: the bits of its data
abbrev pub record_bits : Family → ℕ
record_bits CED = 549
record_bits Timing = 141

-- and the bytes that they lie in
abbrev pub data_bytes : Family → ℕ
data_bytes CED = 69
data_bytes Timing = 18

-- and its ages
abbrev pub ages : Family → ℕ
ages CED = 5
ages Timing = 2

-- where each field of a record starts: behind the one before it. Its satellite is one byte
abbrev pub satellite_at : ℕ
satellite_at = 0

-- its count is two bytes
abbrev pub count_at : ℕ
count_at = satellite_at + 1

-- its ages are a byte each
abbrev pub ages_at : ℕ
ages_at = count_at + 2

-- its data comes last
abbrev pub data_at : Family → ℕ
data_at f = ages_at + ages f

-- the bytes of a record
abbrev pub size : Family → ℕ
size f = data_at f + data_bytes f

-- STORE 6.2: its satellite, 0 for none
abbrev pub satellite : List ℕ → ℕ
satellite rec = get_or rec satellite_at 0

-- STORE 6.2: its count
abbrev pub count : List ℕ → ℕ
count rec = be16 rec count_at

abbrev pub most_count : ℕ
most_count = 65535

-- the ages of a record
abbrev pub ages_of : Family → List ℕ → List ℕ
ages_of f rec = part ages_at (ages f) rec

-- the data of a record
abbrev pub data_of : Family → List ℕ → List ℕ
data_of f rec = part (data_at f) (data_bytes f) rec

-- STORE 6.3: the bits past the end
abbrev pub bits_past : ℕ
bits_past = 3

-- what the lowest bit of the last byte that is data weighs there
abbrev pub last_weight : ℕ
last_weight = 2 ^ bits_past

-- data without those three bits: its whole bytes, and the top five bits of the last
abbrev pub in_bits : Family → List ℕ → List ℕ
in_bits f d = take (data_bytes f - 1) d ++ (get_or d (data_bytes f - 1) 0 / last_weight ∷ [])

-- two lists of numbers are the same
unfoldable pub same_list : List ℕ → List ℕ → Bool
same_list [] [] = true
same_list [] (y ∷ ys) = false
same_list (x ∷ xs) [] = false
same_list (x ∷ xs) (y ∷ ys) = let r = same_list xs ys in eqb x y && r

-- STORE 6.4: two data agree in their 549 or 141 bits
unfoldable pub same_bits : Family → List ℕ → List ℕ → Bool
same_bits f a b = same_list (in_bits f a) (in_bits f b)

-- a record with another count
abbrev pub with_count : ℕ → List ℕ → List ℕ
with_count c rec = put16 rec count_at c

-- a record with other ages
abbrev pub with_ages : Family → List ℕ → List ℕ → List ℕ
with_ages f new rec = on_part (λ (_ : List ℕ). new) ages_at (ages f) rec

-- the greatest age there is: as old as that, or never there
abbrev pub oldest : ℕ
oldest = 255

-- STORE 9.1, 10.6: every age the greatest
abbrev pub never_there : Family → List ℕ → List ℕ
never_there f rec = with_ages f (replicate (ages f) oldest) rec

-- STORE 6.5: an age so much more, held at the greatest
abbrev pub older : ℕ → ℕ → ℕ
older by a = min oldest (a + by)

-- STORE 6.5: a record whose ages are so much more
unfoldable pub aged : Family → ℕ → List ℕ → List ℕ
aged f by rec = on_part (map (older by)) ages_at (ages f) rec

-- STORE 6.5: the greatest of some ages
unfoldable pub greatest : List ℕ → ℕ
greatest [] = 0
greatest (a ∷ l) = max a (greatest l)

-- STORE 6.5: the least of some ages
unfoldable pub least : List ℕ → ℕ
least [] = oldest
least (a ∷ l) = min a (least l)

-- STORE 9.1: a record of a fresh store
unfoldable pub blank_record : Family → List ℕ
blank_record f = never_there f (replicate (size f) 0)
