-- STORE 5, 10.6 to 10.8: the table of words, and what a word does to one record.
use Rattle.std.specs.Prelude.{ℕ, ◌+◌, ◌-◌, ◌*◌, ◌/◌, ◌<◌, ◌≤◌, Bool, true, false, cond, not, ◌&&◌, ◌||◌, List, [], ◌∷◌, get_or, set, leb, ltb, eqb}
use Rattle.paper.specs.Bits.{moved, changed}
use Rattle.paper.specs.Parts.{on_part}
use Rattle.paper.specs.Record.{Family, CED, Timing, same_family, record_bits, data_bytes, ages, satellite_at, ages_at, data_at, satellite, data_of, with_count, never_there}

-- STORE 5.1: the bytes of a word, and their bits
abbrev pub word_bytes : ℕ
word_bytes = 16

abbrev pub word_bits : ℕ
word_bits = 8 * word_bytes

-- a line of the table: type, E1B only or not, record bits, word bits, with upper ends excluded, and age
pub record Line : Type 0 where
  pub family : Family
  pub type : ℕ
  pub only_e1_b : Bool
  pub record_from : ℕ
  pub record_to : ℕ
  pub word_from : ℕ
  pub word_to : ℕ
  pub age : ℕ

abbrev line : Family → ℕ → Bool → ℕ → ℕ → ℕ → ℕ → ℕ → Line
line f k e a b c d g =
    record { family = f; type = k; only_e1_b = e; record_from = a; record_to = b; word_from = c; word_to = d; age = g }

-- STORE 5.4: the table of words
unfoldable pub table : List Line
table =
    line CED 1 false 0 120 6 126 0
    ∷ line CED 2 false 120 240 6 126 1
    ∷ line CED 3 false 240 362 6 128 2
    ∷ line CED 4 false 362 482 6 126 3
    ∷ line CED 5 false 482 549 6 73 4
    ∷ line Timing 6 true 0 99 6 105 0
    ∷ line Timing 10 true 99 141 86 128 1
    ∷ []

-- of each line: its two ranges are of one length, and lie in the record's bits and in the word's; its age is one of the record's
unfoldable pub agrees : Line → Bool
agrees l =
    eqb (l.record_from + (l.word_to - l.word_from)) l.record_to
    && leb l.word_from l.word_to
    && leb l.record_to (record_bits l.family)
    && leb l.word_to word_bits
    && ltb l.age (ages l.family)

unfoldable pub all_agree : List Line → Bool
all_agree [] = true
all_agree (l ∷ ls) = agrees l && all_agree ls

-- the lines of a family take its record one behind the other, from bit k to its end
unfoldable pub covers : Family → ℕ → List Line → Bool
covers f k [] = eqb k (record_bits f)
covers f k (l ∷ ls) = cond (same_family l.family f) (eqb l.record_from k && covers f l.record_to ls) (covers f k ls)

-- STORE 5.4: the share that a word owns: so many bits to a bit of the record from a bit of the word, and an age
pub data Owned : Type 0 where
  nothing : Owned
  owns : ℕ → ℕ → ℕ → ℕ → Owned

-- the bits lie in the record's and in a word's, and the age is one of the record's
abbrev pub InBounds : Family → Owned → Type 0
InBounds f nothing = Unit {0}
InBounds f (owns to from n age) = (to + n ≤ record_bits f) × (from + n ≤ word_bits) × (age < ages f)

-- the line for a family, a type and a band (STORE 5.3), as what the word owns
unfoldable pub owned_in : List Line → Family → ℕ → ℕ → Owned
owned_in [] f k band = nothing
owned_in (l ∷ ls) f k band =
    let r = owned_in ls f k band in
    cond (same_family l.family f && eqb l.type k && (not l.only_e1_b || eqb band 0))
    (owns l.record_from l.word_from (l.record_to - l.record_from) l.age)
    r

abbrev pub owned : Family → ℕ → ℕ → Owned
owned f k band = owned_in table f k band

-- the type of a word, its first six bits
abbrev pub type_of : List ℕ → ℕ
type_of word = get_or word 0 0 / 4

-- STORE 10.6: the takeover
unfoldable pub takeover : Family → ℕ → List ℕ → List ℕ
takeover f sat rec =
    let mine = set rec satellite_at sat in
    cond (eqb (satellite rec) sat || eqb (satellite rec) 0) mine (never_there f (with_count 0 mine))

-- STORE 10.7, 10.8: the bits that the word owns, its age 0, and the count 0 if one of the bits changed
unfoldable pub written : Family → Owned → List ℕ → List ℕ → List ℕ
written f nothing word rec = rec
written f (owns to from n age) word rec =
    let d = data_of f rec in
    let c = changed d to word from n in
    let m = on_part (λ (x : List ℕ). moved x to word from n) (data_at f) (data_bytes f) rec in
    let a = set m (ages_at + age) 0 in
    cond c (with_count 0 a) a

-- the record that is chosen for a word
unfoldable pub fed_record : Family → ℕ → ℕ → List ℕ → List ℕ → List ℕ
fed_record f sat band word rec = let t = takeover f sat rec in written f (owned f (type_of word) band) word t
