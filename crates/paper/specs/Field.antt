-- STORE 20.1 to 20.3: the fields of the words, where they lie, and each as a whole number.
use Rattle.std.specs.Prelude.{ℕ, zero, suc, ◌+◌, ◌-◌, ◌*◌, ◌^◌, Bool, true, cond, ◌&&◌, List, [], ◌∷◌, ◌++◌, eqb, ltb, ℤ, pos, negsuc}
use Prim.Native.String.{String}
use lib.Text.{eqt}
use Rattle.paper.specs.Bits.{bit_at}
use Rattle.paper.specs.Record.{Family, same_family}
use Rattle.paper.specs.Word.{Line, table}

-- two's complement, or not
pub data Sign : Type 0 where
  unsigned : Sign
  signed : Sign

-- whether a field is scaled by 2^-k
pub data Scale : Type 0 where
  plain : Scale
  by : ℕ → Scale

pub record Field : Type 0 where
  pub name : String
  pub width : ℕ
  pub sign : Sign
  pub scale : Scale

-- the fields of a word, in their order
pub record Layout : Type 0 where
  pub type : ℕ
  pub fields : List Field

abbrev u : String → ℕ → Scale → Field
u name w k = record { name = name; width = w; sign = unsigned; scale = k }

abbrev s : String → ℕ → Scale → Field
s name w k = record { name = name; width = w; sign = signed; scale = k }

abbrev word : ℕ → List Field → Layout
word k fields = record { type = k; fields = fields }

-- STORE 20.1: the table of fields
unfoldable pub layouts : List Layout
layouts =
    word 1 (u "IODnav" 10 plain ∷ u "t0e" 14 plain ∷ s "M0" 32 (by 31) ∷ u "e" 32 (by 33) ∷ u "root A" 32 (by 19) ∷ [])
    ∷ word 2 (u "IODnav" 10 plain ∷ s "Omega0" 32 (by 31) ∷ s "i0" 32 (by 31) ∷ s "omega" 32 (by 31) ∷ s "i-dot" 14 (by 43) ∷ [])
    ∷ word 3
    (u "IODnav" 10 plain
    ∷ s "Omega-dot" 24 (by 43)
    ∷ s "delta n" 16 (by 43)
    ∷ s "Cuc" 16 (by 29)
    ∷ s "Cus" 16 (by 29)
    ∷ s "Crc" 16 (by 5)
    ∷ s "Crs" 16 (by 5)
    ∷ u "SISA" 8 plain
    ∷ [])
    ∷ word 4
    (u "IODnav" 10 plain
    ∷ u "SVID" 6 plain
    ∷ s "Cic" 16 (by 29)
    ∷ s "Cis" 16 (by 29)
    ∷ u "t0c" 14 plain
    ∷ s "af0" 31 (by 34)
    ∷ s "af1" 21 (by 46)
    ∷ s "af2" 6 (by 59)
    ∷ [])
    ∷ word 5
    (u "ai0" 11 (by 2)
    ∷ s "ai1" 11 (by 8)
    ∷ s "ai2" 14 (by 15)
    ∷ u "region 1" 1 plain
    ∷ u "region 2" 1 plain
    ∷ u "region 3" 1 plain
    ∷ u "region 4" 1 plain
    ∷ u "region 5" 1 plain
    ∷ s "BGD(E1,E5a)" 10 (by 32)
    ∷ s "BGD(E1,E5b)" 10 (by 32)
    ∷ u "E5b health" 2 plain
    ∷ u "E1-B health" 2 plain
    ∷ u "E5b validity" 1 plain
    ∷ u "E1-B validity" 1 plain
    ∷ [])
    ∷ word 6
    (s "A0" 32 (by 30)
    ∷ s "A1" 24 (by 50)
    ∷ s "dtLS" 8 plain
    ∷ u "t0t" 8 plain
    ∷ u "WN0t" 8 plain
    ∷ u "WNLSF" 8 plain
    ∷ u "DN" 3 plain
    ∷ s "dtLSF" 8 plain
    ∷ [])
    ∷ word 10 (s "A0G" 16 (by 35) ∷ s "A1G" 12 (by 51) ∷ u "t0G" 8 plain ∷ u "WN0G" 6 plain ∷ [])
    ∷ []

unfoldable pub fields_in : List Layout → ℕ → List Field
fields_in [] k = []
fields_in (l ∷ ls) k = let r = fields_in ls k in cond (eqb l.type k) l.fields r

-- the fields of a word of type k
abbrev pub fields_of : ℕ → List Field
fields_of k = fields_in layouts k

-- how many bits some fields have
unfoldable pub bits_in : List Field → ℕ
bits_in [] = 0
bits_in (f ∷ fs) = f.width + bits_in fs

-- STORE 20.2: the fields of each word fill what it owns, in the record and in the word
unfoldable pub all_fill : List Line → Bool
all_fill [] = true
all_fill (l ∷ ls) =
    eqb (l.record_from + bits_in (fields_of l.type)) l.record_to
    && eqb (l.word_from + bits_in (fields_of l.type)) l.word_to
    && all_fill ls

-- STORE 20.3: the n bits from bit o on as a number, the top bit first
unfoldable pub bits_at : List ℕ → ℕ → ℕ → ℕ
bits_at bytes o zero = 0
bits_at bytes o (suc n) = bits_at bytes o n * 2 + bit_at bytes (o + n)

-- the whole number that a field's w bits are, which as a number are v
abbrev pub value_of : Sign → ℕ → ℕ → ℤ
value_of unsigned w v = pos v
value_of signed w v = cond (ltb v (2 ^ (w - 1))) (pos v) (negsuc (2 ^ w - 1 - v))

-- fields one behind the other from bit o on: each with its name and its whole number
unfoldable pub numbers_at : List ℕ → ℕ → List Field → List (String × ℤ)
numbers_at bytes o [] = []
numbers_at bytes o (f ∷ fs) =
    (f.name, value_of f.sign f.width (bits_at bytes o f.width)) ∷ numbers_at bytes (o + f.width) fs

-- the value under a name; the first one where there are several
unfoldable pub named : {A : Type 0} → A → String → List (String × A) → A
named none name [] = none
named none name (x ∷ xs) = let r = named none name xs in cond (eqt x.0 name) x.1 r

-- STORE 20.2: where a word's fields start in a record's data, and in the word
unfoldable pub in_record : List Line → ℕ → ℕ
in_record [] k = 0
in_record (l ∷ ls) k = let r = in_record ls k in cond (eqb l.type k) l.record_from r

unfoldable pub in_word : List Line → ℕ → ℕ
in_word [] k = 0
in_word (l ∷ ls) k = let r = in_word ls k in cond (eqb l.type k) l.word_from r

-- the numbers of a record's data that came by words of type k
abbrev pub numbers_of : ℕ → List ℕ → List (String × ℤ)
numbers_of k bytes = numbers_at bytes (in_record table k) (fields_of k)

-- the fields of a family's record, and their numbers, word after word
unfoldable pub fields_along : List Line → Family → List Field
fields_along [] f = []
fields_along (l ∷ ls) f = let r = fields_along ls f in cond (same_family l.family f) (fields_of l.type ++ r) r

unfoldable pub numbers_along : List Line → Family → List ℕ → List (String × ℤ)
numbers_along [] f bytes = []
numbers_along (l ∷ ls) f bytes =
    let r = numbers_along ls f bytes in
    cond (same_family l.family f) (numbers_of l.type bytes ++ r) r
