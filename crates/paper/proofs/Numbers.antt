-- Small examples of numbers that are read, computed: fields at the end of their range, and the order of 21 and 22. Assumes nothing.
use mathlib.Core.List.{List, [], ◌∷◌, ◌++◌}
use mathlib.Core.Path.{◌≡◌, refl}
use Prim.Native.Nat.{ℕ}
use lib.IntN.{pos, negsuc}
use lib.ListN.{replicate}
use Rattle.paper.specs.Record.{CED}
use Rattle.paper.specs.Word.{table}
use Rattle.paper.specs.Field.{layouts, fields_in, in_record, bits_at, numbers_at, numbers_of, named}
use Rattle.paper.specs.Orbit.{one_issue, numbers_tests}

-- timing data whose fields of word 10 are -1, 1, 255 and 0
pub word_10 :
    numbers_of 10 (replicate 12 0 ++ (0x1f ∷ 0xff ∷ 0xe0 ∷ 0x03 ∷ 0xfe ∷ 0x00 ∷ []))
    ≡ ("A0G", negsuc 0) ∷ ("A1G", pos 1) ∷ ("t0G", pos 255) ∷ ("WN0G", pos 0) ∷ []
unfolding numbers_at bits_at in_record table fields_in layouts
word_10 = refl

-- CED data of zeros but for two bytes: the four last bits of word 4's IODnav, and the six of SVID
abbrev ced : List ℕ → List ℕ
ced bytes = replicate 46 0 ++ (bytes ++ replicate 21 0)

-- SVID is 1, and the four IODnav are 0
pub an_orbit : numbers_tests CED 1 (ced (0x00 ∷ 0x40 ∷ [])) ≡ 0
unfolding numbers_tests one_issue named numbers_at bits_at in_record table fields_in layouts
an_orbit = refl

-- of another satellite; SVID 0 is another too
pub other_satellite : numbers_tests CED 2 (ced (0x00 ∷ 0x40 ∷ [])) ≡ 22
unfolding numbers_tests one_issue named numbers_at bits_at in_record table fields_in layouts
other_satellite = refl

pub no_satellite : numbers_tests CED 1 (ced (0x00 ∷ 0x00 ∷ [])) ≡ 22
unfolding numbers_tests one_issue named numbers_at bits_at in_record table fields_in layouts
no_satellite = refl

-- IODnav of word 4 is 1: 21, and 21 comes before 22
pub issues_differ : numbers_tests CED 1 (ced (0x10 ∷ 0x40 ∷ [])) ≡ 21
unfolding numbers_tests one_issue named numbers_at bits_at in_record table fields_in layouts
issues_differ = refl

pub issues_first : numbers_tests CED 2 (ced (0x10 ∷ 0x40 ∷ [])) ≡ 21
unfolding numbers_tests one_issue named numbers_at bits_at in_record table fields_in layouts
issues_first = refl
