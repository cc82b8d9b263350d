-- The choice for E05 in small rows, computed: each case, with equals and with what comes behind it. Assumes nothing.
use mathlib.Core.Path.{◌≡◌, refl}
use mathlib.Core.List.{List, ◌∷◌, ◌++◌}
use Prim.Native.Nat.{ℕ}
use lib.ListN.{replicate}
use Rattle.paper.specs.Parts.{first_from}
use Rattle.paper.specs.Record.{Family, CED, Timing, data_bytes, greatest}
use Rattle.paper.specs.Room.{head_size}
use Rattle.paper.specs.Feed.{key, last_greatest, chosen}
use Rattle.paper.specs.Tag.{first_slot}
use Rattle.choice.specs.Last.{last_of}
use Rattle.choice.specs.Cases.{oldest_age, three_cases}
use Rattle.std.specs.Prelude.{Some}

-- a slot whose two records are of one satellite, with no count and data of zeros, and whose ages are a but for the last, which is b
abbrev slot : ℕ → ℕ → ℕ → List ℕ
slot sat a b =
    sat ∷ 0 ∷ 0 ∷ a ∷ a ∷ a ∷ a ∷ b ∷ (replicate (data_bytes CED) 0 ++ (sat ∷ 0 ∷ 0 ∷ a ∷ b ∷ replicate (data_bytes Timing) 0))

-- a row of four slots
abbrev row : List ℕ → List ℕ → List ℕ → List ℕ → List ℕ
row a b c d = replicate head_size 0 ++ (a ++ (b ++ (c ++ d)))

-- E05 twice, of which the last takes the word, while the first is a tag's candidate; one without a satellite, and one that never was there
abbrev own_twice : List ℕ
own_twice = row (slot 5 0 0) (slot 0 255 255) (slot 5 0 0) (slot 7 255 255)

pub own_first : (f : Family) → (chosen f 5 4 own_twice ≡ 2) × ((three_cases f 5 4 own_twice ≡ Some 2) × (first_slot f 5 4 own_twice ≡ 0))
unfolding chosen last_greatest key greatest three_cases last_of oldest_age first_slot first_from
own_first CED = (refl, (refl, refl))
own_first Timing = (refl, (refl, refl))

-- two without a satellite, which come before an age of 255, whatever ages they have
abbrev two_unclaimed : List ℕ
two_unclaimed = row (slot 7 255 255) (slot 0 0 0) (slot 0 0 0) (slot 8 255 255)

pub unclaimed_next : (f : Family) → (chosen f 5 4 two_unclaimed ≡ 2) × (three_cases f 5 4 two_unclaimed ≡ Some 2)
unfolding chosen last_greatest key greatest three_cases last_of oldest_age first_from
unclaimed_next CED = (refl, refl)
unclaimed_next Timing = (refl, refl)

-- by the greatest age the first two are the oldest, by the least it would be the third
abbrev all_claimed : List ℕ
all_claimed = row (slot 7 9 3) (slot 8 3 9) (slot 6 8 8) (slot 9 0 0)

pub oldest_last : (f : Family) → (chosen f 5 4 all_claimed ≡ 1) × (three_cases f 5 4 all_claimed ≡ Some 1)
unfolding chosen last_greatest key greatest three_cases last_of oldest_age first_from
oldest_last CED = (refl, refl)
oldest_last Timing = (refl, refl)
