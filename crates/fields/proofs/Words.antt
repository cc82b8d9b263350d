-- A word's struct says all that was read: its numbers, listed again, are those of the table. Assumes nothing.
use mathlib.Core.List.{List}
use mathlib.Core.Path.{◌≡◌, refl}
use Prim.Native.Nat.{ℕ}
use Rattle.paper.specs.Field.{layouts, fields_in, fields_of, numbers_at, named}
use Rattle.fields.specs.Words.{word1_from, word2_from, word3_from, word4_from, word5_from, word6_from, word10_from}
use Rattle.fields.specs.Words.{word1_numbers, word2_numbers, word3_numbers, word4_numbers, word5_numbers, word6_numbers, word10_numbers}

module _ (s : List ℕ) (at : ℕ) where
  pub word1_back : word1_numbers (word1_from (numbers_at s at (fields_of 1))) ≡ numbers_at s at (fields_of 1)
  unfolding word1_from word1_numbers named numbers_at fields_in layouts
  word1_back = refl

  pub word2_back : word2_numbers (word2_from (numbers_at s at (fields_of 2))) ≡ numbers_at s at (fields_of 2)
  unfolding word2_from word2_numbers named numbers_at fields_in layouts
  word2_back = refl

  pub word3_back : word3_numbers (word3_from (numbers_at s at (fields_of 3))) ≡ numbers_at s at (fields_of 3)
  unfolding word3_from word3_numbers named numbers_at fields_in layouts
  word3_back = refl

  pub word4_back : word4_numbers (word4_from (numbers_at s at (fields_of 4))) ≡ numbers_at s at (fields_of 4)
  unfolding word4_from word4_numbers named numbers_at fields_in layouts
  word4_back = refl

  pub word5_back : word5_numbers (word5_from (numbers_at s at (fields_of 5))) ≡ numbers_at s at (fields_of 5)
  unfolding word5_from word5_numbers named numbers_at fields_in layouts
  word5_back = refl

  pub word6_back : word6_numbers (word6_from (numbers_at s at (fields_of 6))) ≡ numbers_at s at (fields_of 6)
  unfolding word6_from word6_numbers named numbers_at fields_in layouts
  word6_back = refl

  pub word10_back : word10_numbers (word10_from (numbers_at s at (fields_of 10))) ≡ numbers_at s at (fields_of 10)
  unfolding word10_from word10_numbers named numbers_at fields_in layouts
  word10_back = refl
