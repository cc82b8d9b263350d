-- The doubles of the words' numbers are those of the data. Assumes nothing.
use mathlib.Core.List.{List}
use mathlib.Core.Path.{◌≡◌}
use Prim.Native.Nat.{ℕ}
use Rattle.paper.specs.Record.{CED, Timing}
use Rattle.paper.specs.Word.{table}
use Rattle.paper.specs.Field.{in_record, numbers_of, numbers_along}
use Rattle.paper.specs.Double.{doubles_in}
use Rattle.fields.specs.Words.{word1_from, word2_from, word3_from, word4_from, word5_from, word6_from, word10_from}
use Rattle.fields.proofs.Words.{word1_back, word2_back, word3_back, word4_back, word5_back, word6_back, word10_back}
use Rattle.fields.specs.declared.Word1.{Word1}
use Rattle.fields.specs.declared.Word2.{Word2}
use Rattle.fields.specs.declared.Word3.{Word3}
use Rattle.fields.specs.declared.Word4.{Word4}
use Rattle.fields.specs.declared.Word5.{Word5}
use Rattle.fields.specs.declared.Word6.{Word6}
use Rattle.fields.specs.declared.Word10.{Word10}
use Rattle.orbit.specs.Numbers.{scaled_from, scaled_timing_from, scaled_of, scaled_timing_of}

pub doubles_of_lem :
    (bytes : List ℕ) (w1 : Word1) (w2 : Word2) (w3 : Word3) (w4 : Word4) (w5 : Word5)
    → w1 ≡ word1_from (numbers_of 1 bytes)
    → w2 ≡ word2_from (numbers_of 2 bytes)
    → w3 ≡ word3_from (numbers_of 3 bytes)
    → w4 ≡ word4_from (numbers_of 4 bytes)
    → w5 ≡ word5_from (numbers_of 5 bytes)
    → scaled_of w1 w2 w3 w4 w5 ≡ scaled_from (doubles_in CED bytes)
unfolding scaled_of numbers_along table
doubles_of_lem bytes w1 w2 w3 w4 w5 e1 e2 e3 e4 e5 =
    rw (e1, e2, e3, e4, e5)
    (rw (word1_back bytes (in_record table 1), word2_back bytes (in_record table 2), word3_back bytes (in_record table 3), word4_back bytes (in_record table 4), word5_back bytes (in_record table 5)))

pub timing_doubles_of :
    (bytes : List ℕ) (w6 : Word6) (w10 : Word10)
    → w6 ≡ word6_from (numbers_of 6 bytes)
    → w10 ≡ word10_from (numbers_of 10 bytes)
    → scaled_timing_of w6 w10 ≡ scaled_timing_from (doubles_in Timing bytes)
unfolding scaled_timing_of numbers_along table
timing_doubles_of bytes w6 w10 e6 e10 =
    rw (e6, e10) (rw (word6_back bytes (in_record table 6), word10_back bytes (in_record table 10)))
