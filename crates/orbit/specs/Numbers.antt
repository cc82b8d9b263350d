-- The numbers of data as structs: each field of a struct is the number, or the double, of that name.
use Rattle.std.specs.Prelude.{ℕ, List, [], ◌++◌, pos, Float, false}
use Prim.Native.String.{String}
use Rattle.std.specs.Float.{fin}
use Rattle.paper.specs.Record.{CED, Timing}
use Rattle.paper.specs.Word.{table}
use Rattle.paper.specs.Field.{named, numbers_of, fields_along}
use Rattle.paper.specs.Double.{doubles_of, doubles_in}
use Rattle.fields.specs.Words.{word1_from, word2_from, word3_from, word4_from, word5_from, word6_from, word10_from}
use Rattle.fields.specs.Words.{word1_numbers, word2_numbers, word3_numbers, word4_numbers, word5_numbers, word6_numbers, word10_numbers}
use Rattle.fields.specs.declared.Word1.{Word1}
use Rattle.fields.specs.declared.Word2.{Word2}
use Rattle.fields.specs.declared.Word3.{Word3}
use Rattle.fields.specs.declared.Word4.{Word4}
use Rattle.fields.specs.declared.Word5.{Word5}
use Rattle.fields.specs.declared.Word6.{Word6}
use Rattle.fields.specs.declared.Word10.{Word10}
use Rattle.orbit.specs.declared.Scaled.{Scaled}
use Rattle.orbit.specs.declared.ScaledTiming.{ScaledTiming}
use Rattle.orbit.specs.declared.Orbit.{Orbit}
use Rattle.orbit.specs.declared.TimingNumbers.{TimingNumbers}

-- a double; plus zero where there is none of that name
abbrev d : String → List (String × Float) → Float
d name l = named (fin false 0 (pos 0)) name l

unfoldable pub scaled_from : List (String × Float) → Scaled
scaled_from l =
    record {
      m0 = d "M0" l;
      e = d "e" l;
      root_a = d "root A" l;
      omega0 = d "Omega0" l;
      i0 = d "i0" l;
      omega = d "omega" l;
      i_dot = d "i-dot" l;
      omega_dot = d "Omega-dot" l;
      delta_n = d "delta n" l;
      cuc = d "Cuc" l;
      cus = d "Cus" l;
      crc = d "Crc" l;
      crs = d "Crs" l;
      cic = d "Cic" l;
      cis = d "Cis" l;
      af0 = d "af0" l;
      af1 = d "af1" l;
      af2 = d "af2" l;
      ai0 = d "ai0" l;
      ai1 = d "ai1" l;
      ai2 = d "ai2" l;
      bgd_e1_e5a = d "BGD(E1,E5a)" l;
      bgd_e1_e5b = d "BGD(E1,E5b)" l;
    }

unfoldable pub scaled_timing_from : List (String × Float) → ScaledTiming
scaled_timing_from l =
    record {
      a0 = d "A0" l;
      a1 = d "A1" l;
      a0g = d "A0G" l;
      a1g = d "A1G" l;
    }

-- the doubles of an orbit and of timing parameters, from their whole numbers
unfoldable pub scaled_of : Word1 → Word2 → Word3 → Word4 → Word5 → Scaled
scaled_of w1 w2 w3 w4 w5 =
    scaled_from
    (doubles_of (fields_along table CED)
    (word1_numbers w1 ++ (word2_numbers w2 ++ (word3_numbers w3 ++ (word4_numbers w4 ++ (word5_numbers w5 ++ []))))))

unfoldable pub scaled_timing_of : Word6 → Word10 → ScaledTiming
scaled_timing_of w6 w10 =
    scaled_timing_from (doubles_of (fields_along table Timing) (word6_numbers w6 ++ (word10_numbers w10 ++ [])))

-- the numbers of CED data
unfoldable pub orbit_from : List ℕ → Orbit
orbit_from bytes =
    record {
      word1 = word1_from (numbers_of 1 bytes);
      word2 = word2_from (numbers_of 2 bytes);
      word3 = word3_from (numbers_of 3 bytes);
      word4 = word4_from (numbers_of 4 bytes);
      word5 = word5_from (numbers_of 5 bytes);
      scaled = scaled_from (doubles_in CED bytes);
    }

-- the numbers of timing data
unfoldable pub timing_from : List ℕ → TimingNumbers
timing_from bytes =
    record {
      word6 = word6_from (numbers_of 6 bytes);
      word10 = word10_from (numbers_of 10 bytes);
      scaled = scaled_timing_from (doubles_in Timing bytes);
    }
