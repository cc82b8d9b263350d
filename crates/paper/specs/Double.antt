-- STORE 20.4: a whole number times 2^-k as a double, by its 64 bits, over whole numbers alone.
use Rattle.std.specs.Prelude.{ℕ, zero, suc, ◌+◌, ◌-◌, ◌*◌, ◌/◌, ◌%◌, ◌^◌, ◌≤◌, ◌<◌, List, [], ◌∷◌, ◌≡◌, ℤ, pos, negsuc, Float}
use Prim.Native.String.{String}
use Rattle.std.specs.Float.{binary64}
use Rattle.std.specs.Float.Ieee.{size, of_bits}
use Rattle.paper.specs.Record.{Family}
use Rattle.paper.specs.Word.{table}
use Rattle.paper.specs.Field.{Field, Scale, plain, by, fields_along, numbers_along}

-- a double's 64 bits: a sign, 11 bits of exponent, 52 of fraction
abbrev pub sign_bit : ℕ → ℕ
sign_bit b = b / 2 ^ 63

abbrev pub exponent : ℕ → ℕ
exponent b = b / 2 ^ 52 % 2 ^ 11

abbrev pub fraction : ℕ → ℕ
fraction b = b % 2 ^ 52

-- what they say, where the exponent is neither 0 nor 2047: (2^52 + fraction) × 2^(exponent - 1075), less than 0 where the sign is 1. That this
-- is n × 2^-k, with both sides multiplied by 2^1075 and 2^k
pub record BitsSay (b below n k : ℕ) : Type 0 where
  pub sign : sign_bit b ≡ below
  pub least : 1 ≤ exponent b
  pub most : exponent b < 2047
  pub exact : (2 ^ 52 + fraction b) * 2 ^ (exponent b + k) ≡ n * 2 ^ 1075

-- the bits b are those of z × 2^-k, exactly; 0 is plus zero, all bits zero
abbrev pub Exactly : ℕ → ℤ → ℕ → Type 0
Exactly b (pos zero) k = b ≡ 0
Exactly b (pos (suc n)) k = BitsSay b 0 (suc n) k
Exactly b (negsuc n) k = BitsSay b 1 (suc n) k

-- such bits for a number n that is not 0, of at most 53 binary digits: the top digit is not written
abbrev pub bits_for : ℕ → ℕ → ℕ → ℕ
bits_for sign n k = sign * 2 ^ 63 + (1022 + size n - k) * 2 ^ 52 + (n * 2 ^ (53 - size n) - 2 ^ 52)

unfoldable pub double_bits : ℤ → ℕ → ℕ
double_bits (pos zero) k = 0
double_bits (pos (suc n)) k = bits_for 0 (suc n) k
double_bits (negsuc n) k = bits_for 1 (suc n) k

-- the double z × 2^-k
unfoldable pub double : ℤ → ℕ → Float
double z k = of_bits binary64 (double_bits z k)

-- one field's double before those of the others, if it is scaled
abbrev pub scaled_before : Scale → String → ℤ → List (String × Float) → List (String × Float)
scaled_before plain name z later = later
scaled_before (by k) name z later = (name, double z k) ∷ later

-- the doubles of some fields with these numbers, each with its name
unfoldable pub doubles_of : List Field → List (String × ℤ) → List (String × Float)
doubles_of [] numbers = []
doubles_of (f ∷ fs) [] = []
doubles_of (f ∷ fs) (x ∷ xs) = scaled_before f.scale f.name x.1 (doubles_of fs xs)

-- the doubles of a family's data
abbrev pub doubles_in : Family → List ℕ → List (String × Float)
doubles_in f bytes = doubles_of (fields_along table f) (numbers_along table f bytes)
