-- A double has the 64 bits of `double_bits`, and these are z × 2^-k exactly. Assumes nothing.
use native.Mathlib.Omega.{arith}
use Prim.Native.Nat.{ℕ, zero, suc, ◌^◌, ◌≤◌, ◌<◌}
use mathlib.Core.Path.{◌≡◌, refl}
use mathlib.Core.Bool.{not}
use lib.IntN.{ℤ, pos, negsuc, nat_abs}
use lib.Signed.{non_neg}
use lib.Ieee.{binary64, size, span, climb, to_bits}
use lib.Ieee.Bits.{to_bits-of_bits}
use Rattle.paper.specs.Double.{Exactly, double_bits, double}
use Rattle.doubles.proofs.Values.{not_nan}
use Rattle.doubles.proofs.Pattern.{its_pieces, bits_say, double_value}

pub double_exact : (z : ℤ) (k : ℕ) → nat_abs z < 9007199254740992 → k ≤ 255 → Exactly (double_bits z k) z k
unfolding double_bits
double_exact (pos zero) k h g = refl
double_exact (pos (suc n)) k h g = bits_say 0 (suc n) k (omega arith) (omega arith) h g
double_exact (negsuc n) k h g = bits_say 1 (suc n) k (omega arith) (omega arith) h g

in_64_bits : (z : ℤ) (k : ℕ) → nat_abs z < 9007199254740992 → k ≤ 255 → double_bits z k < 2 ^ 64
unfolding double_bits
in_64_bits (pos zero) k h g = omega arith
in_64_bits (pos (suc n)) k h g = (its_pieces 0 (suc n) k (omega arith) (omega arith) h g).small
in_64_bits (negsuc n) k h g = (its_pieces 1 (suc n) k (omega arith) (omega arith) h g).small

pub double_bits_lem : (z : ℤ) (k : ℕ) → nat_abs z < 9007199254740992 → k ≤ 255 → to_bits binary64 (double z k) ≡ double_bits z k
unfolding double
double_bits_lem z k h g =
    to_bits-of_bits binary64 (double_bits z k) (in_64_bits z k h g) (not_nan (double z k) (not (non_neg z)) (nat_abs z) (2 ^ k) (double_value z k h g))

pub plus_zero : (k : ℕ) → double_bits (pos 0) k ≡ 0
unfolding double_bits
plus_zero k = refl

-- 3/2, -2^-35, -1, and 2^32 - 1 times 2^-33
pub three_halves : double_bits (pos 3) 1 ≡ 0x3FF8000000000000
unfolding double_bits size span climb
three_halves = refl

pub one_below_zero : double_bits (negsuc 0) 35 ≡ 0xBDC0000000000000
unfolding double_bits size span climb
one_below_zero = refl

pub least_i32 : double_bits (negsuc 2147483647) 31 ≡ 0xBFF0000000000000
unfolding double_bits size span climb
least_i32 = refl

pub greatest_u32 : double_bits (pos 4294967295) 33 ≡ 0x3FDFFFFFFFE00000
unfolding double_bits size span climb
greatest_u32 = refl
