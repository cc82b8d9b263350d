-- A whole number as a double, times 2^-k: the product is a double, and the one that is wanted. Assumes nothing.
use native.Mathlib.Omega.{arith}
use Prim.Native.Nat.{ℕ, suc, ◌-◌, ◌*◌, ◌^◌, ◌≤◌, ◌<◌}
use mathlib.Core.Path.{◌≡◌, sym, ap}
use mathlib.Core.Bool.{true, false, not}
use lib.Dec.{T}
use lib.IntN.{ℤ, pos, negsuc, nat_abs}
use lib.Signed.{non_neg}
use lib.Pow.{pow_pos}
use lib.Ieee.{Format, binary64, prec, size, span, climb, mul, of_bits, of_int, nan_bits}
use lib.Ieee.Fits.{mul-fits}
use lib.Ieee.Exact.{HasValue}
use lib.Ieee.Back.{round_whole}
use lib.Ieee.Bits.{of_bits-fits, nan_bits_is}
use Rattle.paper.specs.Double.{double_bits, double}
use Rattle.doubles.proofs.OneValue.{one_value}
use Rattle.doubles.proofs.Values.{not_nan, product_value}
use Rattle.doubles.proofs.Pattern.{double_value}

cast_value : (f : Format) (z : ℤ) → nat_abs z < 2 ^ prec f → HasValue (of_int f z) (not (non_neg z)) (nat_abs z) 1
unfolding of_int
cast_value f (pos n) h = round_whole f false n (omega arith)
cast_value f (negsuc n) h = round_whole f true (suc n) (omega arith)

pub product :
    (z : ℤ) (k : ℕ) → nat_abs z < 9007199254740992 → k ≤ 255 → mul binary64 (of_int binary64 z) (double (pos 1) k) ≡ double z k
unfolding double
product z k h g =
    let x = of_int binary64 z in
    let y = double (pos 1) k in
    one_value binary64 (mul binary64 x y) (double z k) (not (non_neg z)) (nat_abs z) (2 ^ k) (pow_pos k)
    (mul-fits binary64 x y) (of_bits-fits binary64 (double_bits z k))
    (product_value binary64 x y (not (non_neg z)) (nat_abs z) k h (omega arith) (cast_value binary64 z h) (double_value (pos 1) k (omega arith) g))
    (double_value z k h g)

-- 2^-k: the exponent alone
half_bits : (k : ℕ) → double_bits (pos 1) k ≡ (1023 - k) * 4503599627370496
unfolding double_bits size span climb
half_bits k = omega arith

pub half_is : (k : ℕ) → of_bits binary64 ((1023 - k) * 4503599627370496) ≡ double (pos 1) k
unfolding double
half_is k = ap (of_bits binary64) (sym (half_bits k))

pub half_not_nan : (k : ℕ) → k ≤ 255 → T (not (nan_bits binary64 ((1023 - k) * 4503599627370496)))
half_not_nan k g =
    rw (nan_bits_is binary64 ((1023 - k) * 4503599627370496), half_is k)
    (not_nan (double (pos 1) k) false 1 (2 ^ k) (double_value (pos 1) k (omega arith) g))
