-- The fields of a double's bits, and what they are worth. Assumes nothing.
use native.Mathlib.Omega.{arith}
use native.Mathlib.Nat.{zero-mul, mul-le-mul_right}
use Prim.Native.Nat.{ℕ, zero, suc, ◌+◌, ◌-◌, ◌*◌, ◌/◌, ◌%◌, ◌^◌, ◌≤◌, ◌<◌}
use mathlib.Core.Path.{◌≡◌, refl, ◌∙◌}
use mathlib.Core.Bool.{Bool, true, false, not}
use borrow.Author.Tests.{lt-leb, le-leb}
use lib.Dec.{leb}
use lib.IntN.{ℤ, pos, negsuc, nat_abs}
use lib.Signed.{non_neg}
use lib.Pow.{pow-add, shl_lt}
use lib.Ieee.{binary64, size, odd, of_bits, of_fields}
use lib.Ieee.Digits.{size-lt, size-le, size_reaches}
use lib.Ieee.Exact.{HasValue}
use Rattle.paper.specs.Double.{BitsSay, sign_bit, exponent, fraction, bits_for, double_bits, double}
use Rattle.doubles.proofs.Values.{powers, pattern_value}

-- a number of at most p + 1 binary digits, brought to all of them
pub record Led (p n z : ℕ) : Type 0 where
  pub some : 1 ≤ z
  pub few : z ≤ suc p
  pub least : 2 ^ p ≤ n * 2 ^ (suc p - z)
  pub most : n * 2 ^ (suc p - z) < 2 ^ suc p

led : (p n : ℕ) → 0 < n → n < 2 ^ suc p → Led p n (size n)
led p n h g =
    let few : size n ≤ suc p = size-le n (suc p) g in
    let some : 1 ≤ size n = go (size n) (size-lt n) in
    let j = suc p - size n in
    let e : size n - 1 + j ≡ p = omega arith in
    let d : size n + j ≡ suc p = omega arith in
    record {
      some = some;
      few = few;
      least = rw (← pow-add 2 (size n - 1) j, e) at (mul-le-mul_right (2 ^ j) (size_reaches n (size n - 1) (omega arith)));
      most = rw d at (shl_lt (size n) j (size-lt n));
    }
  where
    go : (z : ℕ) → n < 2 ^ z → 1 ≤ z
    go zero l = absurd (omega arith)
    go (suc z) l = omega arith

-- a pattern by its three fields
pub record Pieces (b s e t : ℕ) : Type 0 where
  pub sign : sign_bit b ≡ s
  pub exp : exponent b ≡ e
  pub frac : fraction b ≡ t
  pub same : b % 2 ^ 63 / 2 ^ 52 ≡ e
  pub small : b < 2 ^ 64

pieces : (s e t : ℕ) → s ≤ 1 → e < 2047 → t < 2 ^ 52 → Pieces (s * 2 ^ 63 + e * 2 ^ 52 + t) s e t
pieces s e t h g l = record { sign = omega arith; exp = omega arith; frac = omega arith; same = omega arith; small = omega arith }

-- those of n × 2^-k, less than 0 where s is 1, for an n of at most 53 digits that is not 0
module _ (s n k : ℕ) (sign : s ≤ 1) (some : 0 < n) (small : n < 9007199254740992) (near : k ≤ 255) where
  pub its_pieces : Pieces (bits_for s n k) s (1022 + size n - k) (n * 2 ^ (53 - size n) - 2 ^ 52)
  its_pieces =
      let d = led 52 n some small in
      pieces s (1022 + size n - k) (n * 2 ^ (53 - size n) - 2 ^ 52) sign (omega arith) (omega arith)

  pub bits_say : BitsSay (bits_for s n k) s n k
  bits_say =
      let d = led 52 n some small in
      let f = its_pieces in
      let lead : 2 ^ 52 + (n * 2 ^ (53 - size n) - 2 ^ 52) ≡ n * 2 ^ (53 - size n) = omega arith in
      record {
        sign = f.sign;
        least = omega arith;
        most = omega arith;
        exact = rw (f.frac, f.exp, lead) (powers n (53 - size n) (1022 + size n - k + k) 1075 (omega arith));
      }

  its_value : (b : Bool) → leb (2 ^ 63) (bits_for s n k) ≡ b → HasValue (of_bits binary64 (bits_for s n k)) b n (2 ^ k)
  its_value b e =
      let d = led 52 n some small in
      let f = its_pieces in
      pattern_value binary64 b (bits_for s n k) (1021 + size n - k) (n * 2 ^ (53 - size n) - 2 ^ 52) n (53 - size n) k e
      (f.same ∙ omega arith) f.frac (omega arith) (omega arith) (omega arith)

pub double_value : (z : ℤ) (k : ℕ) → nat_abs z < 9007199254740992 → k ≤ 255 → HasValue (double z k) (not (non_neg z)) (nat_abs z) (2 ^ k)
unfolding double double_bits of_bits of_fields odd
double_value (pos zero) k h g = (refl, zero-mul (2 ^ k))
double_value (pos (suc n)) k h g =
    let f = its_pieces 0 (suc n) k (omega arith) (omega arith) h g in
    its_value 0 (suc n) k (omega arith) (omega arith) h g false (lt-leb (2 ^ 63) (bits_for 0 (suc n) k) (omega arith))
double_value (negsuc n) k h g =
    let f = its_pieces 1 (suc n) k (omega arith) (omega arith) h g in
    its_value 1 (suc n) k (omega arith) (omega arith) h g true (le-leb (2 ^ 63) (bits_for 1 (suc n) k) (omega arith))
