-- What the shifts and remainders of the code, in 32 bits, come to for bytes.
use mathlib.Core.Path.{◌≡◌, ◌∙◌}
use Prim.Native.Nat.{ℕ, ◌+◌, ◌*◌, ◌/◌, ◌%◌, ◌^◌, ◌<◌, ◌≤◌}
use native.Mathlib.Omega.{arith}
use native.Mathlib.Nat.{one-mul, lt_of_lt_of_le}
use lib.Dec.{lit<}
use lib.Pow.{shl_exact, shr_le, pow_mono, pow_pos}
use Rattle.paper.specs.Bits.{spliced}
use Rattle.paper.proofs.Digits.{rest_lt, spliced_lt}

-- 1 << k
pub one_shl : (k : ℕ) → k ≤ 8 → (1 * 2 ^ k) % 4294967296 ≡ 2 ^ k
one_shl k h = shl_exact {a = 1} 1 k 32 (lit< tt) (omega arith) ∙ one-mul (2 ^ k)

-- x % (1 << k) divides by no zero
pub one_shl_pos : (k : ℕ) → k ≤ 8 → 0 < (1 * 2 ^ k) % 4294967296
one_shl_pos k h = rw (one_shl k h) (pow_pos k)

-- a << k
byte_shl : (a k : ℕ) → a < 256 → k ≤ 8 → (a * 2 ^ k) % 4294967296 ≡ a * 2 ^ k
byte_shl a k l h = shl_exact {a = a} 8 k 32 l (omega arith)

module _ (b s k v : ℕ) (fit : k + s ≤ 8) (byte : b < 256) (small : v < 2 ^ k) where
  low_is : (v * 2 ^ s) % 4294967296 + b % ((1 * 2 ^ s) % 4294967296) ≡ v * 2 ^ s + b % 2 ^ s
  low_is = rw (byte_shl v s (lt_of_lt_of_le small (pow_mono {j = 8} (omega arith))) (omega arith), one_shl s (omega arith))

  pub low_fits : (v * 2 ^ s) % 4294967296 + b % ((1 * 2 ^ s) % 4294967296) < 2 ^ 32
  low_fits = rw low_is (omega (arith, rest_lt s k b v small, pow_mono {i = k + s} {j = 8} fit))

  pub joined_is : (b / 2 ^ (k + s) * 2 ^ (k + s)) % 4294967296 + ((v * 2 ^ s) % 4294967296 + b % ((1 * 2 ^ s) % 4294967296)) ≡ spliced s k b v
  joined_is = rw (low_is, byte_shl (b / 2 ^ (k + s)) (k + s) (omega (arith, shr_le b (k + s))) fit)

  pub joined_fits : (b / 2 ^ (k + s) * 2 ^ (k + s)) % 4294967296 + ((v * 2 ^ s) % 4294967296 + b % ((1 * 2 ^ s) % 4294967296)) < 256
  joined_fits = rw joined_is (spliced_lt s k b v small 8 fit byte)
