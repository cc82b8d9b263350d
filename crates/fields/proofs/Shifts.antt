-- What the shifts and remainders of the code, in 64 bits, come to; and a field's two's complement. Assumes nothing.
use mathlib.Core.Bool.{Bool, cond}
use mathlib.Core.List.{List}
use mathlib.Core.Path.{◌≡◌, sym, ap, ◌∙◌}
use Prim.Native.Nat.{ℕ, zero, suc, ◌+◌, ◌-◌, ◌*◌, ◌/◌, ◌%◌, ◌^◌, ◌<◌, ◌≤◌}
use native.Mathlib.Omega.{arith}
use native.Mathlib.Nat.{one-mul, lt_of_lt_of_le, pow-suc}
use borrow.Author.Tests.{lt-ltb, le-ltb}
use lib.Dec.{lit<}
use lib.IntN.{ℤ, pos, negsuc}
use lib.ListN.{get_or}
use lib.Signed.{mag}
use lib.Pow.{shl_exact, pow_mono, pow_pos}
use mir.Syntax.{w32}
use mir.Val.{to_z, of_z}
use mir.Facts.{to_z-of_z}
use Rattle.paper.specs.Parts.{Bytes}
use Rattle.paper.specs.Field.{signed, value_of, bits_at}
use Rattle.paper.proofs.Fields.{bits_inside, bits_byte, bits_bytes}

-- 1 << k
pub one_shl_64 : (k : ℕ) → k ≤ 32 → (1 * 2 ^ k) % 18446744073709551616 ≡ 2 ^ k
one_shl_64 k h = shl_exact {a = 1} 1 k 64 (lit< tt) (omega arith) ∙ one-mul (2 ^ k)

pub one_shl_64_pos : (k : ℕ) → k ≤ 32 → 0 < (1 * 2 ^ k) % 18446744073709551616
one_shl_64_pos k h = rw (one_shl_64 k h) (pow_pos k)

-- a number of at most 32 bits
pub narrow : (v w : ℕ) → v < 2 ^ w → w ≤ 32 → v < 4294967296
narrow v w l h = lt_of_lt_of_le l (pow_mono {i = w} {j = 32} h)

-- ---- five bytes, and the bits inside them
module _ (s : List ℕ) (bytes : Bytes s) where
  pub forty_bits : (j a b c d e : ℕ) → a ≡ get_or s j 0 → b ≡ get_or s (j + 1) 0 → c ≡ get_or s (j + 2) 0 → d ≡ get_or s (j + 3) 0 → e ≡ get_or s (j + 4) 0
      → (((a * 256 + b) * 256 + c) * 256 + d) * 256 + e ≡ bits_at s (8 * j) 40
  forty_bits j a b c d e p q r t u =
      rw (bits_bytes s bytes j 4, bits_bytes s bytes j 3, bits_bytes s bytes j 2, bits_bytes s bytes j 1, bits_byte s bytes j, p, q, r, t, u)

  pub inside : (o w v : ℕ) → w ≤ 32 → v ≡ bits_at s (8 * (o / 8)) 40
      → v / 2 ^ (40 - (o % 8 + w)) % ((1 * 2 ^ w) % 18446744073709551616) ≡ bits_at s o w
  inside o w v h e =
      let long : 40 ≡ o % 8 + (w + (40 - (o % 8 + w))) = omega arith in
      let from : 8 * (o / 8) + o % 8 ≡ o = omega arith in
      rw (one_shl_64 w h, e)
      (ap (λ (x : ℕ). bits_at s (8 * (o / 8)) x / 2 ^ (40 - (o % 8 + w)) % 2 ^ w) long
      ∙ bits_inside s (8 * (o / 8)) (o % 8) w (40 - (o % 8 + w))
      ∙ ap (λ (x : ℕ). bits_at s x w) from)

-- ---- two's complement
halves : (w : ℕ) → 1 ≤ w → 2 ^ w ≡ 2 ^ (w - 1) + 2 ^ (w - 1)
halves zero h = absurd (omega arith)
halves (suc n) h = let e : suc n - 1 ≡ n = omega arith in rw (e, pow-suc 2 n) (omega arith)

module _ (w v : ℕ) (one : 1 ≤ w) (most : w ≤ 32) (small : v < 2 ^ w) where
  -- half of the numbers of w bits
  abbrev half : ℕ
  half = (1 * 2 ^ (w - 1)) % 18446744073709551616

  -- the bits turned over
  abbrev pub turned : ℕ
  turned = half + half - 1 - v

  half_is : half ≡ 2 ^ (w - 1)
  half_is = one_shl_64 (w - 1) (omega arith)

  half_most : half ≤ 2147483648
  half_most = rw half_is (pow_mono {i = w - 1} {j = 31} (omega arith))

  both : 2 ^ w ≡ half + half
  both = halves w one ∙ rw half_is

  pub low_half_fits : v < half → v < 2147483648
  low_half_fits l = omega (arith, half_most)

  pub low_is : v < half → pos v ≡ value_of signed w v
  low_is l = sym (ap (λ (b : Bool). cond b (pos v) (negsuc (2 ^ w - 1 - v))) (lt-ltb v (2 ^ (w - 1)) (rw (← half_is) l)))

  pub sum_fits : half + half < 18446744073709551616
  sum_fits = omega (arith, half_most)

  pub some : 1 ≤ half + half
  some = rw (← both) (pow_pos w)

  pub rest : v ≤ half + half - 1
  rest = omega (arith, both, small)

  pub turned_fits : half ≤ v → turned < 2147483648
  turned_fits l = omega (arith, half_most)

  pub high_is : half ≤ v → negsuc turned ≡ value_of signed w v
  high_is l =
      rw (← both) (sym (ap (λ (b : Bool). cond b (pos v) (negsuc (2 ^ w - 1 - v))) (le-ltb v (2 ^ (w - 1)) (rw (← half_is) l))))

-- a signed result as it is handed on
pub read : (z y : ℤ) → mag z < 2147483648 → z ≡ y → to_z w32 (of_z w32 z) ≡ y
read z y h e = to_z-of_z {w = w32} (record { sfits = h }) ∙ e
