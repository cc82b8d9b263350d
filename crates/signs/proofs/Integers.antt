-- Signed numbers by their sign and their size, over any bound and factor: what `omega` does not read.
use native.Mathlib.Omega.{arith}
use native.Mathlib.Decide.{dec_lt}
use mathlib.Core.Path.{◌≡◌, refl, sym, ◌∙◌}
use mathlib.Core.Bool.{Bool, true, false, not}
use borrow.Author.Tests.{le-ltb, lt-ltb}
use Prim.Native.Nat.{ℕ, zero, suc, ◌+◌, ◌*◌, ◌/◌, ◌≤◌, ◌<◌, zero-le}
use lib.Dec.{T}
use lib.IntN.{ℤ, pos, negsuc, nat_abs, neg_ℤ, sub_ℕ, ◌+ℤ◌, ◌-ℤ◌, ◌*ℤ◌}
use lib.Signed.{non_neg, lt_z, quot_z}
use mir.Syntax.{w32, w64}
use mir.Val.{SFits, to_z, of_z}
use mir.Facts.{to_z-of_z, sfits_widen}

-- the test of the sign is the order's
pub below : (x : ℤ) → lt_z x (pos 0) ≡ not (non_neg x)
below (pos n) = le-ltb n 0 zero-le
below (negsuc n) = refl

-- an i32 without its sign fits a u32, and its negation an i64
pub size_small : (x : ℤ) → SFits w32 x → nat_abs x ≤ 2147483648
size_small (pos n) f = omega (arith, f.sfits)
size_small (negsuc n) f = omega (arith, f.sfits)

pub negated_fits : (x : ℤ) → SFits w32 x → SFits w64 (pos 0 -ℤ x)
negated_fits (pos zero) f = record { sfits = omega arith }
negated_fits (pos (suc n)) f =
    record { sfits = simp (lt-ltb 0 (suc n) (omega arith)) (omega (arith, f.sfits)) }
negated_fits (negsuc n) f = record { sfits = omega (arith, f.sfits) }

pub negated_size :
    (x : ℤ) → lt_z x (pos 0) ≡ true → T (non_neg (pos 0 -ℤ x)) × (nat_abs (pos 0 -ℤ x) ≡ nat_abs x)
negated_size (pos n) h =
    absurd
    (let z : ◌≡◌ {A = Bool} true false = sym h ∙ le-ltb n 0 zero-le in
    let y : ◌≡◌ {A = ℕ} 0 1 = cc in
    omega arith)
negated_size (negsuc n) h = (tt, omega arith)

pub not_below : (x : ℤ) → lt_z x (pos 0) ≡ false → T (non_neg x)
not_below (pos n) h = tt
not_below (negsuc n) h = absurd (let y : ◌≡◌ {A = ℕ} 0 1 = cc in omega arith)

-- what is small enough fits an i32
pub fits : (x : ℤ) → nat_abs x < 2147483648 → SFits w32 x
fits (pos n) h = record { sfits = omega arith }
fits (negsuc n) h = record { sfits = omega arith }

size_negated : (n : ℕ) → nat_abs (neg_ℤ (pos n)) ≡ n
size_negated zero = refl
size_negated (suc n) = refl

-- the size of a product and of a quotient that is rounded toward zero
pub size_product : (x : ℤ) (k : ℕ) → nat_abs (x *ℤ pos k) ≡ nat_abs x * k
size_product (pos a) k = refl
size_product (negsuc a) k = size_negated (suc a * k)

pub size_quotient : (x : ℤ) (k : ℕ) → nat_abs (quot_z x (pos k)) ≡ nat_abs x / k
size_quotient (pos a) k = refl
size_quotient (negsuc a) k = size_negated (suc a / k)

-- the size of a difference and of a sum
pub size_difference : (a b m : ℕ) → a < m → b < m → nat_abs (pos a -ℤ pos b) < m
size_difference a zero m p q = omega arith
size_difference a (suc b) m p q = go (dec_lt a (suc b))
  where
    go : Dec (a < suc b) → nat_abs (sub_ℕ a (suc b)) < m
    go (yes h) = simp (lt-ltb _ _ h) (omega arith)
    go (no n) = let h : suc b ≤ a = omega arith in simp (le-ltb _ _ h) (omega arith)

size_apart : (a b : ℕ) → nat_abs (sub_ℕ a b) ≤ a + b
size_apart a b = go (dec_lt a b)
  where
    go : Dec (a < b) → nat_abs (sub_ℕ a b) ≤ a + b
    go (yes h) = simp (lt-ltb _ _ h) (omega arith)
    go (no n) = let h : b ≤ a = omega arith in simp (le-ltb _ _ h) (omega arith)

pub size_sum : (x y : ℤ) → nat_abs (x +ℤ y) ≤ nat_abs x + nat_abs y
size_sum (pos a) (pos b) = omega arith
size_sum (pos a) (negsuc b) = size_apart a (suc b)
size_sum (negsuc a) (pos b) = let h = size_apart b (suc a) in omega (arith, h)
size_sum (negsuc a) (negsuc b) = omega arith

-- an i32 as an i64 is the same number
pub widened : (x : ℤ) → SFits w32 x → to_z w64 (of_z w64 x) ≡ x
widened x f = to_z-of_z {w = w64} (sfits_widen {w = w32} tt f)
