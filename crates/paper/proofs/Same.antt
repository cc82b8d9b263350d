-- The tests of sameness as equations: two lists, and two data in their 549 or 141 bits, as lists and bit by bit. Assumes nothing.
use mathlib.Core.Bool.{true}
use mathlib.Core.List.{List, [], ◌∷◌, ◌++◌}
use mathlib.Core.Path.{◌≡◌, refl, sym, ap, ◌∙◌}
use Prim.Native.Nat.{ℕ, zero, suc, ◌+◌, ◌-◌, ◌/◌, ◌%◌, ◌^◌, ◌<◌}
use native.Mathlib.Omega.{arith}
use native.Mathlib.Decide.{dec_lt}
use lib.Dec.{eqb}
use lib.ListN.{get_or, take}
use lib.Pow.{shr-shr}
use borrow.Author.Tests.{eqb-true, eq-eqb}
use Rattle.paper.specs.Bits.{bit_at}
use Rattle.paper.specs.Record.{Family, record_bits, data_bytes, last_weight, in_bits, same_list, same_bits}
use Rattle.paper.proofs.StoreFacts.{both_true}
use Rattle.paper.proofs.Views.{bits_and_bytes}

pub list_true : (a b : List ℕ) → same_list a b ≡ true → a ≡ b
unfolding same_list
list_true [] [] e = refl
list_true [] (y ∷ ys) e = cc
list_true (x ∷ xs) [] e = cc
list_true (x ∷ xs) (y ∷ ys) e =
    let p = both_true (eqb x y) (same_list xs ys) e in
    cc (eqb-true x y p.0, list_true xs ys p.1)

pub list_same : (a : List ℕ) → same_list a a ≡ true
unfolding same_list
list_same [] = refl
list_same (x ∷ xs) = rw (eq-eqb x x refl) (list_same xs)

pub bits_true : (f : Family) (a b : List ℕ) → same_bits f a b ≡ true → in_bits f a ≡ in_bits f b
unfolding same_bits
bits_true f a b e = list_true (in_bits f a) (in_bits f b) e

pub true_bits : (f : Family) (a b : List ℕ) → in_bits f a ≡ in_bits f b → same_bits f a b ≡ true
unfolding same_bits
true_bits f a b e = ap (λ (x : List ℕ). same_list x (in_bits f b)) e ∙ list_same (in_bits f b)

-- ---- bit by bit
-- data without the bits past the end has its bytes, and the top five bits of the last
whole_byte : (n : ℕ) (x : List ℕ) (j : ℕ) → j < n → get_or (take n x ++ (get_or x n 0 / last_weight ∷ [])) j 0 ≡ get_or x j 0
whole_byte zero x j h = absurd (omega arith)
whole_byte (suc n) [] zero h = refl
whole_byte (suc n) [] (suc j) h = refl
whole_byte (suc n) (y ∷ x) zero h = refl
whole_byte (suc n) (y ∷ x) (suc j) h = whole_byte n x j (omega arith)

last_byte : (n : ℕ) (x : List ℕ) → get_or (take n x ++ (get_or x n 0 / last_weight ∷ [])) n 0 ≡ get_or x n 0 / last_weight
last_byte zero x = refl
last_byte (suc n) [] = refl
last_byte (suc n) (y ∷ x) = last_byte n x

-- a bit among the top five of a byte is one of that byte without its low three
top_bit : (x i : ℕ) → i % 8 < 5 → x / 2 ^ (7 - i % 8) % 2 ≡ x / last_weight / 2 ^ (4 - i % 8) % 2
top_bit x i h =
    let s : 7 - i % 8 ≡ 3 + (4 - i % 8) = omega arith in
    ap (λ (k : ℕ). x / 2 ^ k % 2) s ∙ ap (λ (y : ℕ). y % 2) (sym (shr-shr x 3 (4 - i % 8)))

module _ (f : Family) (a b : List ℕ) (e : same_bits f a b ≡ true) where
  same_at : (j : ℕ) → get_or (in_bits f a) j 0 ≡ get_or (in_bits f b) j 0
  same_at j = ap (λ (l : List ℕ). get_or l j 0) (bits_true f a b e)

  pub same_bit : (i : ℕ) → i < record_bits f → bit_at a i ≡ bit_at b i
  same_bit i h = go (dec_lt (i / 8) (data_bytes f - 1))
    where
      go : Dec (i / 8 < data_bytes f - 1) → bit_at a i ≡ bit_at b i
      go (yes l) =
          ap (λ (x : ℕ). x / 2 ^ (7 - i % 8) % 2)
          (sym (whole_byte (data_bytes f - 1) a (i / 8) l) ∙ same_at (i / 8) ∙ whole_byte (data_bytes f - 1) b (i / 8) l)
      go (no l) =
          let n = data_bytes f - 1 in
          let j : i / 8 ≡ n = omega (arith, bits_and_bytes f) in
          let r : i % 8 < 5 = omega (arith, bits_and_bytes f) in
          let q : get_or a n 0 / last_weight ≡ get_or b n 0 / last_weight = sym (last_byte n a) ∙ same_at n ∙ last_byte n b in
          rw j (top_bit (get_or a n 0) i r ∙ ap (λ (y : ℕ). y / 2 ^ (4 - i % 8) % 2) q ∙ sym (top_bit (get_or b n 0) i r))
