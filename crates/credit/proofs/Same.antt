-- Laws of the comparison: whole bytes, and the last byte by its top five bits. Assumes nothing.
use native.Mathlib.Omega.{arith}
use mathlib.Core.Path.{◌≡◌, refl, sym, ap, ◌∙◌}
use mathlib.Core.Bool.{Bool, true, false, ◌&&◌}
use mathlib.Core.List.{List, [], ◌∷◌, ◌++◌}
use lib.Dec.{eqb}
use lib.Pointwise.{pointwise}
use lib.ListN.{length, take, get_or}
use lib.Seq.{length-take-le}
use Prim.Native.Nat.{ℕ, ◌-◌, ◌/◌, ◌≤◌}
use Rattle.paper.specs.Record.{Family, family_if, data_bytes, last_weight, same_list, same_bits}

-- as the library compares slices
pub pointwise_same : (x y : List ℕ) → pointwise eqb x y ≡ same_list x y
unfolding same_list
pointwise_same [] [] = refl
pointwise_same [] (b ∷ ys) = refl
pointwise_same (a ∷ xs) [] = refl
pointwise_same (a ∷ xs) (b ∷ ys) = ap (λ (t : Bool). eqb a b && t) (pointwise_same xs ys)

swap : (p q r : Bool) → (p && (q && r)) ≡ (q && (p && r))
swap true q r = refl
swap false true r = refl
swap false false r = refl

-- lists of one length with one element more each
same_last : (x y : List ℕ) (p q : ℕ) → length x ≡ length y → same_list (x ++ (p ∷ [])) (y ++ (q ∷ [])) ≡ (eqb p q && same_list x y)
unfolding same_list
same_last [] [] p q e = refl
same_last [] (b ∷ ys) p q e = absurd (omega arith)
same_last (a ∷ xs) [] p q e = absurd (omega arith)
same_last (a ∷ xs) (b ∷ ys) p q e =
    ap (λ (t : Bool). eqb a b && t) (same_last xs ys p q (omega arith)) ∙ swap (eqb a b) (eqb p q) (same_list xs ys)

pub bytes_of : (timing : Bool) → 1 ≤ data_bytes (family_if timing)
bytes_of true = omega arith
bytes_of false = omega arith

-- "all its bits", by bytes
pub bits_by_bytes : (f : Family) (a b : List ℕ) (k : ℕ) → k ≡ data_bytes f - 1 → length a ≡ data_bytes f → length b ≡ data_bytes f
    → same_bits f a b ≡ (eqb (get_or a k 0 / last_weight) (get_or b k 0 / last_weight) && same_list (take k a) (take k b))
unfolding same_bits
bits_by_bytes f a b k z la lb =
    let ta : length (take k a) ≡ k = length-take-le k a (omega arith) in
    let tb : length (take k b) ≡ k = length-take-le k b (omega arith) in
    rw (← z) (same_last (take k a) (take k b) (get_or a k 0 / last_weight) (get_or b k 0 / last_weight) (ta ∙ sym tb))
