-- Moves one after the other: the bits of one byte, whole bytes, and the bits that remain are one move.
use mathlib.Core.Bool.{Bool, true, false, cond}
use mathlib.Core.List.{List}
use mathlib.Core.Path.{◌≡◌, refl, ◌∙◌}
use Prim.Native.Nat.{ℕ, ◌+◌, ◌-◌, ◌*◌, ◌/◌, ◌%◌, ◌≤◌, ◌<◌, min}
use native.Mathlib.Omega.{arith}
use Rattle.paper.specs.Bits.{moved, changed}
use Rattle.paper.proofs.Bits.{move_on}

-- a flag that starts as false says whether the move changed anything
from_false : (c : Bool) → cond c true false ≡ c
from_false true = refl
from_false false = refl

pub no_bits : (d : List ℕ) (to : ℕ) (w : List ℕ) (from size : ℕ) → size ≡ 0
    → (d ≡ moved d to w from size) × (false ≡ changed d to w from size)
unfolding moved changed
no_bits d to w from size e = rw e (refl, refl)

pub one_move : (d : List ℕ) (to : ℕ) (w : List ℕ) (from size k : ℕ) (l : List ℕ) (hit : Bool) → size ≡ k
    → l ≡ moved d to w from k → hit ≡ cond (changed d to w from k) true false
    → (l ≡ moved d to w from size) × (hit ≡ changed d to w from size)
one_move d to w from size k l hit whole e f = rw whole (e, f ∙ from_false (changed d to w from k))

module _ (d : List ℕ) (to : ℕ) (w : List ℕ) (from size k count i n : ℕ) (l l' l'' : List ℕ) (hit hit' hit'' : Bool) where
  pub three_moves : to + k ≡ 8 * i → k + 8 * count ≡ n → n ≤ size
      → l ≡ moved d to w from k → hit ≡ cond (changed d to w from k) true false
      → l' ≡ moved l (8 * i) w (from + k) (8 * count) → hit' ≡ cond (changed l (8 * i) w (from + k) (8 * count)) true hit
      → l'' ≡ moved l' (to + n) w (from + n) (size - n) → hit'' ≡ cond (changed l' (to + n) w (from + n) (size - n)) true hit'
      → (l'' ≡ moved d to w from size) × (hit'' ≡ changed d to w from size)
  three_moves aligned whole most e f e' f' e'' f'' =
      let a = move_on d to w from k (8 * count) n (8 * i) (from + k) l l' false hit hit' (omega arith) refl (omega arith) e f e' f' in
      let b = move_on d to w from n (size - n) size (to + n) (from + n) l' l'' false hit' hit'' refl refl (omega arith) a.0 a.1 e'' f'' in
      (b.0, b.1 ∙ from_false (changed d to w from size))

-- one to eight bits remain after the whole bytes, and both lists have a byte for them
pub rest_fits : (to from size k i a b : ℕ) → to + k ≡ 8 * i → k < size → to + size ≤ 8 * a → from + size ≤ 8 * b
    → (n : ℕ) → n ≡ k + 8 * ((size - k - 1) / 8)
    → (1 ≤ size - n) × ((to + n) % 8 + (size - n) ≤ 8) × ((to + n) / 8 < a) × ((from + n) / 8 < b)
rest_fits to from size k i a b aligned more hd hw n e = (omega arith, omega arith, omega arith, omega arith)

-- where the first byte does not end the move, it ends at a whole byte
pub first_ends : (to size k : ℕ) → k ≡ min (8 - to % 8) size → (size ≡ k → ⊥) → (to + k ≡ 8 * ((to + k) / 8)) × (k < size)
first_ends to size k e n = (omega arith, omega arith)
