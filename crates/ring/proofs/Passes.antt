-- Two passes over the same parts are one pass that does both changes to each part. Assumes nothing.
use native.Mathlib.Omega.{arith}
use native.Mathlib.Nat.{suc-mul}
use mathlib.Core.Path.{◌≡◌, refl, ap, ◌∙◌}
use mathlib.Core.List.{List}
use Prim.Native.Nat.{ℕ, zero, suc, ◌+◌, ◌*◌, ◌≤◌}
use lib.ListN.{length}
use Rattle.paper.specs.Parts.{on_part, on_parts}
use Rattle.paper.proofs.Parts.{Keeps, on_part_length, on_part_twice, on_part_swap}

module _ (f g : List ℕ → List ℕ) (k m : ℕ) (keepf : Keeps f k) (keepg : Keeps g m) where
  -- a part that lies before n others may be changed before them or after them
  pub on_part_on_parts : (n a at : ℕ) (l : List ℕ) → a + k ≤ at → at + n * m ≤ length l
      → on_part f a k (on_parts g m n at l) ≡ on_parts g m n at (on_part f a k l)
  unfolding on_parts
  on_part_on_parts zero a at l d h = refl
  on_part_on_parts (suc n) a at l d h =
      let q = suc-mul n m in
      let here : at + m ≤ length l = omega (arith, q) in
      on_part_on_parts n a (at + m) (on_part g at m l) (omega arith) (omega (arith, q, on_part_length g m keepg at l here))
      ∙ ap (on_parts g m n (at + m)) (on_part_swap f g k m keepf keepg a at l d here)

module _ (f g : List ℕ → List ℕ) (k : ℕ) (keepf : Keeps f k) (keepg : Keeps g k) where
  keep_both : Keeps (λ r. f (g r)) k
  keep_both r e = keepf (g r) (keepg r e)

  pub on_parts_twice : (n at : ℕ) (l : List ℕ) → at + n * k ≤ length l
      → on_parts f k n at (on_parts g k n at l) ≡ on_parts (λ r. f (g r)) k n at l
  unfolding on_parts
  on_parts_twice zero at l h = refl
  on_parts_twice (suc n) at l h =
      let q = suc-mul n k in
      let here : at + k ≤ length l = omega (arith, q) in
      let both : List ℕ = on_part (λ r. f (g r)) at k l in
      ap (on_parts f k n (at + k))
      (on_part_on_parts f g k k keepf keepg n at (at + k) (on_part g at k l) (omega arith) (omega (arith, q, on_part_length g k keepg at l here))
      ∙ ap (on_parts g k n (at + k)) (on_part_twice f g k keepf keepg at l here))
      ∙ on_parts_twice n (at + k) both (omega (arith, q, on_part_length (λ r. f (g r)) k keep_both at l here))
