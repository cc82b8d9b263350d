-- The first m bytes of a list alone: parts that lie within them are read and changed as in the whole. Assumes nothing.
use native.Mathlib.Omega.{arith}
use native.Mathlib.Nat.{suc-mul}
use mathlib.Core.Path.{◌≡◌, refl, sym, ap, ◌∙◌}
use mathlib.Core.List.{List}
use Prim.Native.Nat.{ℕ, zero, suc, ◌+◌, ◌*◌, ◌-◌, ◌≤◌, ◌<◌}
use lib.ListN.{length, take, get_or}
use lib.Seq.{take-take, length-take-le}
use Rattle.paper.specs.Big.{be32}
use Rattle.paper.specs.Parts.{part, on_part, on_parts}
use Rattle.paper.proofs.Big.{be32_before}
use Rattle.paper.proofs.Parts.{Keeps, drop_take, three_parts, same_before, get_d_same_before, on_part_length, on_part_part, on_part_take, on_part_drop}

module _ (m : ℕ) (l : List ℕ) where
  -- they agree with the whole up to m
  pub shorter_same : take m (take m l) ≡ take m l
  shorter_same = take-take m m l (omega arith)

  pub shorter_get_d : (i : ℕ) → i < m → get_or (take m l) i 0 ≡ get_or l i 0
  shorter_get_d i h = get_d_same_before m i (take m l) l shorter_same h

  pub shorter_be32 : (i : ℕ) → i + 4 ≤ m → be32 (take m l) i ≡ be32 l i
  shorter_be32 i h = be32_before m i (take m l) l shorter_same h

  pub shorter_part : (at k : ℕ) → at + k ≤ m → part at k (take m l) ≡ part at k l
  shorter_part at k h = same_before m at k (take m l) l shorter_same h

-- one part changed, and several
module _ (f : List ℕ → List ℕ) (k : ℕ) (keep : Keeps f k) (m : ℕ) where
  pub shorter_on_part : (at : ℕ) (l : List ℕ) → at + k ≤ m → m ≤ length l → on_part f at k (take m l) ≡ take m (on_part f at k l)
  shorter_on_part at l h g =
      three_parts at k (on_part f at k (take m l)) (take m (on_part f at k l))
      (on_part_take f k keep at (take m l) inside at (omega arith)
      ∙ take-take at m l (omega arith)
      ∙ sym (take-take at m (on_part f at k l) (omega arith) ∙ on_part_take f k keep at l (omega arith) at (omega arith)))
      (on_part_part f k keep at (take m l) inside
      ∙ ap f (shorter_part m l at k h)
      ∙ sym (shorter_part m (on_part f at k l) at k h ∙ on_part_part f k keep at l (omega arith)))
      (on_part_drop f k keep at (take m l) inside (at + k) (omega arith)
      ∙ drop_take (at + k) m l
      ∙ sym (drop_take (at + k) m (on_part f at k l) ∙ ap (take (m - (at + k))) (on_part_drop f k keep at l (omega arith) (at + k) (omega arith))))
    where
      inside : at + k ≤ length (take m l)
      inside = omega (arith, length-take-le m l g)

  pub shorter_on_parts : (n at : ℕ) (l : List ℕ) → at + n * k ≤ m → m ≤ length l → on_parts f k n at (take m l) ≡ take m (on_parts f k n at l)
  unfolding on_parts
  shorter_on_parts zero at l h g = refl
  shorter_on_parts (suc n) at l h g =
      let fits : at + k ≤ m = omega (arith, suc-mul n k) in
      ap (on_parts f k n (at + k)) (shorter_on_part at l fits g)
      ∙ shorter_on_parts n (at + k) (on_part f at k l) (omega (arith, suc-mul n k)) (rw (on_part_length f k keep at l (omega arith)) g)
