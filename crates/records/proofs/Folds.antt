-- The laws of ages, over any number of them: the greatest and the least as a fold from the front. Assumes nothing.
use native.Mathlib.Omega.{arith}
use mathlib.Core.Path.{◌≡◌}
use mathlib.Core.List.{List, [], ◌∷◌}
use Prim.Native.Nat.{ℕ, ◌≤◌, min, max}
use Rattle.std.specs.Prelude.{fold}
use Rattle.paper.specs.Record.{greatest, least}

-- the greatest of those passed and of those left
greatest_fold : (top : ℕ) (l : List ℕ) → fold max top l ≡ max top (greatest l)
unfolding greatest
greatest_fold top [] = omega arith
greatest_fold top (a ∷ l) = omega (arith, greatest_fold (max top a) l)

pub greatest_is : (l : List ℕ) → fold max 0 l ≡ greatest l
greatest_is l = omega (arith, greatest_fold 0 l)

-- the least of those passed and of those left
least_fold : (low : ℕ) (l : List ℕ) → low ≤ 255 → fold min low l ≡ min low (least l)
unfolding least
least_fold low [] h = omega arith
least_fold low (a ∷ l) h = omega (arith, least_fold (min low a) l (omega arith))

least_most : (l : List ℕ) → least l ≤ 255
unfolding least
least_most [] = omega arith
least_most (a ∷ l) = omega (arith, least_most l)

pub least_is : (l : List ℕ) → fold min 255 l ≡ least l
least_is l = omega (arith, least_fold 255 l (omega arith), least_most l)
