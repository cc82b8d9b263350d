-- Four bytes put into the middle of a list, one by one. Assumes nothing.
use native.Mathlib.Omega.{arith}
use mathlib.Core.List.{List, [], ◌∷◌}
use mathlib.Core.Path.{◌≡◌, refl, ap}
use Prim.Native.Nat.{ℕ, zero, suc, ◌+◌, ◌≤◌}
use borrow.Rule.Slice.PartMut.{put_mid}
use lib.ListN.{length, set}

pub four_set :
    (s : List ℕ) (n a b c d : ℕ) → n + 4 ≤ length s
    → put_mid n 4 s (a ∷ b ∷ c ∷ d ∷ []) ≡ set (set (set (set s n a) (suc n) b) (suc (suc n)) c) (suc (suc (suc n))) d
four_set [] n a b c d h = absurd (omega arith)
four_set (x ∷ []) zero a b c d h = absurd (omega arith)
four_set (x ∷ y ∷ []) zero a b c d h = absurd (omega arith)
four_set (x ∷ y ∷ z ∷ []) zero a b c d h = absurd (omega arith)
four_set (x ∷ y ∷ z ∷ w ∷ s) zero a b c d h = refl
four_set (x ∷ s) (suc n) a b c d h = ap (λ (l : List ℕ). x ∷ l) (four_set s n a b c d (omega arith))
