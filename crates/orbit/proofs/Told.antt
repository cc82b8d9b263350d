-- A signed number of a struct comes to a callee by its bits: its double is that of the number. Assumes nothing.
use mathlib.Core.Path.{◌≡◌, ap, ◌∙◌}
use Prim.Native.Nat.{ℕ, ◌<◌}
use lib.Ieee.{Float}
use lib.IntN.{ℤ}
use lib.Signed.{mag}
use mir.Syntax.{w32}
use mir.Val.{to_z, of_z}
use mir.Facts.{to_z-of_z}
use Rattle.paper.specs.Double.{double}

pub told : (z : ℤ) (k : ℕ) (x : Float) → mag z < 2147483648 → x ≡ double (to_z w32 (of_z w32 z)) k → x ≡ double z k
told z k x h e = e ∙ ap (λ (y : ℤ). double y k) (to_z-of_z {w = w32} (record { sfits = h }))
