-- A subframe less an age: the age's negative fits an i32. Assumes nothing.
use native.Mathlib.Omega.{arith}
use mathlib.Core.Path.{◌≡◌}
use Prim.Native.Nat.{ℕ, ◌<◌}
use lib.IntN.{pos, neg_ℤ, ◌-ℤ◌, +ℤ_idl}
use mir.Facts.{to_z-of_z, to_z_pos}
use mir.Syntax.{w32}
use mir.Val.{SFits, to_z, of_z}
use Rattle.signs.proofs.Integers.{fits, size_difference}

module _ (a : ℕ) (h : a < 256) where
  pub age_read : to_z w32 a ≡ pos a
  age_read = to_z_pos w32 (omega arith)

  pub back_fits : SFits w32 (pos 0 -ℤ pos a)
  back_fits = fits (pos 0 -ℤ pos a) (size_difference 0 a 2147483648 (omega arith) (omega arith))

  pub back_is : pos 0 -ℤ pos a ≡ neg_ℤ (pos a)
  back_is = +ℤ_idl (neg_ℤ (pos a))

  pub back_told : to_z w32 (of_z w32 (neg_ℤ (pos a))) ≡ neg_ℤ (pos a)
  back_told = to_z-of_z {w = w32} (rw back_is at back_fits)
