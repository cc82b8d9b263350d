-- One below zero less a number: what the bits turned over stand for. Assumes nothing.
use native.Mathlib.Omega.{arith}
use Prim.Native.Nat.{ℕ, zero, suc, ◌<◌}
use mathlib.Core.Path.{◌≡◌, refl, ap}
use lib.IntN.{pos, negsuc, ◌-ℤ◌}
use mir.Syntax.{w32}
use mir.Val.{SFits}

pub minus_one : (y : ℕ) → negsuc 0 -ℤ pos y ≡ negsuc y
minus_one zero = refl
minus_one (suc y) = ap negsuc (omega arith)

pub minus_one_fits : (y : ℕ) → y < 2147483648 → SFits w32 (negsuc y)
minus_one_fits y h = record { sfits = omega arith }
