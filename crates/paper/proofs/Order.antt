-- "Order": a test that fails gives its number, and one that holds hands on; a call that is answered 0 has passed its tests, the first first.
-- Assumes nothing.
use mathlib.Core.Bool.{Bool, true, false}
use mathlib.Core.List.{List}
use mathlib.Core.Logic.{◌≢◌}
use mathlib.Core.Path.{◌≡◌, refl}
use Prim.Native.Nat.{ℕ, suc}
use Rattle.paper.specs.Number.{refused, answer, unless}

pub stop : (b : Bool) (k later : ℕ) (v : List ℕ) → b ≡ false → refused (suc k) ≡ answer (unless b (suc k) later) v
stop b k later v e = rw e

pub pass : (b : Bool) (k later : ℕ) (v : List ℕ) → b ≡ true → answer later v ≡ answer (unless b k later) v
pass b k later v e = rw e

-- a number 0 passed its first test, and what comes later is 0
pub unless_zero : (b : Bool) (k later : ℕ) → k ≢ 0 → unless b k later ≡ 0 → (b ≡ true) × (later ≡ 0)
unless_zero true k later h e = (refl, e)
unless_zero false k later h e = absurd (h e)
