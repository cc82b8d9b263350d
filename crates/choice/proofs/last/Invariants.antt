-- The loop holds that all behind what is left were answered no.
use Prim.Native.Nat.{ℕ, ◌≤◌, ◌<◌}
use mathlib.Core.Bool.{false}
use Rattle.choice.proofs.last.Given as goal

abbrev pub invariant-loop-left : goal.invariant-loop-left
invariant-loop-left g l = (l.left ≤ l.n) × ((j : ℕ) → l.left ≤ j → j < l.n → g.F.Fn.post l.holds (j, tt) false)

abbrev pub decreases-loop-left : goal.decreases-loop-left
decreases-loop-left g l = l.left
