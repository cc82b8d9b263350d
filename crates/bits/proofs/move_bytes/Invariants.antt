-- `move_bytes` is right: after n turns the list and the flag are those of a move of 8 n bits, since moves add up.
use mathlib.Core.Path.{◌≡◌}
use mathlib.Core.Bool.{true, cond}
use Prim.Native.Nat.{◌*◌}
use Rattle.paper.specs.Bits.{moved, changed}
use Rattle.bits.proofs.move_bytes.Given as goal

abbrev pub invariant-loop-n : goal.invariant-loop-n
invariant-loop-n l = (l.d ≡ moved l.initial.d (8 * l.i) l.w l.from (8 * l.n)) × (l.hit ≡ cond (changed l.initial.d (8 * l.i) l.w l.from (8 * l.n)) true l.before)
