-- `big` is right: after so many turns the number is that of the first bytes.
use mathlib.Core.Path.{◌≡◌}
use Prim.Native.Nat.{◌*◌}
use Rattle.paper.specs.Field.{bits_at}
use Rattle.packing.proofs.big.Given as goal

abbrev pub invariant-loop-byte : goal.invariant-loop-byte
invariant-loop-byte l = l.v ≡ bits_at l.s 0 (8 * l.byte-index)
