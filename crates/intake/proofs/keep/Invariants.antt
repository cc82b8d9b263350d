-- `keep`: the bytes behind those that are kept become zero one after the other.
use mathlib.Core.Path.{◌≡◌}
use Prim.Native.Nat.{◌-◌}
use lib.ListN.{replicate}
use Rattle.text.specs.Text.{put_text}
use Rattle.intake.proofs.keep.Given as goal

abbrev pub invariant-loop-i : goal.invariant-loop-i
invariant-loop-i l = l.reader ≡ put_text l.initial.reader l.have (replicate (l.i - l.have) 0)
