-- `put_big` is right: what is left to be written, written, is the whole.
use mathlib.Core.Path.{◌≡◌}
use Rattle.packing.specs.Big.{put_big}
use Rattle.packing.proofs.put_big.Given as goal

abbrev pub invariant-loop-at : goal.invariant-loop-at
invariant-loop-at l = put_big l.d l.at l.rest ≡ put_big l.initial.d l.k l.v
