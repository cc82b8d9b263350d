-- `body` is right: the last byte made 0, and one move.
use mathlib.Core.Path.{◌∙◌}
use Prim.Native.Nat.{◌+◌, ◌*◌}
use native.Mathlib.Omega.{arith}
use Rattle.packing.proofs.Written.{data_written}
use Rattle.packing.proofs.body.Goals as goal

pub returns : goal.returns
returns c =
    let a = c.args in
    let known = c.slice_known-1.given in
    c.move_bits.ensures.0 ∙ data_written a.out.now a.message.now (8 * a.k + 2) (omega arith) (λ i. (known i).fits)
