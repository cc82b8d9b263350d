-- `write` is right: the head in whole bytes, the last byte made 0, and one move.
use mathlib.Core.Path.{◌∙◌}
use Prim.Native.Nat.{◌+◌, ◌*◌}
use native.Mathlib.Omega.{arith}
use lib.Pow.{pow_mono}
use Rattle.packing.proofs.Written.{row_written}
use Rattle.packing.proofs.write.Goals as goal

pub overflow_mul-head : goal.overflow_mul-head
overflow_mul-head c =
    let k = c.args.k in
    omega (arith, pow_mono {i = 8 * k + 2} {j = 58} (omega arith))

pub returns : goal.returns
returns c =
    let a = c.args in
    let row = row_written a.out.now a.bytes.now a.k a.head (omega arith) (omega arith) (λ i. (c.slice_known-1.given i).fits) in
    c.move_bits.ensures.0 ∙ rw c.put_big.ensures row
