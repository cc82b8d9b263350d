-- `big` is right: after so many turns the number is that of the first bytes.
use native.Mathlib.Omega.{arith}
use mathlib.Core.Path.{◌∙◌}
use lib.ListN.{length-take}
use lib.Seq.{get_or-take}
use Rattle.packing.proofs.Written.{bytes_so_far, next_byte}
use Rattle.packing.proofs.big.Goals as goal

pub overflow_mul-v : goal.overflow_mul-v
overflow_mul-v c =
    let l = c.loop-byte in
    let s = c.args.s.now in
    omega (arith, bytes_so_far s l.byte-index l.v (omega (arith, c.loop-byte-test.true, length-take c.args.k s)) l.invariant)

pub overflow_add-v : goal.overflow_add-v
overflow_add-v c =
    let l = c.loop-byte in
    let s = c.args.s.now in
    omega (arith, bytes_so_far s l.byte-index l.v (omega (arith, c.loop-byte-test.true, length-take c.args.k s)) l.invariant)

pub loop-byte-preserved : goal.loop-byte-preserved
loop-byte-preserved c =
    let l = c.loop-byte in
    let s = c.args.s.now in
    next_byte s (λ j. (c.type_inv.s j).fits) l.byte-index l.v c.from.result l.invariant
    (c.from.ensures ∙ get_or-take c.args.k s l.byte-index 0 (omega (arith, c.loop-byte-test.true, length-take c.args.k s)))
