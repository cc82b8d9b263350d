-- `five_bytes`: five bytes side by side are 40 bits.
use native.Mathlib.Omega.{arith}
use Rattle.fields.proofs.Shifts.{forty_bits}
use Rattle.fields.proofs.five_bytes.Goals as goal

pub returns : goal.returns
returns x =
    let a = x.byte_or_zero-a in
    let b = x.byte_or_zero-b in
    let c = x.byte_or_zero-c in
    let d = x.byte_or_zero-d in
    let e = x.byte_or_zero-e in
    let is = forty_bits x.args.s.now (λ i. (x.type_inv.s i).fits) x.args.j a.result b.result c.result d.result e.result a.ensures b.ensures c.ensures d.ensures e.ensures in
    (omega (arith, is, x.from_be_bytes.ensures), omega (arith, x.from_be_bytes.ensures))
