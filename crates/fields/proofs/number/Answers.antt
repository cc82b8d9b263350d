-- `number`: the shift and the remainder cut the bits out of the five bytes.
use native.Mathlib.Omega.{arith}
use Rattle.paper.proofs.Fields.{bits_small}
use Rattle.fields.proofs.Shifts.{inside}
use Rattle.fields.proofs.number.Goals as goal

pub returns : goal.returns
returns c =
    let a = c.args in
    let is = inside a.s.now (λ i. (c.type_inv.s i).fits) a.o a.w c.five_bytes-v.result (omega arith) c.five_bytes-v.ensures.0 in
    (is, rw is (bits_small a.s.now a.o a.w))
