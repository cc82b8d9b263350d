-- `move_byte` is right: the eight bits are cut out of two bytes, and a move to a whole byte sets it to them.
use Prim.Native.Nat.{◌+◌, ◌*◌}
use Rattle.bits.proofs.OneByte.{whole_put, whole_field}
use Rattle.bits.proofs.move_byte.Goals as goal

pub returns : goal.returns
returns c =
    let a = c.args in
    let p = c.put_byte in
    let high = c.from-a.ensures in
    let low = c.from-b.ensures in
    whole_put a.d.now a.i a.w.now (8 * a.j + a.r) c.requires.0 (λ i. (c.slice_known-1.given i).fits)
    (λ i. (c.type_inv.w i).fits) _ p.new.d a.hit p.result
    (rw (high, low) (whole_field a.w.now a.j a.r c.requires.2)) p.ensures.0 p.ensures.1
