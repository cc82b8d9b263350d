-- `move_bytes` is right: after n turns the list and the flag are those of a move of 8 n bits, since moves add up.
use Prim.Native.Nat.{◌+◌, ◌*◌, ◌/◌, ◌%◌}
use native.Mathlib.Omega.{arith}
use Rattle.paper.proofs.Bits.{move_on}
use Rattle.bits.proofs.move_bytes.Goals as goal

pub loop-n-preserved : goal.loop-n-preserved
loop-n-preserved c =
    let a = c.args in
    let l = c.loop-n in
    let m = c.move_byte-hit in
    let on =
    move_on a.d.now (8 * a.i) a.w.now a.from (8 * l.n) 8 (8 * (l.n + 1)) (8 * (a.i + l.n)) (8 * (a.from / 8 + l.n) + a.from % 8)
    l.d m.new.d a.before l.hit m.result (omega arith) (omega arith) (omega arith)
    l.invariant.0 l.invariant.1 m.ensures.0 m.ensures.1 in
    (on.0, on.1)
