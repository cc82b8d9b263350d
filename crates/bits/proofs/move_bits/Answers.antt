-- `move_bits` is right: the bits of the first byte, the whole bytes and the bits that remain, moved in turn, are one move.
use Prim.Native.Nat.{◌+◌, ◌-◌, ◌*◌, ◌/◌}
use native.Mathlib.Omega.{arith}
use Rattle.bits.proofs.InTurn.{no_bits, three_moves}
use Rattle.bits.proofs.move_bits.Goals as goal

pub returns-then-size-eq0 : goal.returns-then-size-eq0
returns-then-size-eq0 c =
    let a = c.args in
    no_bits a.d.now a.to a.w.now a.from a.size c.if-size-eq0.true

pub returns : goal.returns
returns c =
    let a = c.args in
    let k = c.run-k.result in
    let f = c.move_field-first in
    let m = c.move_bytes-hit in
    let t = c.move_field in
    three_moves a.d.now a.to a.w.now a.from a.size k ((a.size - k - 1) / 8) ((a.to + k) / 8) (k + 8 * ((a.size - k - 1) / 8))
    f.new.d m.new.d t.new.d f.result m.result t.result (omega arith) (omega arith) (omega arith)
    f.ensures.0 f.ensures.1 m.ensures.0 m.ensures.1 t.ensures.0 t.ensures.1
