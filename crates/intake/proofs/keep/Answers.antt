-- `keep`: the bytes behind those that are kept become zero one after the other, and behind them stand how many are kept, the mark of the end
-- and the number.
use native.Mathlib.Omega.{arith}
use mathlib.Core.Path.{◌≡◌, sym, ◌∙◌}
use Prim.Native.Nat.{ℕ, ◌-◌}
use lib.ListN.{replicate, length-replicate}
use Rattle.text.specs.Text.{Put}
use Rattle.text.proofs.Puts.{put_text_none, put_then}
use Rattle.lines.specs.Kinds.{longest_item}
use Rattle.intake.proofs.State.{cleared_turn, kept_then}
use Rattle.intake.proofs.keep.Goals as goal

pub loop-i-init : goal.loop-i-init
loop-i-init c =
    let a = c.args in
    let none : 0 - a.have ≡ 0 = omega arith in
    sym (rw none (put_text_none a.reader.now a.have))

pub loop-i-preserved : goal.loop-i-preserved
loop-i-preserved c =
    let h = c.loop-i in
    let a = c.args in
    rw c.kept_byte.ensures (cleared_turn a.reader.now h.reader a.have h.i c.requires.0 c.requires.1 (omega arith) h.invariant)

pub returns : goal.returns
returns c =
    let h = c.loop-i in
    let a = c.args in
    let all : h.i ≡ longest_item = omega arith in
    let size = length-replicate {A = ℕ} (longest_item - a.have) 0 in
    let zeros : Put a.reader.now a.have (replicate (longest_item - a.have) 0) h.reader longest_item =
    record { bytes = rw all at h.invariant; place = omega (arith, size, c.requires.1); fits = omega (arith, size, c.requires.0, c.requires.1) } in
    (put_then zeros c.put_bytes.ensures).bytes
    ∙ kept_then a.reader.now a.have a.end a.number c.requires.0 c.requires.1
