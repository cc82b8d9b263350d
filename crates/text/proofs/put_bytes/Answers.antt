-- `put_bytes`: the text put whole is what is written so far with the rest of the text put behind it.
use native.Mathlib.Omega.{arith}
use mathlib.Core.Path.{refl, sym, ◌∙◌}
use Prim.Native.Nat.{◌+◌}
use Rattle.text.proofs.Puts.{put_text_turn, put_text_done}
use Rattle.text.proofs.put_bytes.Goals as goal

pub loop-i-preserved : goal.loop-i-preserved
loop-i-preserved c =
    let h = c.loop-i in
    let a = c.args in
    h.invariant ∙ put_text_turn h.out (a.at + h.i) (a.at + (h.i + 1)) a.text.now h.i c.loop-i-test.true (omega arith) (omega arith)

pub returns : goal.returns
returns c =
    let h = c.loop-i in
    record {
      bytes = sym (h.invariant ∙ put_text_done h.out _ c.args.text.now h.i c.loop-i-test.false);
      place = refl;
      fits = c.requires;
    }
