-- `put_hex`: the digits put whole are what is written so far with the digits of the other bytes put behind it.
use native.Mathlib.Omega.{arith}
use mathlib.Core.Path.{sym, ◌∙◌}
use Rattle.text.proofs.Hex.{length_hex_of, hex_of_turn, hex_of_done}
use Rattle.text.proofs.put_hex.Goals as goal

pub loop-byte-preserved : goal.loop-byte-preserved
loop-byte-preserved c =
    let h = c.loop-byte in (
      omega arith,
      h.invariant.1
          ∙ hex_of_turn h.out h.to _ h.byte-index _ _ c.loop-byte-test.true (omega arith) c.hex_digit.ensures c.hex_digit-in-loop-byte.ensures,
    )

pub returns : goal.returns
returns c =
    let h = c.loop-byte in
    let l = length_hex_of c.args.bytes.now in
    record {
      bytes = sym (h.invariant.1 ∙ hex_of_done h.out h.to _ h.byte-index c.loop-byte-test.false);
      place = omega (arith, l);
      fits = omega (arith, l);
    }
