-- `put_numbers`: one behind the other.
use native.Mathlib.Omega.{arith}
use Rattle.lines.specs.Lines.{numbers_text}
use Rattle.text.proofs.Puts.{put_then}
use Rattle.lines.proofs.put_numbers.Goals as goal

pub returns : goal.returns
unfolding numbers_text
returns c =
    let counted = rw c.from.ensures at c.put_spaced-counted.ensures.0 in
    let dated = rw c.from-2.ensures at c.put_spaced-dated.ensures.0 in
    (put_then counted (put_then dated c.put_spaced.ensures.0), omega arith)
