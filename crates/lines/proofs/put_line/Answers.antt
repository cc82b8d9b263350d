-- `put_line`: the letter, the number, what stands behind it and the line's end, one behind the other.
use native.Mathlib.Omega.{arith}
use Rattle.text.proofs.Puts.{put_then}
use Rattle.lines.specs.Lines.{line_of}
use Rattle.lines.proofs.Longest.{letter_two}
use Rattle.lines.proofs.put_line.Goals as goal

pub returns : goal.returns
unfolding line_of
returns c =
    let letter = rw c.letter-letter.ensures at c.put_bytes-lettered.ensures in
    let digits = rw (c.from.ensures, c.number_of.ensures) at c.put_decimal-numbered.ensures.0 in
    let text = put_then letter (put_then digits (put_then c.put_values-said.ensures.0 c.put_bytes.ensures)) in
    let within = c.put_values-said.ensures.1 in
    (text, omega (arith, letter.place, letter_two c.args.kind, c.put_decimal-numbered.ensures.1, within, c.put_bytes.ensures.place, c.requires.1))
