-- `put_trace`: the mark, the sum and the line's end, one behind the other.
use native.Mathlib.Omega.{arith}
use Rattle.text.proofs.Puts.{put_then}
use Rattle.text.proofs.Hex.{length_hex32}
use Rattle.intake.specs.Input.{trace_line}
use Rattle.intake.proofs.put_trace.Goals as goal

pub put_bytes-requires : goal.put_bytes-requires
put_bytes-requires c = omega (arith, length_hex32 c.adler32.result)

pub returns : goal.returns
unfolding trace_line
returns c = put_then c.put_bytes-marked.ensures (put_then (rw c.adler32.ensures at c.put_hex32-summed.ensures) c.put_bytes.ensures)
