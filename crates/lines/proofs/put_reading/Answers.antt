-- `put_reading`: one behind the other.
use native.Mathlib.Omega.{arith}
use Rattle.text.proofs.Puts.{put_then}
use Rattle.lines.specs.Lines.{reading_text}
use Rattle.lines.proofs.put_reading.Goals as goal

pub returns : goal.returns
unfolding reading_text
returns c = (put_then c.put_satellite-named.ensures.0 (put_then c.put_numbers-numbered.ensures.0 c.put_data.ensures.0), omega arith)
