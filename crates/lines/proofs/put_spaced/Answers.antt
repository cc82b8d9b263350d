-- `put_spaced`: the number behind the space.
use native.Mathlib.Omega.{arith}
use Rattle.text.proofs.Puts.{put_then}
use Rattle.lines.proofs.put_spaced.Goals as goal

pub returns : goal.returns
returns c = (put_then c.put_bytes-next.ensures c.put_decimal.ensures.0, omega arith)
