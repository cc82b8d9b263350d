-- `put_satellite`: the letters behind the space.
use native.Mathlib.Omega.{arith}
use Rattle.paper.specs.Satellite.{letters_of}
use Rattle.text.proofs.Puts.{put_then}
use Rattle.lines.proofs.put_satellite.Goals as goal

pub returns : goal.returns
unfolding letters_of
returns c =
    let b = rw c.letters-letters.ensures at c.put_bytes.ensures in
    (put_then c.put_bytes-next.ensures b, omega arith)
