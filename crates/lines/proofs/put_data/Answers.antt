-- `put_data`: the digits behind the space, two for each byte.
use native.Mathlib.Omega.{arith}
use Rattle.text.proofs.Puts.{put_then}
use Rattle.text.proofs.Hex.{length_hex_of}
use Rattle.lines.proofs.put_data.Goals as goal

pub returns : goal.returns
returns c =
    let a = c.args in
    (put_then c.put_bytes-next.ensures c.put_hex.ensures, omega (arith, length_hex_of a.data.now))
