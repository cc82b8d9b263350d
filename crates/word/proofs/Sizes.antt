-- A record is short.
use native.Mathlib.Omega.{arith}
use Prim.Native.Nat.{◌≤◌}
use Rattle.paper.specs.Record.{Family, CED, Timing, size}

pub short : (f : Family) → size f ≤ size CED
short CED = omega arith
short Timing = omega arith
