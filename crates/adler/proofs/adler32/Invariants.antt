-- `adler32`: the sums of all bytes are the sums so far, carried on over the rest.
use mathlib.Core.Path.{◌≡◌}
use Prim.Native.Nat.{◌<◌}
use lib.ListN.{drop}
use Rattle.adler.specs.Adler.{adler_prime, adler_of, adler_from}
use Rattle.adler.proofs.adler32.Given as goal

abbrev pub invariant-loop-byte : goal.invariant-loop-byte
invariant-loop-byte l =
    (l.s1 < adler_prime) × (l.s2 < adler_prime) × (adler_of l.bytes ≡ adler_from l.s1 l.s2 (drop l.byte-index l.bytes))
