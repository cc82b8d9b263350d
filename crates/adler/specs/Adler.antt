-- Adler-32 (RFC 1950): s1 is the sum of all bytes, s2 the sum of all s1 values, both modulo 65521; s1 starts at 1, s2 at 0.
use Rattle.std.specs.Prelude.{ℕ, ◌+◌, ◌*◌, ◌%◌, List, [], ◌∷◌}

-- the largest prime below 65536
abbrev pub adler_prime : ℕ
adler_prime = 65521

-- "s2*65536 + s1", from the two sums so far
unfoldable pub adler_from : ℕ → ℕ → List ℕ → ℕ
adler_from s1 s2 [] = s2 * 65536 + s1
adler_from s1 s2 (x ∷ l) = let s = (s1 + x) % adler_prime in adler_from s ((s2 + s) % adler_prime) l

abbrev pub adler_of : List ℕ → ℕ
adler_of l = adler_from 1 0 l
