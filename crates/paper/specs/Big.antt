-- STORE 7.2, big-endian numbers: two and four bytes at a place of a list of bytes.
use Rattle.std.specs.Prelude.{ℕ, ◌+◌, ◌*◌, ◌/◌, ◌%◌, List, get_or, set}

-- the number in the two bytes at `at`
unfoldable pub be16 : List ℕ → ℕ → ℕ
be16 s at = get_or s at 0 * 256 + get_or s (at + 1) 0

-- the number in the four bytes at `at`
unfoldable pub be32 : List ℕ → ℕ → ℕ
be32 s at = be16 s at * 65536 + be16 s (at + 2)

-- the bytes with x in the two at `at`
unfoldable pub put16 : List ℕ → ℕ → ℕ → List ℕ
put16 s at x = set (set s at (x / 256)) (at + 1) (x % 256)

-- the bytes with x in the four at `at`
unfoldable pub put32 : List ℕ → ℕ → ℕ → List ℕ
put32 s at x = let h = put16 s at (x / 65536) in put16 h (at + 2) (x % 65536)
