-- A number in the first bytes of a list, the top byte first.
use Rattle.std.specs.Prelude.{ℕ, zero, suc, ◌/◌, ◌%◌, List, set}

-- the bytes with v in the first k
unfoldable pub put_big : List ℕ → ℕ → ℕ → List ℕ
put_big d zero v = d
put_big d (suc k) v = put_big (set d k (v % 256)) k (v / 256)
