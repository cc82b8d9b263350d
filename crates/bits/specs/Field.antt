-- Several bits as one number: what the inner functions of the bit move answer.
use Rattle.std.specs.Prelude.{ℕ, ◌+◌, ◌-◌, ◌*◌, ◌/◌, ◌%◌, ◌^◌, List, get_or}

-- the k bits of w from bit p on, at most eight, as a number: they lie in two bytes
abbrev pub field_of : List ℕ → ℕ → ℕ → ℕ
field_of w p k = (get_or w (p / 8) 0 * 256 + get_or w (p / 8 + 1) 0) / 2 ^ (16 - (p % 8 + k)) % 2 ^ k
