-- The number that 32 bits are in two's complement.
use Rattle.std.specs.Prelude.{ℕ, ◌-◌, cond, ltb, ℤ, pos, negsuc}

unfoldable pub twos_complement : ℕ → ℤ
twos_complement x = cond (ltb x 2147483648) (pos x) (negsuc (4294967295 - x))
