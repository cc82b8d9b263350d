-- STORE 5.1: bits of a list of bytes, from the top bit of the first byte on, and a move of bits.
use Rattle.std.specs.Prelude.{ℕ, zero, suc, ◌+◌, ◌-◌, ◌*◌, ◌/◌, ◌%◌, ◌^◌, Bool, true, false, cond, List, get_or, set, eqb}

-- what bit i weighs in its byte
abbrev pub weight_of : ℕ → ℕ
weight_of i = 2 ^ (7 - i % 8)

-- a number with the k bits from weight 2 ^ s on made v, which is below 2 ^ k
abbrev pub spliced : ℕ → ℕ → ℕ → ℕ → ℕ
spliced s k b v = b / 2 ^ (k + s) * 2 ^ (k + s) + (v * 2 ^ s + b % 2 ^ s)

-- bit i
abbrev pub bit_at : List ℕ → ℕ → ℕ
bit_at s i = get_or s (i / 8) 0 / weight_of i % 2

-- the bytes with bit i made v
unfoldable pub put_bit : List ℕ → ℕ → ℕ → List ℕ
put_bit s i v =
    let b = get_or s (i / 8) 0 in
    set s (i / 8) (b + v * weight_of i - b / weight_of i % 2 * weight_of i)

-- the n bits of d from `to` made those of w from `from`
unfoldable pub moved : List ℕ → ℕ → List ℕ → ℕ → ℕ → List ℕ
moved d to w from zero = d
moved d to w from (suc n) = let m = moved d to w from n in put_bit m (to + n) (bit_at w (from + n))

-- whether one of those bits was another
unfoldable pub changed : List ℕ → ℕ → List ℕ → ℕ → ℕ → Bool
changed d to w from zero = false
changed d to w from (suc n) =
    let c = changed d to w from n in
    cond (eqb (bit_at d (to + n)) (bit_at w (from + n))) c true
