-- Numbers and bytes as ASCII text: decimal, lower-case hex, and a text put into bytes at a place.
use Rattle.std.specs.Prelude.{ℕ, zero, suc, ◌+◌, ◌/◌, ◌%◌, ◌≤◌, ◌≡◌, cond, List, [], ◌∷◌, ◌++◌, length, take, drop, ltb}

-- the bytes with the text t from `at` on
unfoldable pub put_text : List ℕ → ℕ → List ℕ → List ℕ
put_text s at t = take at s ++ (t ++ drop (at + length t) s)

-- what putting the text t leaves: the bytes with it, and the place behind it, within the bytes
pub record Put (s : List ℕ) (at : ℕ) (t s' : List ℕ) (next : ℕ) : Type 0 where
  pub bytes : s' ≡ put_text s at t
  pub place : next ≡ at + length t
  pub fits : at + length t ≤ length s

-- a number below 2 ^ 32 has ten digits at most
abbrev pub most_digits : ℕ
most_digits = 10

-- the decimal digits of x, of which there are at most one more than so many
unfoldable pub decimal_in : ℕ → ℕ → List ℕ
decimal_in zero x = (48 + x) ∷ []
decimal_in (suc more) x =
    let before = decimal_in more (x / 10) in cond (ltb x 10) ((48 + x) ∷ []) (before ++ ((48 + x % 10) ∷ []))

-- a number in decimal: no zero in front, and 0 itself is one digit
unfoldable pub decimal : ℕ → List ℕ
decimal x = decimal_in x x

-- a digit below 16, in lower case
abbrev pub hex_digit : ℕ → ℕ
hex_digit d = cond (ltb d 10) (48 + d) (87 + d)

-- lower-case hex: two digits for each byte
unfoldable pub hex_of : List ℕ → List ℕ
hex_of [] = []
hex_of (b ∷ l) = hex_digit (b / 16) ∷ hex_digit (b % 16) ∷ hex_of l

-- a number below 2 ^ 32 as eight digits
unfoldable pub hex32 : ℕ → List ℕ
hex32 x = hex_of (x / 16777216 ∷ x / 65536 % 256 ∷ x / 256 % 256 ∷ x % 256 ∷ [])
