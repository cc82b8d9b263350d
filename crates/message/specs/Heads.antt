-- The fields in front of the data as one number, the first field at the top; and the fields of such a number.
use Rattle.std.specs.Prelude.{ℕ, ◌+◌, ◌*◌, ◌/◌, ◌%◌, ◌^◌, List, [], ◌∷◌}
use Rattle.paper.specs.Message.{Head, head_fields}

-- fields behind a number
unfoldable pub joined : ℕ → List (ℕ × ℕ) → ℕ
joined v [] = v
joined v (f ∷ fs) = joined (v * 2 ^ f.0 + f.1) fs

abbrev pub head_number : ℕ → Head → ℕ
head_number form h = joined 0 (head_fields form h)

-- the fields of a number of at most 58 bits, each by the bits that stand behind it
unfoldable pub head_from : ℕ → Head
head_from n =
    record {
      prnd = n / 2 ^ 50;
      prna = n / 2 ^ 42 % 2 ^ 8;
      week = n / 2 ^ 30 % 2 ^ 12;
      time = n / 2 ^ 10 % 2 ^ 20;
      counter = n / 2 ^ 2 % 2 ^ 8;
      status = n % 2 ^ 2;
    }
