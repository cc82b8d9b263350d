-- The last of the first n places that has a property, as this crate's answer.
use Rattle.std.specs.Prelude.{ℕ, zero, suc, ◌≡◌, ◌<◌, ◌+◌, Bool, cond, List, get_or, eqb}
use Rattle.paper.specs.Room.{slot_at}
use Rattle.std.specs.Prelude.{Option, Some, None}

unfoldable pub last_of : (ℕ → Bool) → ℕ → Option ℕ
last_of p zero = None
last_of p (suc n) = cond (p n) (Some n) (last_of p n)

-- slot i of a row has the satellite at its byte `at`
abbrev pub is_of : List ℕ → ℕ → ℕ → ℕ → Bool
is_of row at sat i = eqb (get_or row (slot_at i + at) 0) sat

-- where each number below n was answered by a test, the last place of the test was found
abbrev pub FindsLast : (ℕ → Bool → Type 0) → ℕ → Option ℕ → Type 0
FindsLast answered n r = (p : ℕ → Bool) → ((i : ℕ) (b : Bool) → i < n → answered i b → b ≡ p i) → r ≡ last_of p n
