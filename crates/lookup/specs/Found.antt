-- What a lookup answers: the place found, or that it refuses on the last.
use Rattle.std.specs.Prelude.{ℕ, ◌≡◌, ◌<◌, Bool, cond, ltb, Option, Some, None}
use Rattle.paper.specs.Parts.{first}

-- the answer for the first place k of n: `first` of Parts is n where there is none
abbrev pub found : ℕ → ℕ → Option ℕ
found n k = cond (ltb k n) (Some k) None

-- where each number below n was answered by a test, the first place of the test was found
abbrev pub FindsFirst : (ℕ → Bool → Type 0) → ℕ → Option ℕ → Type 0
FindsFirst answered n r = (p : ℕ → Bool) → ((i : ℕ) (b : Bool) → i < n → answered i b → b ≡ p i) → r ≡ found n (first p n)
