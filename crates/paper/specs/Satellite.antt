-- STORE 4: satellites, and how they are written.
use Rattle.std.specs.Prelude.{ℕ, ◌+◌, ◌/◌, ◌%◌, Bool, cond, ◌&&◌, List, [], ◌∷◌, leb}
use Rattle.paper.specs.Number.{Answer, done, refused}

-- STORE 4.1: the greatest
abbrev pub most_satellites : ℕ
most_satellites = 36

-- STORE 4.1: what is no satellite is 4; the test that it is one
abbrev pub is_satellite : ℕ → Bool
is_satellite s = leb 1 s && leb s most_satellites

-- STORE 4.1: the call that makes a satellite of a number
unfoldable pub satellite_of : ℕ → Answer
satellite_of s = cond (is_satellite s) (done (s ∷ [])) (refused 4)

-- STORE 4.2: E, and the tens and the ones of a number below 100, in ASCII
unfoldable pub letters_of : ℕ → List ℕ
letters_of s = 69 ∷ (48 + s / 10 % 10) ∷ (48 + s % 10) ∷ []
