-- A row of the table of examples: what the definitions give, and what STORE 18 says comes out.
use Rattle.std.specs.Prelude.{ℕ, zero, suc, ◌*◌, ◌≡◌, Bool, true, ◌&&◌, List, [], ◌∷◌, ◌++◌, replicate, pos, negsuc}
use Rattle.paper.specs.Number.{Answer, done, refused}
use Rattle.paper.specs.Time.{Difference, subframes, no_difference}
use Rattle.paper.specs.Record.{Family, same_list, satellite}
use Rattle.paper.specs.Room.{row_of, record_of}
use Rattle.paper.specs.Call.{Call, answer_to, run}

pub record Example : Type 0 where
  pub given : List ℕ
  pub said : List ℕ

-- every row gives what is said
abbrev pub EveryExample : List Example → Type 0
EveryExample [] = Unit {0}
EveryExample (r ∷ rs) = (r.given ≡ r.said) × EveryExample rs

-- the test that the checker computes over the whole table
unfoldable pub every_example : List Example → Bool
every_example [] = true
every_example (r ∷ rs) = let t = every_example rs in same_list r.given r.said && t

abbrev pub example : List ℕ → List ℕ → Example
example given said = record { given = given; said = said }

-- an answer as its number and its values
abbrev pub flat : Answer → List ℕ
flat (done v) = 0 ∷ v
flat (refused k) = k ∷ []

-- a difference of at least 0 as 0 and its value
abbrev pub flat_difference : Difference → List ℕ
flat_difference (subframes (pos k)) = 0 ∷ k ∷ []
flat_difference (subframes (negsuc k)) = 1 ∷ suc k ∷ []
flat_difference (no_difference k) = k ∷ []

-- the answer of the last of some calls, the latest first, on a lent room of 500 bytes that held sevens
unfoldable pub last_answer : Call → List Call → List ℕ
last_answer c before = let room = run (replicate 500 7) before in flat (answer_to c room)

-- the room after some calls, the latest first
unfoldable pub after : List Call → List ℕ
after calls = run (replicate 500 7) calls

-- of slot i of row r: its record
unfoldable pub record_in : Family → ℕ → ℕ → List ℕ → List ℕ
record_in f r i room = record_of f i (row_of r room)

-- the satellites of the first n slots of a row, from slot 0
unfoldable pub satellites : Family → ℕ → ℕ → List ℕ → List ℕ
satellites f r zero room = []
satellites f r (suc n) room = let l = satellites f r n room in l ++ (satellite (record_in f r n room) ∷ [])

-- a word: its type in the first six bits, and then the byte b throughout
unfoldable pub word : ℕ → ℕ → List ℕ
word type b = (type * 4) ∷ replicate 15 b
