-- What a tag and the candidate test first, STORE 14.2: 3, 4, 5, 6.
use Rattle.std.specs.Prelude.{ℕ, List, []}
use Rattle.paper.specs.Number.{Answer, answer}
use Rattle.paper.specs.Answer.{until_start}

unfoldable pub mack_number : ℕ → ℕ → List ℕ → ℕ
mack_number sat t room = until_start sat t room 0

abbrev pub mack_answer : ℕ → ℕ → List ℕ → Answer
mack_answer sat t room = answer (mack_number sat t room) []
