-- What a candidate that is found or not says of the numbers of STORE 14.2, and the answer for a tag.
use Rattle.std.specs.Prelude.{ℕ, ◌≡◌, Bool, false, not, List, [], ◌∷◌, eqb, Some, Result, Ok, Err}
use Rattle.paper.specs.Number.{Answer, answer, unless, values}
use Rattle.paper.specs.Record.{Family}
use Rattle.paper.specs.Tag.{family_of, thirty_before, has_candidate, tagged, taken_by}
use Rattle.paper.specs.Answer.{room_for, until_candidate, from_candidate}
use Rattle.lookup.specs.Candidate.{candidate_at, CandidateThere}
use Rattle.refusals.specs.Reply.{refusal_number, answer_of}
use Rattle.refusals.specs.declared.Refusal.{Refusal}

-- a place: every test up to 10 is passed, and the candidate is there; a refusal: its number, whatever would come later
abbrev pub Placed : Result ℕ Refusal → Bool → Bool → ℕ → ℕ → ℕ → ℕ → ℕ → List ℕ → Type 0
Placed (Ok x) allowed known sat kind cop w t room =
    ((later : ℕ) → until_candidate allowed known sat kind cop w t room later ≡ later)
    × CandidateThere (family_of kind) sat cop w t room x
Placed (Err why) allowed known sat kind cop w t room =
    (later : ℕ) → until_candidate allowed known sat kind cop w t room later ≡ refusal_number why

-- the same of the last two tests, 16 and 10, for the MACK time whose time less 30 s is w, t
abbrev pub Sought : Result ℕ Refusal → Family → ℕ → ℕ → ℕ → ℕ → List ℕ → Type 0
Sought (Ok x) f sat cop w t room = (eqb cop 0 ≡ false) × (candidate_at f sat cop w t room ≡ Some x)
Sought (Err why) f sat cop w t room =
    (later : ℕ) → (w' t' : ℕ) → values (thirty_before w' t') ≡ w ∷ t ∷ []
    → unless (not (eqb cop 0)) 16 (unless (has_candidate f sat cop w' t' room) 10 later) ≡ refusal_number why

-- STORE 11.8: beside 0 the total
abbrev pub tagged_answer : Result ℕ Refusal → Answer
tagged_answer = answer_of (λ n. n ∷ [])

-- what a tag of length l answers and leaves, once its candidate's record is known
abbrev pub accepted_answer : Family → List ℕ → List ℕ → Bool → ℕ → List ℕ → Answer
accepted_answer f given rec verdict status room = answer (from_candidate f given rec verdict status) (taken_by f rec room ∷ [])

abbrev pub accepted_room : Family → List ℕ → List ℕ → Bool → ℕ → ℕ → List ℕ → List ℕ
accepted_room f given rec verdict status l room = room_for (from_candidate f given rec verdict status) (tagged f rec l room) room
