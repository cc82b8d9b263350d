-- STORE 14.5: the number and the values for each case of an answer of `gst`.
use Rattle.std.specs.Prelude.{ℕ, ℤ, Bool, cond, [], ◌∷◌, Result, Ok, Err}
use Rattle.paper.specs.Number.{Answer, refused}
use Rattle.paper.specs.Time.{Difference, subframes, no_difference}
use Rattle.refusals.specs.Reply.{refusal_number, answer_of}
use Rattle.refusals.specs.declared.Refusal.{Refusal}
use Rattle.gst.specs.declared.Gst.{Gst}

-- a new time: 0 with its week and its time of week; 5; 7
abbrev pub time_answer : Result Gst Refusal → Answer
time_answer = answer_of (λ g. g.wn.0 ∷ g.tow.0 ∷ [])

-- is it a start: 0 with 1 for yes and 0 for no; 5
abbrev pub start_answer : Result Bool Refusal → Answer
start_answer = answer_of (λ yes. cond yes 1 0 ∷ [])

-- the difference: 0 with its subframes; 5
abbrev pub apart_answer : Result ℤ Refusal → Difference
apart_answer (Ok n) = subframes n
apart_answer (Err why) = no_difference (refusal_number why)

-- a call on an answer: of the time where there is one, and else the refusal as it came
abbrev pub chained : Result Gst Refusal → (ℕ → ℕ → Answer) → Answer
chained (Ok g) call = call g.wn.0 g.tow.0
chained (Err why) call = refused (refusal_number why)
