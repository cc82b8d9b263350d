-- STORE 14.1: the number and the values for what asking came to, and where the record that answers starts in the room.
use Rattle.std.specs.Prelude.{ℕ, cond, List, [], ◌∷◌, eqb, Result, Ok, Err}
use Rattle.paper.specs.Number.{Answer}
use Rattle.paper.specs.Record.{Family}
use Rattle.paper.specs.Ask.{row_answering, slot_answering}
use Rattle.paper.specs.Answer.{ask_number}
use Rattle.lookup.specs.Candidate.{place_of}
use Rattle.refusals.specs.Reply.{answer_of}
use Rattle.refusals.specs.declared.Refusal.{Refusal}
use Rattle.ask.specs.declared.Answering.{Answering}

-- STORE 12.3: the count, and the time less 30 s for each of the least age
abbrev pub answered_answer : Result Answering Refusal → Answer
answered_answer = answer_of (λ a. a.authbits ∷ a.gst.wn.0 ∷ a.gst.tow.0 ∷ [])

-- where the record starts in the room; 0 beside a refusal
abbrev pub place_answered : Result Answering Refusal → ℕ
place_answered (Ok a) = a.at
place_answered (Err why) = 0

unfoldable pub ask_place : Family → ℕ → List ℕ → ℕ
ask_place f sat room =
    cond (eqb (ask_number f sat room) 0) (place_of f (row_answering f sat room) (slot_answering f sat room) room) 0
