-- Where the slice that a call hands out starts in the room; 0 beside a refusal.
use Rattle.std.specs.Prelude.{ℕ, ◌+◌, cond, List, eqb}
use Rattle.paper.specs.Record.{Family, data_at}
use Rattle.paper.specs.Tag.{family_of, candidate_row, candidate_slot}
use Rattle.paper.specs.Answer.{candidate_number, ask_number}
use Rattle.lookup.specs.Candidate.{place_of}
use Rattle.ask.specs.Answered.{ask_place}

-- the data of the candidate
unfoldable pub candidate_offset : ℕ → ℕ → ℕ → ℕ → ℕ → List ℕ → ℕ
candidate_offset sat kind cop w t room =
    cond (eqb (candidate_number sat kind cop w t room) 0)
    (place_of (family_of kind) (candidate_row w t room) (candidate_slot (family_of kind) sat w t room) room + data_at (family_of kind))
    0

-- the data of the record that answers
unfoldable pub ask_offset : Family → ℕ → List ℕ → ℕ
ask_offset f sat room =
    cond (eqb (ask_number f sat room) 0) (ask_place f sat room + data_at f) 0
