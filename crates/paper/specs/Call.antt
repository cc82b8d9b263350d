-- Calls as data, with all their arguments, bad ones among them; the room and the answers along a list of calls.
use Rattle.std.specs.Prelude.{ℕ, Bool, List, [], ◌∷◌}
use Rattle.paper.specs.Number.{Answer}
use Rattle.paper.specs.Record.{Family}
use Rattle.paper.specs.Answer.{fresh_answer, fresh_room, feed_answer, feed_room, tag_answer, tag_room, candidate_answer, candidate_data, ask_answer, ask_data, reset_answer, reset_room}

pub data Call : Type 0 where
  -- D, N, rule
  fresh_call : ℕ → ℕ → ℕ → Call
  -- word, satellite, week, time, band
  feed_call : List ℕ → ℕ → ℕ → ℕ → ℕ → Call
  -- satellite, kind, COP, length, status, week, time, given data, verdict
  tag_call : ℕ → ℕ → ℕ → ℕ → ℕ → ℕ → ℕ → List ℕ → Bool → Call
  -- satellite, kind, COP, week, time
  candidate_call : ℕ → ℕ → ℕ → ℕ → ℕ → Call
  -- family, satellite
  ask_call : Family → ℕ → Call
  reset_call : Call

-- what a call answers on a room
unfoldable pub answer_to : Call → List ℕ → Answer
answer_to (fresh_call d n rule) room = fresh_answer d n rule room
answer_to (feed_call word sat w t band) room = feed_answer word sat w t band room
answer_to (tag_call sat kind cop l status w t given verdict) room =
    tag_answer sat kind cop l status w t given verdict room
answer_to (candidate_call sat kind cop w t) room = candidate_answer sat kind cop w t room
answer_to (ask_call f sat) room = ask_answer f sat room
answer_to reset_call room = reset_answer room

-- the slice of the room that a call hands out
unfoldable pub part_to : Call → List ℕ → List ℕ
part_to (fresh_call d n rule) room = []
part_to (feed_call word sat w t band) room = []
part_to (tag_call sat kind cop l status w t given verdict) room = []
part_to (candidate_call sat kind cop w t) room = candidate_data sat kind cop w t room
part_to (ask_call f sat) room = ask_data f sat room
part_to reset_call room = []

-- the room after a call
unfoldable pub room_after : Call → List ℕ → List ℕ
room_after (fresh_call d n rule) room = fresh_room d n rule room
room_after (feed_call word sat w t band) room = feed_room word sat w t band room
room_after (tag_call sat kind cop l status w t given verdict) room =
    tag_room sat kind cop l status w t given verdict room
room_after (candidate_call sat kind cop w t) room = room
room_after (ask_call f sat) room = room
room_after reset_call room = reset_room room

-- the room after calls, the latest first
unfoldable pub run : List ℕ → List Call → List ℕ
run room [] = room
run room (c ∷ before) = let r = run room before in room_after c r
