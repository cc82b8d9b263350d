-- The step of a history is what the promise of the call's function cites: its answer, its room, and the part that it hands out.
-- Assumes nothing.
use mathlib.Core.Bool.{Bool}
use mathlib.Core.List.{List}
use mathlib.Core.Path.{◌≡◌, refl}
use Prim.Native.Nat.{ℕ}
use Rattle.paper.specs.Record.{Family}
use Rattle.paper.specs.Answer.{fresh_answer, fresh_room, feed_answer, feed_room, tag_answer, tag_room, candidate_answer, candidate_data, ask_answer, ask_data, reset_answer, reset_room}
use Rattle.paper.specs.Call.{fresh_call, feed_call, tag_call, candidate_call, ask_call, reset_call, answer_to, part_to, room_after}

pub fresh_step : (d n rule : ℕ) (room : List ℕ)
    → (answer_to (fresh_call d n rule) room ≡ fresh_answer d n rule room) × (room_after (fresh_call d n rule) room ≡ fresh_room d n rule room)
unfolding answer_to room_after
fresh_step d n rule room = (refl, refl)

pub feed_step : (word : List ℕ) (sat w t band : ℕ) (room : List ℕ)
    → (answer_to (feed_call word sat w t band) room ≡ feed_answer word sat w t band room)
    × (room_after (feed_call word sat w t band) room ≡ feed_room word sat w t band room)
unfolding answer_to room_after
feed_step word sat w t band room = (refl, refl)

pub tag_step : (sat kind cop l status w t : ℕ) (given : List ℕ) (verdict : Bool) (room : List ℕ)
    → (answer_to (tag_call sat kind cop l status w t given verdict) room ≡ tag_answer sat kind cop l status w t given verdict room)
    × (room_after (tag_call sat kind cop l status w t given verdict) room ≡ tag_room sat kind cop l status w t given verdict room)
unfolding answer_to room_after
tag_step sat kind cop l status w t given verdict room = (refl, refl)

-- showing the candidate and asking change no byte
pub candidate_step : (sat kind cop w t : ℕ) (room : List ℕ)
    → (answer_to (candidate_call sat kind cop w t) room ≡ candidate_answer sat kind cop w t room)
    × (part_to (candidate_call sat kind cop w t) room ≡ candidate_data sat kind cop w t room)
    × (room_after (candidate_call sat kind cop w t) room ≡ room)
unfolding answer_to part_to room_after
candidate_step sat kind cop w t room = (refl, refl, refl)

pub ask_step : (f : Family) (sat : ℕ) (room : List ℕ)
    → (answer_to (ask_call f sat) room ≡ ask_answer f sat room)
    × (part_to (ask_call f sat) room ≡ ask_data f sat room)
    × (room_after (ask_call f sat) room ≡ room)
unfolding answer_to part_to room_after
ask_step f sat room = (refl, refl, refl)

pub reset_step : (room : List ℕ) → (answer_to reset_call room ≡ reset_answer room) × (room_after reset_call room ≡ reset_room room)
unfolding answer_to room_after
reset_step room = (refl, refl)
