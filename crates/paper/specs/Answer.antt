-- STORE 14, call by call: the number in its order, the answer, the slice of the room, and the room afterwards.
use Rattle.std.specs.Prelude.{ℕ, Bool, cond, not, ◌&&◌, List, [], ◌∷◌, length, leb, eqb}
use Rattle.paper.specs.Number.{Answer, number, values, answer, unless}
use Rattle.paper.specs.Time.{is_time, is_start, start_of}
use Rattle.paper.specs.Satellite.{is_satellite}
use Rattle.paper.specs.Word.{word_bytes}
use Rattle.paper.specs.Record.{Family, count, data_of}
use Rattle.paper.specs.Room.{room_size}
use Rattle.paper.specs.Store.{sizes_allowed, rule_known, is_store}
use Rattle.paper.specs.Fresh.{fresh}
use Rattle.paper.specs.Feed.{comes_earlier, fed}
use Rattle.paper.specs.Tag.{kind_known, family_of, cop_allowed, length_allowed, status_known, status_adds, thirty_before, candidate_record, has_candidate, given_agrees, tagged, taken_by}
use Rattle.paper.specs.Ask.{answering_row, answering_record, some_enough, age_unknown, time_before}
use Rattle.paper.specs.Reset.{reset}

-- STORE 14.3: the room where the number is not 0
abbrev pub room_for : ℕ → List ℕ → List ℕ → List ℕ
room_for k after room = cond (eqb k 0) after room

-- STORE 14.4: the slice where the number is not 0
abbrev pub part_for : ℕ → List ℕ → List ℕ
part_for k part = cond (eqb k 0) part []

-- STORE 14.2, fresh: 1, 2
unfoldable pub fresh_number : ℕ → ℕ → ℕ → List ℕ → ℕ
fresh_number d n rule room = unless (sizes_allowed d n && rule_known rule) 1 (unless (leb (room_size d n) (length room)) 2 0)

abbrev pub fresh_answer : ℕ → ℕ → ℕ → List ℕ → Answer
fresh_answer d n rule room = answer (fresh_number d n rule room) []

unfoldable pub fresh_room : ℕ → ℕ → ℕ → List ℕ → List ℕ
fresh_room d n rule room = room_for (fresh_number d n rule room) (fresh d n rule room) room

-- STORE 14.2, word: 3, 4, 5, 8, 9, 15
unfoldable pub feed_number : List ℕ → ℕ → ℕ → ℕ → ℕ → List ℕ → ℕ
feed_number word sat w t band room =
    unless (is_store room) 3
    (unless (is_satellite sat) 4
    (unless (is_time t) 5
    (unless (eqb (length word) word_bytes) 8 (unless (leb band 1) 9 (unless (not (comes_earlier w (start_of t) room)) 15 0)))))

abbrev pub feed_answer : List ℕ → ℕ → ℕ → ℕ → ℕ → List ℕ → Answer
feed_answer word sat w t band room = answer (feed_number word sat w t band room) []

-- STORE 10.1: of the word's time its subframe T is used
unfoldable pub feed_room : List ℕ → ℕ → ℕ → ℕ → ℕ → List ℕ → List ℕ
feed_room word sat w t band room =
    room_for (feed_number word sat w t band room) (fed w (start_of t) sat band word room) room

-- STORE 14.2, tag: 3, 4, 5, 6, and what comes later
abbrev pub until_start : ℕ → ℕ → List ℕ → ℕ → ℕ
until_start sat t room later =
    unless (is_store room) 3 (unless (is_satellite sat) 4 (unless (is_time t) 5 (unless (is_start t) 6 later)))

-- STORE 14.2, tag: 8, 9, 7, 16, 10, and what comes later
unfoldable pub until_candidate : Bool → Bool → ℕ → ℕ → ℕ → ℕ → ℕ → List ℕ → ℕ → ℕ
until_candidate allowed known sat kind cop w t room later =
    until_start sat t room
    (unless allowed 8
    (unless known 9
    (unless (eqb (number (thirty_before w t)) 0) 7
    (unless (not (eqb cop 0)) 16 (unless (has_candidate (family_of kind) sat cop w t room) 10 later)))))

-- STORE 14.2, tag: 11, 17, 18, 0, of the candidate's record
abbrev pub from_candidate : Family → List ℕ → List ℕ → Bool → ℕ → ℕ
from_candidate f given rec verdict status =
    unless (given_agrees f given rec) 11 (unless verdict 17 (unless (status_adds status) 18 0))

unfoldable pub tag_number : ℕ → ℕ → ℕ → ℕ → ℕ → ℕ → ℕ → List ℕ → Bool → List ℕ → ℕ
tag_number sat kind cop l status w t given verdict room =
    until_candidate (cop_allowed cop && length_allowed l) (kind_known kind && status_known status) sat kind cop w t room
    (from_candidate (family_of kind) given (candidate_record (family_of kind) sat w t room) verdict status)

-- STORE 11.8: beside 0 the total
unfoldable pub tag_answer : ℕ → ℕ → ℕ → ℕ → ℕ → ℕ → ℕ → List ℕ → Bool → List ℕ → Answer
tag_answer sat kind cop l status w t given verdict room =
    answer (tag_number sat kind cop l status w t given verdict room)
    (taken_by (family_of kind) (candidate_record (family_of kind) sat w t room) room ∷ [])

unfoldable pub tag_room : ℕ → ℕ → ℕ → ℕ → ℕ → ℕ → ℕ → List ℕ → Bool → List ℕ → List ℕ
tag_room sat kind cop l status w t given verdict room =
    room_for (tag_number sat kind cop l status w t given verdict room)
    (tagged (family_of kind) (candidate_record (family_of kind) sat w t room) l room)
    room

-- STORE 11.9: a tag's tests up to 10, of COP and kind alone
unfoldable pub candidate_number : ℕ → ℕ → ℕ → ℕ → ℕ → List ℕ → ℕ
candidate_number sat kind cop w t room = until_candidate (cop_allowed cop) (kind_known kind) sat kind cop w t room 0

abbrev pub candidate_answer : ℕ → ℕ → ℕ → ℕ → ℕ → List ℕ → Answer
candidate_answer sat kind cop w t room = answer (candidate_number sat kind cop w t room) []

-- STORE 11.9: the candidate's data, a slice of the room
unfoldable pub candidate_data : ℕ → ℕ → ℕ → ℕ → ℕ → List ℕ → List ℕ
candidate_data sat kind cop w t room =
    part_for (candidate_number sat kind cop w t room)
    (data_of (family_of kind) (candidate_record (family_of kind) sat w t room))

-- STORE 14.2, asking: 3, 4, 12, 24, 7
unfoldable pub ask_number : Family → ℕ → List ℕ → ℕ
ask_number f sat room =
    unless (is_store room) 3
    (unless (is_satellite sat) 4
    (unless (some_enough f sat room) 12
    (unless (not (age_unknown f sat room)) 24
    (unless (eqb (number (time_before f (answering_row f sat room) (answering_record f sat room))) 0) 7 0))))

-- STORE 12.3: beside 0 the count and the time
unfoldable pub ask_answer : Family → ℕ → List ℕ → Answer
ask_answer f sat room =
    let rec = answering_record f sat room in
    answer (ask_number f sat room) (count rec ∷ values (time_before f (answering_row f sat room) rec))

unfoldable pub ask_data : Family → ℕ → List ℕ → List ℕ
ask_data f sat room = part_for (ask_number f sat room) (data_of f (answering_record f sat room))

-- STORE 14.2, reset: 3
unfoldable pub reset_number : List ℕ → ℕ
reset_number room = unless (is_store room) 3 0

abbrev pub reset_answer : List ℕ → Answer
reset_answer room = answer (reset_number room) []

unfoldable pub reset_room : List ℕ → List ℕ
reset_room room = room_for (reset_number room) (reset room) room
