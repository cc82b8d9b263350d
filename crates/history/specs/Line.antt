-- STORE 15: the line of a record followed back in time, its breaks, and the tags that count on it.
use Rattle.std.specs.Prelude.{ℕ, ◌+◌, ◌<◌, Bool, false, cond, not, ◌&&◌, ◌||◌, List, [], ◌∷◌, ◌++◌, eqb}
use Rattle.paper.specs.Number.{number}
use Rattle.paper.specs.Time.{start_of}
use Rattle.paper.specs.Record.{Family, satellite, data_of, same_bits, same_family}
use Rattle.paper.specs.Room.{depth, slots, current, row_of, record_of}
use Rattle.paper.specs.Feed.{next_row, moves}
use Rattle.paper.specs.Tag.{family_of, candidate_record}
use Rattle.paper.specs.Call.{Call, fresh_call, feed_call, tag_call, candidate_call, ask_call, reset_call, answer_to, room_after, run}

-- STORE 15.1: a slot number of a family, in a row
pub record Place : Type 0 where
  pub family : Family
  pub row : ℕ
  pub slot : ℕ

-- inside D and N
pub record Inside (room : List ℕ) (place : Place) : Type 0 where
  pub row : place.row < depth room
  pub slot : place.slot < slots room

-- the record at a place
abbrev pub at : List ℕ → Place → List ℕ
at room place = record_of place.family place.slot (row_of place.row room)

-- answered 0
abbrev pub succeeds : Call → List ℕ → Bool
succeeds call room = eqb (number (answer_to call room)) 0

-- STORE 15.1: this call moved the ring and filled the row by its copy
unfoldable pub fills : Call → List ℕ → ℕ → Bool
fills (fresh_call d n rule) room row = false
fills (feed_call word sat w t band) room row =
    succeeds (feed_call word sat w t band) room
    && moves w (start_of t) room
    && eqb row (next_row (depth room) (current room))
fills (tag_call sat kind cop l status w t given verdict) room row = false
fills (candidate_call sat kind cop w t) room row = false
fills (ask_call f sat) room row = false
fills reset_call room row = false

-- STORE 15.1: where the record stood before the call: in the same row and slot, or in that slot of the row that was copied
abbrev pub past : Call → List ℕ → Place → Place
past call room place =
    record {
      family = place.family;
      row = cond (fills call room place.row) (current room) place.row;
      slot = place.slot;
    }

-- STORE 15.2: a reset that is answered 0
unfoldable pub resets : Call → List ℕ → Bool
resets (fresh_call d n rule) room = false
resets (feed_call word sat w t band) room = false
resets (tag_call sat kind cop l status w t given verdict) room = false
resets (candidate_call sat kind cop w t) room = false
resets (ask_call f sat) room = false
resets reset_call room = succeeds reset_call room

-- two records with the same satellite and the same bits, the 549 or 141
unfoldable pub same : Family → List ℕ → List ℕ → Bool
same f x y = eqb (satellite x) (satellite y) && same_bits f (data_of f x) (data_of f y)

-- STORE 15.2: a break
unfoldable pub broken : Call → List ℕ → Place → Bool
broken call room place =
    resets call room || not (same place.family (at (room_after call room) place) (at room (past call room place)))

-- STORE 15.4: a new history
unfoldable pub begins : Call → List ℕ → Bool
begins (fresh_call d n rule) room = succeeds (fresh_call d n rule) room
begins (feed_call word sat w t band) room = false
begins (tag_call sat kind cop l status w t given verdict) room = false
begins (candidate_call sat kind cop w t) room = false
begins (ask_call f sat) room = false
begins reset_call room = false

-- a tag: its satellite, the data that the verdict was formed over, the verdict, its length
pub record Tag : Type 0 where
  pub satellite : ℕ
  pub given : List ℕ
  pub verdict : Bool
  pub length : ℕ

-- STORE 15.3: a tag counts on a line where it is answered 0 and where the line is of its family and its record has the candidate's
-- satellite and bits
unfoldable pub counted : Call → List ℕ → Place → List Tag
counted (fresh_call d n rule) room place = []
counted (feed_call word sat w t band) room place = []
counted (tag_call sat kind cop l status w t given verdict) room place =
    let candidate = candidate_record (family_of kind) sat w t room in
    cond
    (succeeds (tag_call sat kind cop l status w t given verdict) room
    && same_family (family_of kind) place.family
    && same place.family (at room place) candidate)
    (record { satellite = sat; given = given; verdict = verdict; length = l } ∷ [])
    []
counted (candidate_call sat kind cop w t) room place = []
counted (ask_call f sat) room place = []
counted reset_call room place = []

-- STORE 15.6: the tags that count on the line of a place after some calls, the latest first, since its last break or since a fresh call
-- that began its history; behind them those that counted on each line before the calls
unfoldable pub tags_along : (Place → List Tag) → List ℕ → List Call → Place → List Tag
tags_along sofar room [] place = sofar place
tags_along sofar room (call ∷ before) place =
    let then = run room before in
    let was = past call then place in
    let earlier = counted call then was ++ tags_along sofar room before was in
    cond (begins call then || broken call then place) [] earlier

-- after the calls that follow a fresh one: on a fresh store no tag counts
abbrev pub tags : List ℕ → List Call → Place → List Tag
tags room calls place = tags_along (λ _. []) room calls place

-- the sum of the lengths
unfoldable pub total : List Tag → ℕ
total [] = 0
total (tag ∷ rest) = tag.length + total rest
