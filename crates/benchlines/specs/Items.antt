-- STORE 17.2, 17.3: the call that an item of the bench makes, its answer, the room after it and its line.
use Rattle.std.specs.Prelude.{ℕ, not, List, [], ◌∷◌, get_or, eqb}
use Rattle.paper.specs.Number.{Answer, refused}
use Rattle.paper.specs.Parts.{part}
use Rattle.paper.specs.Big.{be16, be32}
use Rattle.paper.specs.Word.{word_bytes}
use Rattle.paper.specs.Record.{CED, Timing as TIMING}
use Rattle.paper.specs.Answer.{candidate_data}
use Rattle.paper.specs.Call.{Call, fresh_call, feed_call, tag_call, ask_call, reset_call, answer_to, part_to, run}
use Rattle.lines.specs.declared.Kind.{Kind}
use Rattle.lines.specs.declared.Kind.TheVariants.{Word, Tag, Reset, Ced, Timing, Fresh, FreshRuled, Unknown}
use Rattle.lines.specs.Lines.{line_of}

-- STORE 17.2, kind byte 1: satellite, band, week (2), time (4), the word
unfoldable pub word_call : List ℕ → Call
word_call body = feed_call (part 8 word_bytes body) (get_or body 0 0) (be16 body 2) (be32 body 4) (get_or body 1 0)

-- the data of the candidate, of a tag's satellite, kind, COP, week and time
unfoldable pub candidate_on : List ℕ → List ℕ → List ℕ
candidate_on body room = candidate_data (get_or body 0 0) (get_or body 1 0) (get_or body 2 0) (be16 body 6) (be32 body 8) room

-- STORE 17.2, kind byte 2: satellite, kind, COP, length, status, verdict, week (2), time (4); the data given is the candidate's own
unfoldable pub tag_call_on : List ℕ → List ℕ → Call
tag_call_on body room =
    tag_call (get_or body 0 0) (get_or body 1 0) (get_or body 2 0) (get_or body 3 0) (get_or body 4 0) (be16 body 6) (be32 body 8)
    (candidate_on body room)
    (not (eqb (get_or body 5 0) 0))

-- STORE 17.2, kind byte 9: D, N, rule
abbrev pub ruled_call : List ℕ → Call
ruled_call body = fresh_call (get_or body 0 0) (get_or body 1 0) (get_or body 2 0)

-- what an item is on a room: a call, or a number without a call
pub data Deed : Type 0 where
  calls : Call → Deed
  says : ℕ → Deed

-- STORE 17.4: a kind byte that is unknown is 13
abbrev pub unknown_kind : ℕ
unknown_kind = 13

-- STORE 17.2: an item by its kind byte; one that makes a fresh store and names no rule has rule 0
abbrev pub deed_of : Kind → List ℕ → List ℕ → Deed
deed_of Word body room = calls (word_call body)
deed_of Tag body room = calls (tag_call_on body room)
deed_of Reset body room = calls reset_call
deed_of Ced body room = calls (ask_call CED (get_or body 0 0))
deed_of Timing body room = calls (ask_call TIMING (get_or body 0 0))
deed_of Fresh body room = calls (fresh_call (get_or body 0 0) (get_or body 1 0) 0)
deed_of FreshRuled body room = calls (ruled_call body)
deed_of Unknown body room = says unknown_kind

abbrev pub calls_in : Deed → List Call
calls_in (calls c) = c ∷ []
calls_in (says k) = []

abbrev pub answer_on : Deed → List ℕ → Answer
answer_on (calls c) room = answer_to c room
answer_on (says k) room = refused k

abbrev pub part_on : Deed → List ℕ → List ℕ
part_on (calls c) room = part_to c room
part_on (says k) room = []

abbrev pub calls_of : Kind → List ℕ → List ℕ → List Call
calls_of kind body room = calls_in (deed_of kind body room)

abbrev pub whole_answer : Kind → List ℕ → List ℕ → Answer
whole_answer kind body room = answer_on (deed_of kind body room) room

abbrev pub whole_data : Kind → List ℕ → List ℕ → List ℕ
whole_data kind body room = part_on (deed_of kind body room) room

abbrev pub whole_room : Kind → List ℕ → List ℕ → List ℕ
whole_room kind body room = run room (calls_of kind body room)

-- the satellite is the first byte of a body that has one
unfoldable pub whole_line : Kind → List ℕ → List ℕ → List ℕ
whole_line kind body room = line_of kind (get_or body 0 0) (whole_answer kind body room) (whole_data kind body room)
