-- What the statements of the code cover: whatever ran on a room, one after the other and in any mixture, in Rattle or for C, calls and parts of
-- an input, each lent the room from its first byte as far as its caller liked, with a fresh call among it that was answered 0.
use Rattle.std.specs.Prelude.{Bool, List, [], ◌∷◌, ◌++◌, ◌≡◌, ℕ, ◌≤◌, length, take, drop}
use Rattle.paper.specs.Number.{number}
use Rattle.paper.specs.Call.{Call, fresh_call, answer_to, room_after, run}
use Rattle.stays.specs.Lent.{on_whole}
use Rattle.history.specs.Line.{Place, Tag, tags}
use Rattle.since.specs.Brought.{Origin, brought}
use Rattle.intake.specs.Input.{at_start, input_items, calls_from}
use Rattle.intake.specs.Reader.{reader_of}
use Rattle.promises.specs.Outcomes.{Did, Deeds, deeds_of}
use Rattle.promises.specs.Inputs.{Read}

-- ---- one after the other
-- what ran, and how many bytes of the room it was lent
pub record Made : Type 0 where
  pub did : Did
  pub bytes : ℕ

-- lent the first k bytes of the room it left these; those behind them are as they were
pub record Lent (k : ℕ) (before after : List ℕ) (deeds : Deeds) : Type 0 where
  pub inside : k ≤ length before
  pub first : deeds.lent ≡ take k before
  pub whole : after ≡ deeds.left ++ drop k before

pub record Then (Earlier : List ℕ → Type 0) (made : Made) (now : List ℕ) : Type 0 where
  pub room : List ℕ
  pub ran : Earlier room
  pub lent : Lent made.bytes room now (deeds_of made.did)

-- the latest first
abbrev pub Ran : List ℕ → List Made → List ℕ → Type 0
Ran start [] now = now ≡ start
Ran start (made ∷ before) now = Then (Ran start before) made now

-- ---- the history: the calls of what ran, as the whole room sees them, the latest first
abbrev pub wholes : ℕ → List ℕ → List Call → List Call
wholes k room [] = []
wholes k room (call ∷ before) = on_whole k call (run room (wholes k room before)) ∷ wholes k room before

abbrev pub history : List ℕ → List Made → List Call
history start [] = []
history start (made ∷ before) = wholes made.bytes (run start (history start before)) (deeds_of made.did).calls ++ history start before

-- the calls of a whole input
abbrev pub calls_of_input : List ℕ → List ℕ → List Call
calls_of_input room input = calls_from room [] (input_items input)

-- these calls left the room: whatever ran, or a whole input that was read in parts
pub data Left : List ℕ → List Call → List ℕ → Type 1 where
  by_runs : {start now : List ℕ} (made : List Made) → Ran start made now → Left start (history start made) now
  by_input : {start now : List ℕ} (traced : Bool) (parts : List (List ℕ)) (input text : List ℕ)
      → Read traced parts input (reader_of at_start) start text now
      → Left start (calls_of_input start input) now

-- ---- covered
pub data Covered : List ℕ → Type 1 where
  -- on any room, of any length: among the calls that left it one made a fresh store and was answered 0
  since_fresh : {now : List ℕ} (start : List ℕ) (before : List Call) (d n rule : ℕ) (later : List Call)
      → Left start (later ++ (fresh_call d n rule ∷ before)) now
      → number (answer_to (fresh_call d n rule) (run start before)) ≡ 0
      → Covered now

-- the tags that count on the line of a place
abbrev pub tags_of : {now : List ℕ} → Covered now → Place → List Tag
tags_of (since_fresh start before d n rule later left made) place = tags (room_after (fresh_call d n rule) (run start before)) later place

-- the word that the record at a place has for its age k
abbrev pub words_of : {now : List ℕ} → Covered now → ℕ → Place → Origin
words_of (since_fresh start before d n rule later left made) k place = brought k (room_after (fresh_call d n rule) (run start before)) later place
