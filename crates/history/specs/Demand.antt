-- Demand 3, STORE 15.6, as one statement, over the definitions that the promises of the calls cite.
use Rattle.std.specs.Prelude.{ℕ, ◌≤◌, min, true, List, [], ◌∷◌, ◌≢◌, ◌≡◌, length, get_or}
use Rattle.paper.specs.Number.{number, values}
use Rattle.paper.specs.Record.{Family, data_bytes, satellite, count, data_of, same_bits, most_count}
use Rattle.paper.specs.Ask.{least_count, row_answering, slot_answering}
use Rattle.paper.specs.Call.{Call, fresh_call, ask_call, answer_to, part_to, room_after, run}
use Rattle.history.specs.Line.{Place, Inside, at, Tag, tags, total}

pub record AcceptedFor (f : Family) (sat : ℕ) (bytes : List ℕ) (tag : Tag) : Type 0 where
  -- the tag was accepted: the verdict on the data given with it was yes
  pub accepted : tag.verdict ≡ true
  -- for exactly the satellite
  pub satellite : tag.satellite ≡ sat
  -- and exactly the bits, 549 or 141: given with it were 69 or 18 bytes, with those bits
  pub bits : same_bits f tag.given bytes ≡ true
  pub whole : length tag.given ≡ data_bytes f

-- each of those tags
abbrev pub EachFor : Family → ℕ → List ℕ → List Tag → Type 0
EachFor f sat bytes [] = Unit {0}
EachFor f sat bytes (tag ∷ rest) = AcceptedFor f sat bytes tag × EachFor f sat bytes rest

pub record Earned (f : Family) (rec : List ℕ) (tags : List Tag) : Type 0 where
  -- the count is the sum of the lengths of the tags, held at 65,535
  pub counts : count rec ≡ min most_count (total tags)
  -- each of those tags was accepted for exactly the satellite and exactly the bits that the record has now
  pub each : EachFor f (satellite rec) (data_of f rec) tags

abbrev pub Demand3 : Type 0
Demand3 =
    -- from any room, of any length, on which a fresh call was answered 0
    (room : List ℕ) (d n rule : ℕ)
    → number (answer_to (fresh_call d n rule) room) ≡ 0
    -- after any calls, refused ones and further fresh ones among them: the latest first, with any arguments
    → (calls : List Call)
    -- at every place inside D and N of the room as it is then
    → (place : Place)
    → let start = room_after (fresh_call d n rule) room in
    let now = run start calls in
    Inside now place
    -- the record there has the count that the tags on its line since the last break earned, for what it holds now
    → Earned place.family (at now place) (tags start calls place)

abbrev pub Never3 : Type 0
Never3 =
    -- after a successful fresh
    (room : List ℕ) (d n rule : ℕ)
    → number (answer_to (fresh_call d n rule) room) ≡ 0
    -- no call of the sequence is answered 3
    → (calls : List Call) (call : Call)
    → number (answer_to call (run (room_after (fresh_call d n rule) room) calls)) ≢ 3

-- STORE 12.1: the place of the record that answers
abbrev pub answering_place : Family → ℕ → List ℕ → Place
answering_place f sat room = record { family = f; row = row_answering f sat room; slot = slot_answering f sat room }

-- what stands behind a count and data that were handed out for a satellite: the record at a place, and the tags on its line
pub record Behind (now : List ℕ) (place : Place) (tags : List Tag) (sat counted : ℕ) (bytes : List ℕ) : Type 0 where
  -- the place is inside D and N, and its record is the satellite's
  pub inside : Inside now place
  pub asked : satellite (at now place) ≡ sat
  -- count and data are that record's
  pub counts : counted ≡ count (at now place)
  pub holds : bytes ≡ data_of place.family (at now place)
  -- and those tags earned them, with at least 40 bits
  pub enough : least_count ≤ total tags
  pub earned : Earned place.family (at now place) tags

abbrev pub AskEarned : Type 0
AskEarned =
    -- after a successful fresh, and after any calls
    (room : List ℕ) (d n rule : ℕ)
    → number (answer_to (fresh_call d n rule) room) ≡ 0
    → (calls : List Call) (f : Family) (sat : ℕ)
    → let start = room_after (fresh_call d n rule) room in
    let now = run start calls in
    -- where asking for a satellite is answered 0
    number (answer_to (ask_call f sat) now) ≡ 0
    -- the count and the data handed out are those of the record that answers, and were earned
    → let place = answering_place f sat now in
    Behind now place (tags start calls place) sat (get_or (values (answer_to (ask_call f sat) now)) 0 0) (part_to (ask_call f sat) now)
