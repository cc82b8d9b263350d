-- STORE 15.7: the words that a record is made of. For each of its ages the word that came for it, followed along the record's line; and what
-- of these words the record's bits and ages say, a COP, a tag that is answered 0, and the time that asking hands out.
use Rattle.std.specs.Prelude.{ℕ, ◌+◌, ◌*◌, ◌<◌, ◌≤◌, min, Bool, true, false, cond, ◌&&◌, List, [], ◌∷◌, ◌≡◌, get_or, eqb}
use Rattle.paper.specs.Number.{number, values}
use Rattle.paper.specs.Bits.{bit_at}
use Rattle.paper.specs.Time.{subframe_seconds, start_of, seconds_of}
use Rattle.paper.specs.Record.{Family, record_bits, ages, satellite, ages_of, data_of, same_bits, oldest}
use Rattle.paper.specs.Room.{slots, current, by_time, row_of, week, time, marked}
use Rattle.paper.specs.Word.{Owned, nothing, owns, owned, type_of}
use Rattle.paper.specs.Feed.{settled, chosen}
use Rattle.paper.specs.Tag.{family_of, cop_allowed, thirty_before, candidate_row, candidate_slot, has_candidate}
use Rattle.paper.specs.Call.{Call, fresh_call, feed_call, tag_call, candidate_call, ask_call, reset_call, answer_to, room_after, run}
use Rattle.history.specs.Line.{Place, Inside, at, succeeds, past, begins}
use Rattle.history.specs.Demand.{answering_place}

-- ---- which word came
-- a word as it was fed
pub record Fed : Type 0 where
  pub bytes : List ℕ
  pub satellite : ℕ
  pub week : ℕ
  pub time : ℕ
  pub band : ℕ

-- the word that came for an age of a record; or that none came
pub data Origin : Type 0 where
  no_word : Origin
  fed_as : Fed → Origin

-- what a word owns of a record
abbrev pub owned_by : Family → Fed → Owned
owned_by f w = owned f (type_of w.bytes) w.band

-- what is owned goes by this age
abbrev pub owns_age : ℕ → Owned → Bool
owns_age k nothing = false
owns_age k (owns to from n age) = eqb age k

-- STORE 15.7: this call brought the word of age k to the place: it was answered 0, the place is the one chosen in the row that is then
-- current, and the word owns that age
unfoldable pub brings : ℕ → Call → List ℕ → Place → Bool
brings k (fresh_call d n rule) room place = false
brings k (feed_call word sat w t band) room place =
    let s = settled w (start_of t) room in
    succeeds (feed_call word sat w t band) room
    && eqb place.row (current s)
    && eqb place.slot (chosen place.family sat (slots s) (row_of (current s) s))
    && owns_age k (owned place.family (type_of word) band)
brings k (tag_call sat kind cop l status w t given verdict) room place = false
brings k (candidate_call sat kind cop w t) room place = false
brings k (ask_call f sat) room place = false
brings k reset_call room place = false

-- the word of a call
abbrev pub word_of : Call → Origin
word_of (fresh_call d n rule) = no_word
word_of (feed_call word sat w t band) = fed_as (record { bytes = word; satellite = sat; week = w; time = t; band = band })
word_of (tag_call sat kind cop l status w t given verdict) = no_word
word_of (candidate_call sat kind cop w t) = no_word
word_of (ask_call f sat) = no_word
word_of reset_call = no_word

-- a satellite that took the record of another finds no word of its own there
abbrev pub held_by : ℕ → ℕ → Origin → Origin
held_by now was x = cond (eqb now was) x no_word

-- STORE 15.7: the word that the record at a place has for its age k after some calls, the latest first: the last that was brought along its
-- line since its satellite took it, and since a fresh call that began its history; before the calls each record had these
unfoldable pub brought_along : (Place → Origin) → ℕ → List ℕ → List Call → Place → Origin
brought_along sofar k room [] place = sofar place
brought_along sofar k room (call ∷ before) place =
    let then = run room before in
    let was = past call then place in
    let held = held_by (satellite (at (room_after call then) place)) (satellite (at then was)) (brought_along sofar k room before was) in
    let came = cond (brings k call then place) (word_of call) held in
    cond (begins call then) no_word came

-- after the calls that follow a fresh one: a fresh store has no words
abbrev pub brought : ℕ → List ℕ → List Call → Place → Origin
brought k room calls place = brought_along (λ _. no_word) k room calls place

-- ---- under either rule: whose the bits are
-- the bits of w that are owned stand in the data
abbrev pub StandIn : List ℕ → Owned → List ℕ → Type 0
StandIn bytes nothing w = ⊥
StandIn bytes (owns to from n age) w = (i : ℕ) → i < n → bit_at bytes (to + i) ≡ bit_at w (from + i)

-- the record is of the word's satellite, the word is that of age k, and each bit that it owns is the word's bit
pub record Holds (k : ℕ) (f : Family) (rec : List ℕ) (w : Fed) : Type 0 where
  pub same : satellite rec ≡ w.satellite
  pub owner : owns_age k (owned_by f w) ≡ true
  pub bits : StandIn (data_of f rec) (owned_by f w) w.bytes

-- age k of a record
abbrev pub age_of : ℕ → Family → List ℕ → ℕ
age_of k f rec = get_or (ages_of f rec) k 0

-- where no word came the age is 255, so that an age below it has a word
abbrev pub MadeOf : ℕ → Family → List ℕ → Origin → Type 0
MadeOf k f rec no_word = age_of k f rec ≡ oldest
MadeOf k f rec (fed_as w) = Holds k f rec w

-- of a room, where these words came for the ages of each place
abbrev pub BitsHold : List ℕ → (ℕ → Place → Origin) → Type 0
BitsHold now words =
    (place : Place) → Inside now place
    → (k : ℕ) → k < ages place.family
    → MadeOf k place.family (at now place) (words k place)

-- ---- under rule 1: how old they are
-- STORE 15.7: so many subframes lie between the word's and the row's own, by addition, and the age says so, held at 255
pub record Dated (age : ℕ) (row : List ℕ) (w : Fed) : Type 0 where
  pub marks : marked row ≡ true
  pub subframes : ℕ
  pub apart : seconds_of (week row) (time row) ≡ seconds_of w.week (start_of w.time) + subframes * subframe_seconds
  pub says : age ≡ min oldest subframes

abbrev pub AgeSays : ℕ → List ℕ → Origin → Type 0
AgeSays age row no_word = age ≡ oldest
AgeSays age row (fed_as w) = Dated age row w

abbrev pub AgesHold : List ℕ → (ℕ → Place → Origin) → Type 0
AgesHold now words =
    by_time now ≡ true
    → (place : Place) → Inside now place
    → (k : ℕ) → k < ages place.family
    → AgeSays (age_of k place.family (at now place)) (row_of place.row now) (words k place)

-- ---- under rule 1: what a COP promises
-- the subframe of a word lies behind the 30 × COP seconds before a MACK, and before the MACK's own
pub record InTime (cop mack : ℕ) (w : Fed) : Type 0 where
  pub not_before : mack ≤ seconds_of w.week (start_of w.time) + cop * subframe_seconds
  pub before : seconds_of w.week (start_of w.time) + subframe_seconds ≤ mack

-- a word came, which the record has, of the satellite, within the COP
pub record FedWithin (k : ℕ) (f : Family) (rec : List ℕ) (sat cop mack : ℕ) (x : Origin) : Type 0 where
  pub word : Fed
  pub came : x ≡ fed_as word
  pub holds : Holds k f rec word
  pub its : word.satellite ≡ sat
  pub within : InTime cop mack word

-- the place of the candidate for the MACK time w, t
abbrev pub candidate_place : Family → ℕ → ℕ → ℕ → List ℕ → Place
candidate_place f sat w t room = record { family = f; row = candidate_row w t room; slot = candidate_slot f sat w t room }

abbrev pub CopHolds : List ℕ → (ℕ → Place → Origin) → Type 0
CopHolds now words =
    by_time now ≡ true
    -- where there is a candidate for a COP and for the MACK time w, t
    → (f : Family) (sat cop w t : ℕ)
    → cop_allowed cop ≡ true
    → number (thirty_before w t) ≡ 0
    → has_candidate f sat cop w t now ≡ true
    -- each of its words was fed as the satellite's, in a subframe that starts at most 30 × COP seconds before
    → (k : ℕ) → k < ages f
    → let place = candidate_place f sat w t now in
    FedWithin k f (at now place) sat cop (seconds_of w t) (words k place)

-- ---- under rule 1: what a tag authenticates
-- a bit was fed as the satellite's: it is one of a word that came for an age of the record, within the COP
pub record BitFed (words : ℕ → Origin) (sat cop mack bit : ℕ) : Type 0 where
  pub k : ℕ
  pub word : Fed
  pub came : words k ≡ fed_as word
  pub its : word.satellite ≡ sat
  pub within : InTime cop mack word
  pub place : ℕ
  pub is : bit ≡ bit_at word.bytes place

-- STORE 15.7: the sentence of it all. For every tag that is answered 0 the given data has the candidate's bits, and all of them were fed as
-- this satellite's words in subframes that start at most 30 × COP seconds before the MACK
pub record Authentic (now : List ℕ) (words : ℕ → Place → Origin) (f : Family) (sat cop w t : ℕ) (given : List ℕ) : Type 0 where
  pub agrees : same_bits f given (data_of f (at now (candidate_place f sat w t now))) ≡ true
  pub fed : (i : ℕ) → i < record_bits f → BitFed (λ k. words k (candidate_place f sat w t now)) sat cop (seconds_of w t) (bit_at given i)

abbrev pub TagHolds : List ℕ → (ℕ → Place → Origin) → Type 0
TagHolds now words =
    by_time now ≡ true
    → (sat kind cop l status w t : ℕ) (given : List ℕ) (verdict : Bool)
    → number (answer_to (tag_call sat kind cop l status w t given verdict) now) ≡ 0
    → Authentic now words (family_of kind) sat cop w t given

-- ---- under rule 1: the time that asking hands out
-- the word's subframe starts so many seconds behind week 0; or not later, where one came
abbrev pub StartsAt : ℕ → Origin → Type 0
StartsAt seconds no_word = ⊥
StartsAt seconds (fed_as w) = seconds_of w.week (start_of w.time) ≡ seconds

abbrev pub NotLater : ℕ → Origin → Type 0
NotLater seconds no_word = Unit {0}
NotLater seconds (fed_as w) = seconds_of w.week (start_of w.time) ≤ seconds

-- the newest of a record's words came in the subframe that starts then
pub record Newest (f : Family) (seconds : ℕ) (words : ℕ → Origin) : Type 0 where
  pub k : ℕ
  pub one : k < ages f
  pub came : StartsAt seconds (words k)
  pub others : (j : ℕ) → j < ages f → NotLater seconds (words j)

abbrev pub TimeHolds : List ℕ → (ℕ → Place → Origin) → Type 0
TimeHolds now words =
    by_time now ≡ true
    → (f : Family) (sat : ℕ)
    → number (answer_to (ask_call f sat) now) ≡ 0
    → let told = values (answer_to (ask_call f sat) now) in
    Newest f (seconds_of (get_or told 1 0) (get_or told 2 0)) (λ k. words k (answering_place f sat now))

-- ---- after a fresh call
-- of the room and the words after a fresh call that was answered 0 and any calls behind it, refused ones and further fresh ones among them
abbrev pub AfterFresh : (List ℕ → (ℕ → Place → Origin) → Type 0) → Type 0
AfterFresh Statement =
    (room : List ℕ) (d n rule : ℕ)
    → number (answer_to (fresh_call d n rule) room) ≡ 0
    → (calls : List Call)
    → let start = room_after (fresh_call d n rule) room in
    Statement (run start calls) (λ k. brought k start calls)
