-- What is proved of the code that runs, on one page: each statement is of any room that is covered (Covered), and is proved in proofs/ under
-- the name beside it.
use Rattle.std.specs.Prelude.{Bool, true, List, [], ◌∷◌, ◌≢◌, ◌≡◌, ℕ, ◌≤◌, length, take, replicate}
use Rattle.paper.specs.Number.{number}
use Rattle.paper.specs.Record.{data_of}
use Rattle.paper.specs.Message.{Head, form_family, message}
use Rattle.paper.specs.Call.{Call, answer_to}
use Rattle.history.specs.Line.{Place, Inside, at, Tag}
use Rattle.history.specs.Demand.{Earned, answering_place, Behind}
use Rattle.since.specs.Brought.{BitsHold, AgesHold, CopHolds, TagHolds, TimeHolds}
use Rattle.intake.specs.Input.{at_start, input_items, room_of, lines_of, bench_room, output}
use Rattle.intake.specs.Reader.{reader_of, reader_bytes}
use Rattle.orbit.specs.Numbers.{orbit_from, timing_from}
use Rattle.promises.specs.Outcomes.{Asking, HandedOut, asked_by, OrbitAsking, orbit_by, NumbersAsking, numbers_by}
use Rattle.promises.specs.Inputs.{Read}
use Rattle.promises.specs.Covered.{Covered, tags_of, words_of}

-- ---- counts
-- demand 3: `demand_3_of_the_code`
abbrev pub Demand3OfTheCode : Type 1
Demand3OfTheCode =
    (now : List ℕ) (covered : Covered now) (place : Place) → Inside now place
    → Earned place.family (at now place) (tags_of covered place)

-- no call on the room is answered 3: `never_3_of_the_code`
abbrev pub Never3OfTheCode : Type 1
Never3OfTheCode = (now : List ℕ) → Covered now → (call : Call) → number (answer_to call now) ≢ 3

-- ---- words
-- each bit that a word owns is that of the word which came for it, of the record's satellite, and an age below 255 has a word: `bits_of_the_code`
abbrev pub BitsOfTheCode : Type 1
BitsOfTheCode = (now : List ℕ) (covered : Covered now) → BitsHold now (words_of covered)

-- under rule 1 each age is the time from its word to its row: `ages_of_the_code`
abbrev pub AgesOfTheCode : Type 1
AgesOfTheCode = (now : List ℕ) (covered : Covered now) → AgesHold now (words_of covered)

-- under rule 1 a candidate's words came within its COP: `cop_of_the_code`
abbrev pub CopOfTheCode : Type 1
CopOfTheCode = (now : List ℕ) (covered : Covered now) → CopHolds now (words_of covered)

-- under rule 1, for every tag that is answered 0, all bits of the given data were fed as the satellite's within its COP: `tag_of_the_code`
abbrev pub TagOfTheCode : Type 1
TagOfTheCode = (now : List ℕ) (covered : Covered now) → TagHolds now (words_of covered)

-- under rule 1 the time that asking hands out is that of the newest word: `time_of_the_code`
abbrev pub TimeOfTheCode : Type 1
TimeOfTheCode = (now : List ℕ) (covered : Covered now) → TimeHolds now (words_of covered)

-- ---- what is handed out
-- it was asked on the first bytes of the room, and answered 0
pub record AskedOn {A : Type 0} (now : List ℕ) (out : HandedOut A) : Type 0 where
  pub bytes : ℕ
  pub inside : bytes ≤ length now
  pub lent : out.lent ≡ take bytes now
  pub done : out.number ≡ 0

-- the count and these bytes are those of the record that answers, and were earned
abbrev pub EarnedBy : {A : Type 0} {now : List ℕ} → Covered now → HandedOut A → List ℕ → Type 0
EarnedBy {now = now} covered out bytes =
    let place = answering_place out.family out.sat now in
    Behind now place (tags_of covered place) out.sat out.counted bytes

-- asking: `asked_of_the_code`
abbrev pub AskedOfTheCode : Type 1
AskedOfTheCode =
    (now : List ℕ) (covered : Covered now) (asking : Asking) → AskedOn now (asked_by asking)
    → EarnedBy covered (asked_by asking) (asked_by asking).given

-- numbers that were handed out are those of some bytes, and the count was earned for exactly these
pub record NumbersEarned {A : Type 0} (From : List ℕ → A) {now : List ℕ} (covered : Covered now) (out : HandedOut A) : Type 0 where
  pub bytes : List ℕ
  pub read : out.given ≡ From bytes
  pub earned : EarnedBy covered out bytes

-- an orbit as numbers: `orbit_of_the_code`
abbrev pub OrbitOfTheCode : Type 1
OrbitOfTheCode =
    (now : List ℕ) (covered : Covered now) (asking : OrbitAsking) → AskedOn now (orbit_by asking)
    → NumbersEarned orbit_from covered (orbit_by asking)

-- timing parameters as numbers: `timing_of_the_code`
abbrev pub TimingOfTheCode : Type 1
TimingOfTheCode =
    (now : List ℕ) (covered : Covered now) (asking : NumbersAsking) → AskedOn now (numbers_by asking)
    → NumbersEarned timing_from covered (numbers_by asking)

-- ---- messages
-- each of some tags
abbrev pub EachTag : (Tag → Type 0) → List Tag → Type 0
EachTag Holds [] = Unit {0}
EachTag Holds (tag ∷ rest) = Holds tag × EachTag Holds rest

-- for every tag that counts on a record, the message of the data given with it, in a form of the record's family and with any fields in front, is
-- the message of the bits that the record holds now: `messages_of_the_code`
abbrev pub MessagesOfTheCode : Type 1
MessagesOfTheCode =
    (now : List ℕ) (covered : Covered now) (place : Place) → Inside now place
    → (form : ℕ) → form_family form ≡ place.family → (head : Head)
    → let held = data_of place.family (at now place) in
    EachTag (λ (tag : Tag). message form head tag.given ≡ message form head held) (tags_of covered place)

-- ---- an input in parts
-- whatever the cutting, parts of no bytes among it, and whatever the lengths of the outputs, lines and room are those of one piece:
-- `read_in_parts`
abbrev pub ReadInParts : Type 0
ReadInParts =
    (traced : Bool) (parts : List (List ℕ)) (input room text now : List ℕ)
    → Read traced parts input (reader_of at_start) room text now
    → (text ≡ lines_of traced room (input_items input)) × (now ≡ room_of room (input_items input))

-- so from a reader and a room of zeros the lines are those of the program: `printed_is_output`
abbrev pub PrintedIsOutput : Type 0
PrintedIsOutput =
    (traced : Bool) (parts : List (List ℕ)) (input text now : List ℕ)
    → Read traced parts input (replicate reader_bytes 0) (replicate bench_room 0) text now
    → text ≡ output traced input
