-- STORE 17.4, 17.8: what the program has come to where it goes on or stops. What was read no contract can say: it is said for some bytes.
-- That a read or a write failed no contract can say either.
use Rattle.std.specs.Prelude.{ℕ, ◌^◌, ◌-◌, ◌≤◌, ◌≡◌, List, [], length, take, Option, Some, None}
use Rattle.intake.specs.Input.{stage_of, items_of, stage_at_end, room_of}
use Rattle.intake.specs.Reader.{stage_in, stage_number}
use Rattle.reader.specs.declared.Course.{Course}
use Rattle.reader.specs.declared.Course.TheVariants.{More, Over, Finished, Unread, Unwritten}

-- all of these bytes are heard: the reader stands, and the room is, as after them
pub record HeardAll (reader room bytes reader' room' : List ℕ) : Type 0 where
  pub stands : stage_in reader' ≡ stage_of (stage_in reader) bytes
  pub leaves : room' ≡ room_of room (items_of (stage_in reader) bytes)

-- so many of them are
pub record HeardSome (reader room bytes reader' room' : List ℕ) : Type 0 where
  pub count : ℕ
  pub heard : HeardAll reader room (take count bytes) reader' room'

-- all of them are, and behind them the end was said
pub record HeardToEnd (reader room bytes reader' room' : List ℕ) : Type 0 where
  pub stands : stage_in reader' ≡ stage_at_end (stage_of (stage_in reader) bytes)
  pub leaves : room' ≡ room_of room (items_of (stage_in reader) bytes)

-- the reader goes on: its number is 0
abbrev pub GoesOn : List ℕ → Type 0
GoesOn reader = stage_number (stage_in reader) ≡ 0

-- bytes that were read: all of them are heard, but where a write fails
abbrev pub TakenBy : Course → List ℕ → List ℕ → List ℕ → List ℕ → List ℕ → Type 0
TakenBy More reader room bytes reader' room' = HeardAll reader room bytes reader' room' × GoesOn reader'
TakenBy Over reader room bytes reader' room' = HeardAll reader room bytes reader' room' × (GoesOn reader' → ⊥)
TakenBy Finished reader room bytes reader' room' = ⊥
TakenBy Unread reader room bytes reader' room' = ⊥
TakenBy Unwritten reader room bytes reader' room' = HeardSome reader room bytes reader' room'

-- what a read came to, its bytes or none where it failed: a failed one is nothing, one of no bytes is the end, and others are taken
abbrev pub ReadBy : Course → Option (List ℕ) → List ℕ → List ℕ → List ℕ → List ℕ → Type 0
ReadBy More (Some bytes) reader room reader' room' = (length bytes ≡ 0 → ⊥) × TakenBy More reader room bytes reader' room'
ReadBy Over (Some bytes) reader room reader' room' = (length bytes ≡ 0 → ⊥) × TakenBy Over reader room bytes reader' room'
ReadBy Finished (Some bytes) reader room reader' room' = (length bytes ≡ 0) × HeardToEnd reader room [] reader' room'
ReadBy Unread (Some bytes) reader room reader' room' = ⊥
ReadBy Unwritten (Some bytes) reader room reader' room' = (length bytes ≡ 0 → ⊥) × TakenBy Unwritten reader room bytes reader' room'
ReadBy More None reader room reader' room' = ⊥
ReadBy Over None reader room reader' room' = ⊥
ReadBy Finished None reader room reader' room' = ⊥
ReadBy Unread None reader room reader' room' = HeardAll reader room [] reader' room' × GoesOn reader'
ReadBy Unwritten None reader room reader' room' = ⊥

-- reads: where the program goes on, so many bytes at least were read
abbrev pub TurnedBy : Course → ℕ → List ℕ → List ℕ → List ℕ → List ℕ → List ℕ → Type 0
TurnedBy More least reader room bytes reader' room' = HeardAll reader room bytes reader' room' × (GoesOn reader' × (least ≤ length bytes))
TurnedBy Over least reader room bytes reader' room' = HeardAll reader room bytes reader' room' × (GoesOn reader' → ⊥)
TurnedBy Finished least reader room bytes reader' room' = HeardToEnd reader room bytes reader' room'
TurnedBy Unread least reader room bytes reader' room' = HeardAll reader room bytes reader' room' × GoesOn reader'
TurnedBy Unwritten least reader room bytes reader' room' = HeardAll reader room bytes reader' room'

-- of some bytes
pub record Turned (course : Course) (least : ℕ) (reader room reader' room' : List ℕ) : Type 0 where
  pub bytes : List ℕ
  pub case : TurnedBy course least reader room bytes reader' room'

-- as many turns as the program counts down
abbrev pub most_turns : ℕ
most_turns = 2 ^ 64 - 1
