-- STORE 14.5, for what reading numbers came to: the number with the count and the time, and the numbers; and where the data lies.
use Rattle.std.specs.Prelude.{ℕ, ◌+◌, ◌≤◌, cond, List, [], ◌∷◌, eqb, Result, Ok, Err}
use Rattle.paper.specs.Number.{Answer}
use Rattle.paper.specs.Parts.{part}
use Rattle.paper.specs.Record.{Family, size, data_at, data_bytes}
use Rattle.paper.specs.Orbit.{numbers_number}
use Rattle.ask.specs.Answered.{answered_answer, place_answered, ask_place}
use Rattle.ask.specs.declared.Answering.{Answering}
use Rattle.refusals.specs.Reply.{answer_of}
use Rattle.refusals.specs.declared.Refusal.{Refusal}
use Rattle.orbit.specs.Numbers.{orbit_from, timing_from}
use Rattle.orbit.specs.declared.Orbit.{Orbit}
use Rattle.orbit.specs.declared.TimingNumbers.{TimingNumbers}
use Rattle.orbit.specs.declared.Got.{Got}

abbrev pub placed_answer : Result Answering Refusal → Answer
placed_answer = answered_answer

-- where the record starts in the room; 0 beside a refusal
abbrev pub place_placed : Result Answering Refusal → ℕ
place_placed = place_answered

unfoldable pub numbers_place : Family → ℕ → List ℕ → ℕ
numbers_place f sat room = cond (eqb (numbers_number f sat room) 0) (ask_place f sat room) 0

-- a record there lies in a room of so many bytes
abbrev pub PlacedWithin : Family → Result Answering Refusal → ℕ → Type 0
PlacedWithin f (Ok a) long = a.at + size f ≤ long
PlacedWithin f (Err why) long = Unit {0}

-- its data; none beside a refusal
abbrev pub part_placed : Family → Result Answering Refusal → List ℕ → List ℕ
part_placed f (Ok a) room = part (a.at + data_at f) (data_bytes f) room
part_placed f (Err why) room = []

-- the numbers beside the count and the time
abbrev pub with_numbers : {T : Type 0} → Answering → T → Got T
with_numbers a numbers = record { authbits = a.authbits; gst = a.gst; numbers = numbers }

abbrev pub got_answer : {T : Type 0} → Result (Got T) Refusal → Answer
got_answer = answer_of (λ g. g.authbits ∷ g.gst.wn.0 ∷ g.gst.tow.0 ∷ [])

-- the numbers handed out; those of no data beside a refusal
abbrev pub numbers_or : {T : Type 0} → T → Result (Got T) Refusal → T
numbers_or none (Ok g) = g.numbers
numbers_or none (Err why) = none

abbrev pub got_orbit : Result (Got Orbit) Refusal → Orbit
got_orbit = numbers_or (orbit_from [])

abbrev pub got_timing_answer : Result (Got TimingNumbers) Refusal → Answer
got_timing_answer = got_answer

abbrev pub got_timing : Result (Got TimingNumbers) Refusal → TimingNumbers
got_timing = numbers_or (timing_from [])
