-- STORE 15.7 at work: a store of D 2, N 1 under rule 1, the timing words of two satellites, which of them each record has, and its age.
use Rattle.std.specs.Prelude.{ℕ, ◌*◌, List, [], ◌∷◌, ◌≡◌, get_or, replicate}
use Rattle.paper.specs.Record.{Timing, ages_of}
use Rattle.paper.specs.Room.{room_size}
use Rattle.paper.specs.Call.{Call, fresh_call, feed_call, room_after, run}
use Rattle.history.specs.Line.{Place, at}
use Rattle.since.specs.Brought.{Origin, no_word, fed_as, brought}

-- a fresh store under rule 1, on a room of sevens
unfoldable pub start : List ℕ
start = room_after (fresh_call 2 1 1) (replicate (room_size 2 1) 7)

-- a word of this type and otherwise of zeros, of a satellite at a week and time, on E1B
abbrev feed : ℕ → ℕ → ℕ → ℕ → Call
feed type sat w t = feed_call ((type * 4) ∷ replicate 15 0) sat w t 0

abbrev the : ℕ → ℕ → ℕ → ℕ → Origin
the type sat w t = fed_as (record { bytes = (type * 4) ∷ replicate 15 0; satellite = sat; week = w; time = t; band = 0 })

-- word 6 of E01; then a word 0, which stores nothing, 20 subframes later, which is in row 1
unfoldable pub came : List Call
came = feed 6 1 1177 30 ∷ []

unfoldable pub twenty : List Call
twenty = feed 0 1 1177 630 ∷ came

-- the timing record of the one slot of a row
abbrev place : ℕ → Place
place r = record { family = Timing; row = r; slot = 0 }

-- after these calls, the record in row r has this word for its age k, and the age says so many subframes
abbrev Has : List Call → ℕ → ℕ → Origin → ℕ → Type 0
Has calls r k x age = (brought k start calls (place r) ≡ x) × (get_or (ages_of Timing (at (run start calls) (place r))) k 0 ≡ age)

abbrev pub Examples : Type 0
Examples =
    -- word 6 is of age 0, word 10 of age 1, and that one did not come
    Has came 0 0 (the 6 1 1177 30) 0
    × Has came 0 1 no_word 255
    -- 600 seconds later: in the row that was filled, and in the row that was left
    × Has twenty 1 0 (the 6 1 1177 30) 20
    × Has twenty 1 1 no_word 255
    × Has twenty 0 0 (the 6 1 1177 30) 0
    -- then word 10 of E01, three subframes later again, in row 0
    × Has (feed 10 1 1177 720 ∷ twenty) 0 0 (the 6 1 1177 30) 23
    × Has (feed 10 1 1177 720 ∷ twenty) 0 1 (the 10 1 1177 720) 0
    -- then a word of E02 in the place of E01: no word of its own
    × Has (feed 0 2 1177 630 ∷ twenty) 1 0 no_word 255
    -- then an earlier word, which is refused
    × Has (feed 6 1 1177 0 ∷ twenty) 1 0 (the 6 1 1177 30) 20
    -- a week later: the word is the same, and the age is held
    × Has (feed 0 1 1178 30 ∷ came) 1 0 (the 6 1 1177 30) 255
