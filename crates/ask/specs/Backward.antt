-- Where the row that answers and its record start in the room.
use Rattle.std.specs.Prelude.{ℕ, cond, List, ltb, Option, Some, None}
use Rattle.paper.specs.Record.{Family}
use Rattle.paper.specs.Room.{depth, slots, current, row_at, row_of}
use Rattle.paper.specs.Ask.{enough_slot, row_back, row_answering, slot_answering, some_enough}
use Rattle.lookup.specs.Candidate.{place_of}
use Rattle.ask.specs.declared.Place.{Place}

abbrev pub here : ℕ → ℕ → Option Place
here row at = Some (record { row = row; at = at })

-- of the row j before the current one: where it starts, and its first record that answers
unfoldable pub place_back : Family → ℕ → ℕ → List ℕ → Option Place
place_back f sat j room =
    let r = row_back (depth room) (current room) j in
    let i = enough_slot f sat (slots room) (row_of r room) in
    cond (ltb i (slots room)) (here (row_at (slots room) r) (place_of f r i room)) None

unfoldable pub answering_at : Family → ℕ → List ℕ → Option Place
answering_at f sat room =
    cond (some_enough f sat room)
    (here (row_at (slots room) (row_answering f sat room)) (place_of f (row_answering f sat room) (slot_answering f sat room) room))
    None
