-- Where the candidate of a tag lies in the room, for the subframe w, t that its row is marked with.
use Rattle.std.specs.Prelude.{ℕ, ◌+◌, ◌≤◌, ◌≡◌, true, cond, List, ltb, length}
use Rattle.paper.specs.Parts.{part}
use Rattle.paper.specs.Record.{Family, data_bytes, data_at, size, data_of}
use Rattle.paper.specs.Room.{depth, slots, row_at, row_of, record_at, record_of}
use Rattle.paper.specs.Tag.{first_row, first_slot, candidate_row, candidate_slot, candidate_record, fits_cop, has_candidate}
use Rattle.std.specs.Prelude.{Option, Some, None}

-- where the record of slot i of row r starts in the room
abbrev pub place_of : Family → ℕ → ℕ → List ℕ → ℕ
place_of f r i room = row_at (slots room) r + record_at f i

-- STORE 11.3: the satellite's first record of the family in row r, if its ages fit the COP: where it starts
unfoldable pub candidate_in : Family → ℕ → ℕ → ℕ → List ℕ → Option ℕ
candidate_in f sat cop r room =
    let row = row_of r room in
    let i = first_slot f sat (slots room) row in
    cond (ltb i (slots room)) (cond (fits_cop f cop (record_of f i row)) (Some (place_of f r i room)) None) None

-- STORE 11.2: in the first row, from row 0, that is marked w, t
unfoldable pub candidate_at : Family → ℕ → ℕ → ℕ → ℕ → List ℕ → Option ℕ
candidate_at f sat cop w t room =
    let r = first_row w t room in
    cond (ltb r (depth room)) (candidate_in f sat cop r room) None

-- what a caller learns of the place x of a candidate, for the MACK time w, t: its record starts there, and its data lies in it
pub record CandidateThere (f : Family) (sat cop w t : ℕ) (room : List ℕ) (x : ℕ) : Type 0 where
  pub has : has_candidate f sat cop w t room ≡ true
  pub place : x ≡ place_of f (candidate_row w t room) (candidate_slot f sat w t room) room
  pub inside : x + size f ≤ length room
  pub here : part x (size f) room ≡ candidate_record f sat w t room
  pub bytes : part (x + data_at f) (data_bytes f) room ≡ data_of f (candidate_record f sat w t room)
