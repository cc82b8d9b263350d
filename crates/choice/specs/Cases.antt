-- STORE 10.5 in three cases: this satellite's record, else one without a satellite, else the oldest; of equals the last.
use Rattle.std.specs.Prelude.{ℕ, zero, suc, max, Bool, List, eqb, ltb}
use Rattle.paper.specs.Record.{Family, satellite, ages_of, greatest}
use Rattle.paper.specs.Room.{record_of}
use Rattle.choice.specs.Last.{last_of}
use Rattle.std.specs.Prelude.{Option, Some, None}

-- slot i has a record of the satellite; of none where that is 0
abbrev pub has_satellite : Family → ℕ → List ℕ → ℕ → Bool
has_satellite f sat row i = eqb (satellite (record_of f i row)) sat

-- how old the record of slot i is: its greatest age
abbrev pub slot_age : Family → List ℕ → ℕ → ℕ
slot_age f row i = greatest (ages_of f (record_of f i row))

-- slot i has a record that is so old
abbrev pub has_age : Family → ℕ → List ℕ → ℕ → Bool
has_age f age row i = eqb (slot_age f row i) age

-- slot i has an older record than this slot
abbrev pub is_older : Family → ℕ → List ℕ → ℕ → Bool
is_older f slot row i = ltb (slot_age f row slot) (slot_age f row i)

-- how old the oldest of the first n records is
unfoldable pub oldest_age : Family → ℕ → List ℕ → ℕ
oldest_age f zero row = 0
oldest_age f (suc n) row = max (oldest_age f n row) (slot_age f row n)

-- the last of this satellite's records
abbrev pub last_own : Family → ℕ → ℕ → List ℕ → Option ℕ
last_own f sat n row = last_of (has_satellite f sat row) n

-- the last without a satellite
abbrev pub last_unclaimed : Family → ℕ → List ℕ → Option ℕ
last_unclaimed f n row = last_of (has_satellite f 0 row) n

-- the last of those whose greatest age is greatest
abbrev pub last_oldest : Family → ℕ → List ℕ → Option ℕ
last_oldest f n row = last_of (has_age f (oldest_age f n row) row) n

-- what was found, else the other
abbrev pub or_else : Option ℕ → Option ℕ → Option ℕ
or_else (Some i) other = Some i
or_else None other = other

-- STORE 10.5: the slot chosen in a row of n
unfoldable pub three_cases : Family → ℕ → ℕ → List ℕ → Option ℕ
three_cases f sat n row = or_else (last_own f sat n row) (or_else (last_unclaimed f n row) (last_oldest f n row))
