-- The slots of a store that the test passes at one look, which are nearly all of them.
use Rattle.std.specs.Prelude.{ℕ, ◌+◌, ◌-◌, ◌*◌, ◌%◌, Bool, cond, ◌&&◌, List, get_or, leb, eqb}
use Rattle.paper.specs.Big.{be32}
use Rattle.paper.specs.Record.{Timing, satellite_at, satellite, count, last_weight}
use Rattle.paper.specs.Room.{base, slot_size}

-- both records without a satellite and a count; the CED record's last byte 0, and no bit past the timing record
unfoldable pub is_empty : List ℕ → Bool
is_empty slot = eqb (satellite slot * 65536 + count slot) 0 && eqb (be32 slot (base Timing - 1)) 0 && eqb (get_or slot (slot_size - 1) 0 % last_weight) 0

-- both records of one satellite, and no bit past them
unfoldable pub is_shared : List ℕ → Bool
is_shared slot =
    eqb (get_or slot (base Timing + satellite_at) 0) (satellite slot)
    && eqb (get_or slot (base Timing - 1) 0 % last_weight) 0
    && eqb (get_or slot (slot_size - 1) 0 % last_weight) 0

-- a satellite that it may hold in both records, or nothing
unfoldable pub is_plain : ℕ → List ℕ → Bool
is_plain most slot = cond (leb 1 (satellite slot) && leb (satellite slot) most) (is_shared slot) (is_empty slot)
