-- A record of a slot of a row, as a slice of the room: within it, the record itself, and its data. Assumes nothing.
use native.Mathlib.Omega.{arith}
use mathlib.Core.Path.{◌≡◌, sym, ap, ◌∙◌}
use mathlib.Core.List.{List}
use Prim.Native.Nat.{ℕ, ◌+◌, ◌≤◌, ◌<◌}
use lib.ListN.{length}
use Rattle.paper.specs.Parts.{part}
use Rattle.paper.specs.Record.{Family, size, data_at, data_bytes, data_of}
use Rattle.paper.specs.Room.{row_size, depth, slots, row_at, row_of, record_at, record_of}
use Rattle.paper.specs.Store.{InRange}
use Rattle.paper.proofs.Parts.{part_part}
use Rattle.paper.proofs.Views.{row_inside, record_fits}
use Rattle.lookup.specs.Candidate.{place_of}

module _ (f : Family) (r i : ℕ) (room : List ℕ) (h : i < slots room) where
  pub place_inside : InRange room → r < depth room → place_of f r i room + size f ≤ length room
  place_inside F g = omega (arith, row_inside room F r g, record_fits f (slots room) i h)

  pub place_record : part (place_of f r i room) (size f) room ≡ record_of f i (row_of r room)
  place_record = sym (part_part (record_at f i) (size f) (row_at (slots room) r) (row_size (slots room)) room (record_fits f (slots room) i h))

  pub place_data : part (place_of f r i room + data_at f) (data_bytes f) room ≡ data_of f (record_of f i (row_of r room))
  place_data =
      sym (part_part (data_at f) (data_bytes f) (place_of f r i room) (size f) room (omega arith))
      ∙ ap (data_of f) place_record
