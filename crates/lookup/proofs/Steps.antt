-- The candidate in a row, step by step as the code goes: no record of the satellite, one whose ages do not fit, the candidate.
-- Assumes nothing.
use mathlib.Core.Path.{◌≡◌, sym, ap, ◌∙◌}
use mathlib.Core.Bool.{true, false}
use mathlib.Core.List.{List}
use Prim.Native.Nat.{ℕ, ◌+◌, ◌≤◌, ◌<◌}
use borrow.Author.Tests.{lt-ltb}
use lib.ListN.{length}
use Rattle.paper.specs.Parts.{part}
use Rattle.paper.specs.Record.{Family, size}
use Rattle.paper.specs.Room.{depth, slots, row_at, row_of, record_at, record_of}
use Rattle.paper.specs.Tag.{first_slot, fits_cop}
use Rattle.paper.specs.Store.{InRange}
use Rattle.std.specs.Prelude.{Option, Some, None}
use Rattle.lookup.specs.Found.{found}
use Rattle.lookup.specs.Candidate.{place_of, candidate_in}
use Rattle.lookup.proofs.Search.{found_at, found_not}
use Rattle.lookup.proofs.Places.{place_inside, place_record}

-- what the code knows of row r
pub record Looked (room : List ℕ) (r n : ℕ) (row : List ℕ) : Type 0 where
  pub facts : InRange room
  pub below : r < depth room
  pub count : n ≡ slots room
  pub is : row ≡ row_of r room

module _ {room : List ℕ} {r n : ℕ} {row : List ℕ} (s : Looked room r n row) where
  -- the slot that is looked for in it
  module _ (f : Family) (sat cop : ℕ) {a : Option ℕ} (ea : a ≡ found n (first_slot f sat n row)) where
    abbrev slot : ℕ
    slot = first_slot f sat (slots room) (row_of r room)

    answer : a ≡ found (slots room) slot
    answer = ea ∙ rw (s.is, s.count)

    pub in_none : a ≡ None → None ≡ candidate_in f sat cop r room
    unfolding candidate_in
    in_none e = rw (found_not (slots room) slot (sym answer ∙ e))

    -- and found
    module _ {x : ℕ} (ex : a ≡ Some x) where
      is_slot : (x ≡ slot) × (slot < slots room)
      is_slot = found_at (slots room) slot x (sym answer ∙ ex)

      pub in_slot_lem : x < n
      in_slot_lem = rw (is_slot.0, s.count) is_slot.1

      module _ {start at : ℕ} (es : start ≡ row_at n r) (eat : at ≡ record_at f x) where
        is_place : start + at ≡ place_of f r slot room
        is_place = rw (es, eat, is_slot.0, s.count)

        pub in_inside : start + at + size f ≤ length room
        in_inside = rw is_place (place_inside f r slot room is_slot.1 s.facts s.below)

        is_record : part (start + at) (size f) room ≡ record_of f slot (row_of r room)
        is_record = rw is_place (place_record f r slot room is_slot.1)

        pub in_unfit : fits_cop f cop (part (start + at) (size f) room) ≡ false → None ≡ candidate_in f sat cop r room
        unfolding candidate_in
        in_unfit e = rw (lt-ltb slot (slots room) is_slot.1, ← is_record, e)

        pub in_fit : fits_cop f cop (part (start + at) (size f) room) ≡ true → Some (start + at) ≡ candidate_in f sat cop r room
        unfolding candidate_in
        in_fit e = rw (lt-ltb slot (slots room) is_slot.1, ← is_record, e) (ap Some is_place)
