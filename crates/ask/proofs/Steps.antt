-- One step back through the ring, as the code goes: the slots of the row so many back are asked. Assumes nothing.
use mathlib.Core.Path.{◌≡◌, sym, ◌∙◌}
use mathlib.Core.Bool.{Bool}
use mathlib.Core.List.{List}
use Prim.Native.Nat.{ℕ, ◌+◌, ◌<◌}
use borrow.Author.Tests.{lt-ltb}
use lib.Dec.{ltb}
use Rattle.paper.specs.Record.{Family}
use Rattle.paper.specs.Room.{depth, slots, current, row_at, row_of, record_at}
use Rattle.paper.specs.Ask.{enough_slot, row_back}
use Rattle.paper.specs.Store.{InRange}
use Rattle.paper.proofs.Views.{back_below}
use Rattle.std.specs.Prelude.{Option, Some, None}
use Rattle.lookup.specs.Found.{found}
use Rattle.lookup.specs.Candidate.{place_of}
use Rattle.lookup.proofs.Search.{found_at, found_not}
use Rattle.ask.specs.Backward.{here, place_back}
use Rattle.ask.proofs.Heads.{answers_at}

-- the row so many back is a row
pub back_inside : (room : List ℕ) (j : ℕ) → InRange room → j < depth room → row_back (depth room) (current room) j < depth room
back_inside room j F below = back_below (depth room) (current room) j F.in_ring below

-- row r of n slots, j rows before the current one, and the slot of it that answers, if one does
module _ (room : List ℕ) (n j r : ℕ) (row : List ℕ) (count : n ≡ slots room) (back : r ≡ row_back (depth room) (current room) j)
    (is : row ≡ row_of r room) (f : Family) (sat : ℕ) {a : Option ℕ} (ea : a ≡ found n (enough_slot f sat n row)) where
  abbrev number : ℕ
  number = row_back (depth room) (current room) j

  abbrev slot : ℕ
  slot = enough_slot f sat (slots room) (row_of number room)

  answer : a ≡ found (slots room) slot
  answer = ea ∙ rw (is, back, count)

  pub place_none : a ≡ None → None ≡ place_back f sat j room
  unfolding place_back
  place_none e = rw (found_not (slots room) slot (sym answer ∙ e))

  module _ {x : ℕ} (ex : a ≡ Some x) {start at : ℕ} (es : start ≡ row_at n r) (eat : at ≡ record_at f x) where
    is_slot : (x ≡ slot) × (slot < slots room)
    is_slot = found_at (slots room) slot x (sym answer ∙ ex)

    is_start_lem : start ≡ row_at (slots room) number
    is_start_lem = rw (es, back, count)

    is_place : start + at ≡ place_of f number slot room
    is_place = rw (is_start_lem, eat, is_slot.0)

    pub place_here : here start (start + at) ≡ place_back f sat j room
    unfolding place_back
    place_here = rw (lt-ltb slot (slots room) is_slot.1, ← is_place, ← is_start_lem)
