-- What the ring's functions lean on: the records of two rows lie apart as the rows do, a row aged in one pass, the test that the
-- ring moves, of a row that was lent, and the ring's steps in the code's order. Assumes nothing.
use native.Mathlib.Omega.{arith}
use mathlib.Core.Path.{◌≡◌, ◌∙◌}
use mathlib.Core.Bool.{Bool, true, false, cond, not}
use mathlib.Core.List.{List, ◌++◌}
use Prim.Native.Nat.{ℕ, ◌+◌, ◌-◌, ◌≤◌}
use lib.ListN.{length, set, take, drop}
use Rattle.paper.specs.Parts.{on_parts}
use Rattle.paper.specs.Record.{Family, CED, Timing, size, aged}
use Rattle.paper.specs.Room.{current_at, head_size, slot_size, base, row_size, depth, slots, current, row_at, row_of, marked, is_at, in_slot, each_record}
use Rattle.paper.specs.Store.{InRange}
use Rattle.paper.specs.Feed.{next_row, moves, rises_by, copied, aged_row, advanced}
use Rattle.paper.proofs.Parts.{Keeps, on_part_length, part_back_at}
use Rattle.paper.proofs.Views.{slot_fits, row_inside}
use Rattle.paper.proofs.Lengths.{keeps_aged}
use Rattle.paper.proofs.WordViews.{next_row_lt, advanced_facts}
use Rattle.ring.specs.Slot.{aged_slot}
use Rattle.ring.proofs.Passes.{on_parts_twice}

keeps_in_slot : (f : Family) (by : ℕ) → Keeps (in_slot f (aged f by)) slot_size
keeps_in_slot f by slot e = on_part_length (aged f by) (size f) (keeps_aged f by) (base f) slot (omega (arith, slot_fits f)) ∙ e

pub aged_once : (by n : ℕ) (row : List ℕ) → row_size n ≤ length row → aged_row by n row ≡ on_parts (aged_slot by) slot_size n head_size row
unfolding aged_row each_record
aged_once by n row h =
    on_parts_twice (in_slot Timing (aged Timing by)) (in_slot CED (aged CED by)) slot_size (keeps_in_slot Timing by) (keeps_in_slot CED by) n head_size row h

module _ (w t : ℕ) (room row : List ℕ) (e : row ≡ row_of (current room) room) where
  pub moves_blank : marked row ≡ false → false ≡ moves w t room
  unfolding moves
  moves_blank h = rw (← e, h)

  pub moves_marked : (b : Bool) → marked row ≡ true → b ≡ is_at w t row → not b ≡ moves w t room
  unfolding moves
  moves_marked b h g = rw (← e, ← g, h)

-- the current row and the next in the code's words: row c of d at `from`, the next row at `to`, of n slots each
module _ (room : List ℕ) where
  pub current_fits : InRange room → {n c from : ℕ} → n ≡ slots room → c ≡ current room → from ≡ row_at n c → from + row_size n ≤ length room
  current_fits F en ec es = rw (es, en, ec) (row_inside room F (current room) F.in_ring)

  pub next_fits : InRange room → {n c d next to : ℕ} → n ≡ slots room → c ≡ current room → d ≡ depth room → next ≡ next_row d c → to ≡ row_at n next
      → to + row_size n ≤ length room
  next_fits F {n} {c} {d} en ec ed ex et =
      rw (et, ex, en, ed) (row_inside room F (next_row (depth room) c) (next_row_lt (depth room) c (F.some_row)))

  -- the copy, the row made current and its ages are together the paper's advance
  pub advanced_by : (by : ℕ) {n c d next from to size : ℕ} {copy after : List ℕ} → size ≡ row_size n → n ≡ slots room → c ≡ current room → d ≡ depth room
      → next ≡ next_row d c → from ≡ row_at n c → to ≡ row_at n next
      → copy ≡ copied n from to room → after ≡ aged_row by n (take (to + size - to) (drop to (set copy current_at next)))
      → take to (set copy current_at next) ++ (after ++ drop (to + size - to) (drop to (set copy current_at next))) ≡ advanced by room
  unfolding advanced
  advanced_by by {n} {c} {d} {next} {from} {to} {size} {copy} {after} long en ec ed ex es et e a =
      part_back_at (aged_row by n) to size (set copy current_at next) after a ∙ rw (e, long, es, et, ex, ec, en, ed)

-- what is known of a store holds after the ring has moved, or not
pub moved_facts : (w t : ℕ) (room : List ℕ) → InRange room → InRange (cond (moves w t room) (advanced (rises_by w t room) room) room)
moved_facts w t room F = go (moves w t room)
  where
    go : (b : Bool) → InRange (cond b (advanced (rises_by w t room) room) room)
    go true = advanced_facts room F (rises_by w t room)
    go false = F
