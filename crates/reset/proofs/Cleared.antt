-- A slot whose count was overwritten is the slot with its record's count 0; two passes over the rows are a reset. Assumes nothing.
use native.Mathlib.Omega.{arith}
use mathlib.Core.Path.{◌≡◌, sym, ap, ◌∙◌}
use mathlib.Core.List.{List}
use Prim.Native.Nat.{ℕ, ◌+◌, ◌≤◌}
use lib.ListN.{length}
use Rattle.paper.proofs.Big.{on_part_put16}
use Rattle.paper.proofs.Lengths.{keeps_with_count}
use Rattle.paper.proofs.Views.{slot_fits, every_record_header}
use Rattle.paper.specs.Big.{put16}
use Rattle.paper.specs.Parts.{on_parts}
use Rattle.paper.specs.Record.{Family, CED, Timing, count_at, size, with_count}
use Rattle.paper.specs.Reset.{reset}
use Rattle.paper.specs.Room.{depth_at, slots_at, header_size, slot_size, base, row_size, room_size, depth, slots, in_slot, each_record, every_record}

pub slot_cleared : (f : Family) (from : ℕ) (slot y : List ℕ) → length slot ≡ slot_size → from ≡ base f → y ≡ put16 slot (from + count_at) 0
    → y ≡ in_slot f (with_count 0) slot
slot_cleared f from slot y l q p =
    p ∙ ap (λ (k : ℕ). put16 slot (k + count_at) 0) q
    ∙ sym (on_part_put16 (base f) (size f) count_at 0 slot (omega (arith, slot_fits f)) (omega arith))

-- the first pass leaves D and N as they are
pub two_passes : (d n : ℕ) (room x y : List ℕ) → d ≡ depth room → n ≡ slots room → room_size (depth room) (slots room) ≤ length room
    → x ≡ on_parts (each_record CED n (with_count 0)) (row_size n) d header_size room → y ≡ on_parts (each_record Timing n (with_count 0)) (row_size n) d header_size x
    → y ≡ reset room
unfolding reset every_record
two_passes d n room x y r s fits p q =
    let same = every_record_header CED (with_count 0) (keeps_with_count (size CED) 0) room fits in
    q ∙ rw (p, r, s, same depth_at (omega arith), same slots_at (omega arith))
