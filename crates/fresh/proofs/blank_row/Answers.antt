-- `fresh::blank_row` meets its contract: zeros in the head come back as a change of that slice.
use native.Mathlib.Omega.{arith}
use mathlib.Core.Path.{refl, ap, ◌∙◌}
use mathlib.Core.List.{List}
use Prim.Native.Nat.{ℕ}
use lib.ListN.{replicate}
use Rattle.paper.proofs.Parts.{part_back, length_part}
use Rattle.paper.specs.Fresh.{blank_row, blank_slot}
use Rattle.paper.specs.Parts.{on_parts}
use Rattle.paper.specs.Room.{head_size, slot_size}
use Rattle.fresh.proofs.blank_row.Goals as goal

pub returns : goal.returns
unfolding blank_row
returns c =
    let args = c.args in
    let row = args.row.now in
    let zeros = c.fill.ensures.after (λ y e. e) ∙ ap (λ (k : ℕ). replicate k 0) (length_part 0 head_size row (omega arith)) in
    c.blank_slots.ensures
    ∙ ap (on_parts (λ (_ : List ℕ). blank_slot) slot_size args.n head_size)
    (part_back (λ (_ : List ℕ). replicate head_size 0) 0 head_size head_size row _ refl zeros)
