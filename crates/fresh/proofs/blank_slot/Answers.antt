-- `fresh::blank_slot` meets its contract: the lent slices are the slot's two records, each of its family's length.
use native.Mathlib.Omega.{arith}
use Rattle.paper.proofs.Parts.{length_part}
use mathlib.Core.Path.{refl}
use Rattle.paper.specs.Record.{CED, Timing, size}
use Rattle.fresh.proofs.Blank.{slot_blank}
use Rattle.fresh.proofs.blank_slot.Goals as goal

pub returns : goal.returns
returns c =
    let slot = c.args.slot.now in
    slot_blank slot _ _ c.requires (c.blank_record.ensures CED (length_part 0 (size CED) slot (omega arith)) refl)
    (λ e. c.blank_record-2.ensures Timing e refl)
