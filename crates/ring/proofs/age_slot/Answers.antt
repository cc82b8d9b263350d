-- Each record is lent as its slice of the slot.
use mathlib.Core.Path.{refl, ap, ◌∙◌}
use Rattle.paper.specs.Parts.{on_part}
use Rattle.paper.specs.Record.{CED, Timing, size, aged}
use Rattle.paper.specs.Room.{base}
use Rattle.paper.proofs.Parts.{part_back}
use Rattle.ring.proofs.age_slot.Goals as goal

pub returns : goal.returns
unfolding aged
returns c =
    let args = c.args in
    let older = aged Timing args.by in
    part_back older (base Timing) (size Timing) (size Timing) _ _ refl c.age-2.ensures
    ∙ ap (on_part older (base Timing) (size Timing))
    (part_back (aged CED args.by) (base CED) (size CED) (size CED) args.slot.now c.age.new.rec refl c.age.ensures)
