-- `store::slots_allowed` meets its contract: the first slot that is not allowed decides.
use mathlib.Core.Path.{sym, ◌∙◌}
use Rattle.paper.specs.Room.{head_size, slot_size}
use Rattle.paper.specs.Store.{slot_allowed}
use Rattle.paper.proofs.Parts.{all_stop}
use Rattle.store.proofs.slots_allowed.Goals as goal

pub returns-then-not-slot_allowed : goal.returns-then-not-slot_allowed
returns-then-not-slot_allowed c =
    all_stop (slot_allowed c.args.most) slot_size _ c.loop-i.i head_size _ c.args.row.now c.slot_start-at.ensures c.loop-i-test.true
    (sym c.slot_allowed.ensures ∙ c.if-not-slot_allowed.true)
