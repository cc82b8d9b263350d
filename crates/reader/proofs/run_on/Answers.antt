-- `run_on`: each turn that went on brought a byte at least.
use mathlib.Core.Path.{refl}
use Prim.Native.Nat.{◌+◌}
use Rattle.reader.specs.Turns.{most_turns}
use Rattle.reader.proofs.Heard.{turned_begun, turned_on, turned_stop}
use Rattle.reader.proofs.run_on.Goals as goal

pub loop-init : goal.loop-init
loop-init c = turned_begun 0 _ _ refl c.requires.0

pub returns-in_default : goal.returns-in_default
returns-in_default c = turned_stop _ _ most_turns _ _ _ _ _ _ c.in_default.not-More c.loop.invariant c.turn-came.ensures

pub loop-preserved : goal.loop-preserved
loop-preserved c =
    let h = c.loop in
    turned_on _ h.counter (h.counter + 1) _ _ _ _ _ _ c.in-More.is refl h.invariant c.turn-came.ensures
