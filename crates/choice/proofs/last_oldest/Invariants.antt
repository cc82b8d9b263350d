-- All behind the slot in hand are younger. The search goes on to an older one before it, and where there is none, it is the last of the oldest.
use Rattle.paper.specs.Record.{family_if}
use Rattle.choice.proofs.Oldest.{Younger}
use Rattle.choice.proofs.last_oldest.Given as goal

abbrev pub invariant-loop-older : goal.invariant-loop-older
invariant-loop-older l = Younger (family_if l.timing) l.row l.n l.slot

abbrev pub decreases-loop-older : goal.decreases-loop-older
decreases-loop-older l = l.slot
