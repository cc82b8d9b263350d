-- All behind the slot in hand are younger. The search goes on to an older one before it, and where there is none, it is the last of the oldest.
use Rattle.choice.proofs.Oldest.{older_before, none_before}
use Rattle.choice.proofs.last_oldest.Goals as goal

pub loop-older-smaller : goal.loop-older-smaller
loop-older-smaller c = (older_before _ _ _ _ _ c.loop-older.invariant c.last_older.ensures _ c.in-Some.is).1

pub loop-older-preserved : goal.loop-older-preserved
loop-older-preserved c = (older_before _ _ _ _ _ c.loop-older.invariant c.last_older.ensures _ c.in-Some.is).0

pub returns : goal.returns
returns c = none_before _ _ _ _ _ c.loop-older.invariant c.last_older.ensures c.in_default.is
