-- `cuttings`: no more are counted than places were tried.
use Rattle.std.proofs.Common.{◌≤◌}
use Rattle.cuttings.proofs.cuttings.Given as goal

abbrev pub invariant-loop-first : goal.invariant-loop-first
invariant-loop-first l = l.count ≤ l.first
