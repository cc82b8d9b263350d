-- `feed`: what is taken lies within the part, and the lines within the output.
use Rattle.std.proofs.Common.{◌≤◌, length}
use Rattle.cuttings.proofs.feed.Given as goal

abbrev pub invariant-loop : goal.invariant-loop
invariant-loop l = (l.at ≤ length l.got) × (l.from ≤ length l.bytes)
