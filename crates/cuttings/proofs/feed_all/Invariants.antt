-- `feed_all`: each part lies within the input, and the lines within the output.
use Rattle.std.proofs.Common.{◌≤◌, length}
use Rattle.cuttings.proofs.feed_all.Given as goal

abbrev pub invariant-loop : goal.invariant-loop
invariant-loop l = (l.at ≤ length l.got) × ((l.from ≤ l.to) × (l.to ≤ length l.input))
