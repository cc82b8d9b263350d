-- The record is taken, then the share that the word owns is written.
use Rattle.paper.specs.Record.{family_if}
use Rattle.paper.proofs.WordTable.{owned_in_bounds}
use Rattle.word.proofs.feed_record.Goals as goal

pub write_owned-requires-clause-in_bounds : goal.write_owned-requires-clause-in_bounds
write_owned-requires-clause-in_bounds c = rw c.owned-part.ensures (owned_in_bounds (family_if c.args.timing) _ _)
