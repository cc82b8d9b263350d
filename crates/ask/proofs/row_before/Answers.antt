-- The row so many back is a row.
use borrow.Author.Rules.{rules}
use Rattle.ask.proofs.Steps.{back_inside}
use Rattle.ask.proofs.row_before.Goals as goal

pub returns : goal.returns
returns c = let inside = back_inside c.args.room.now c.args.j c.requires.0 c.requires.1 in search rules
