-- Each slot before this one is asked whether its record is older.
use borrow.Author.Rules.{rules}
use Rattle.paper.specs.Record.{family_if}
use Rattle.choice.specs.Cases.{is_older}
use Rattle.choice.proofs.last_older.Goals as goal

pub returns : goal.returns
returns c = let a = c.args in c.last.ensures (is_older (family_if a.timing) a.slot a.row.now) (λ i b h q. search rules)
