-- Each slot is asked for its byte at `at`.
use borrow.Author.Rules.{rules}
use Rattle.choice.specs.Last.{is_of}
use Rattle.choice.proofs.last_of.Goals as goal

pub returns : goal.returns
returns c = let a = c.args in c.last.ensures (is_of a.row.now a.at a.sat) (λ i b h q. search rules)
