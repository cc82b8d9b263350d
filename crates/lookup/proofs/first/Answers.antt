-- What was asked so far was answered no; the search ends behind the last, or where the answer is yes.
use borrow.Author.Rules.{rules}
use Rattle.lookup.proofs.Search.{found_none, found_here}
use Rattle.lookup.proofs.first.Goals as goal

pub returns-then-i-n : goal.returns-then-i-n
returns-then-i-n g c p says = found_none (λ i b. g.F.Fn.post c.args.holds (i, tt) b) c.args.n p says c.loop-i.i c.if-i-n.true c.loop-i.invariant.1

pub returns : goal.returns
returns g c p says =
    found_here (λ i b. g.F.Fn.post c.args.holds (i, tt) b) c.args.n p says c.loop-i.i c.if-i-n.false c.loop-i.invariant.1 (search rules)
