-- What was asked so far was answered no; the search ends before the first, or where the answer is yes.
use borrow.Author.Rules.{rules}
use native.Mathlib.Omega.{arith}
use Prim.Native.Nat.{◌-◌}
use Rattle.choice.proofs.Search.{found_none, found_here}
use Rattle.choice.proofs.last.Goals as goal

pub returns-then-left-eq0 : goal.returns-then-left-eq0
returns-then-left-eq0 g c p says =
    found_none (λ i b. g.F.Fn.post c.args.holds (i, tt) b) c.args.n p says (λ j z h. c.loop-left.invariant.1 j (omega arith) h)

pub returns : goal.returns
returns g c p says =
    found_here (λ i b. g.F.Fn.post c.args.holds (i, tt) b) c.args.n p says (c.loop-left.left - 1) (omega arith)
    (λ j h k. c.loop-left.invariant.1 j (omega arith) k) (search rules)
