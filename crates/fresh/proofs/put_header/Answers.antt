-- `fresh::put_header` meets its contract: zeros, and then D, N and the rule.
use native.Mathlib.Omega.{arith}
use Rattle.fresh.proofs.Blank.{header_put}
use Rattle.fresh.proofs.put_header.Goals as goal

pub returns : goal.returns
returns c = header_put _ _ _ c.args.room.now _ (omega arith) (c.fill.ensures.after (λ y e. e))
