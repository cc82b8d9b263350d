-- `candidate_before` refuses a COP of 0 first, and then where the lookup finds nothing.
use borrow.Author.Tests.{ne_eqb}
use mathlib.Core.Path.{sym, subst}
use Rattle.std.specs.Prelude.{ℕ, Result}
use Rattle.paper.specs.Record.{family_if}
use Rattle.refusals.specs.declared.Refusal.{Refusal}
use Rattle.tags.specs.Candidates.{Sought}
use Rattle.tags.proofs.Order.{sought}
use Rattle.tags.proofs.candidate_before.Goals as goal

pub returns : goal.returns
returns c =
    let a = c.args in
    let f = family_if a.timing in
    subst (λ (r : Result ℕ Refusal). Sought r f a.sat a.cop a.week a.time a.room.now) (sym c.ok_or.ensures.value)
    (sought f a.sat a.cop a.week a.time a.room.now c.candidate_at.result c.candidate_at.ensures (ne_eqb _ _ c.if-cop-eq0.false))
