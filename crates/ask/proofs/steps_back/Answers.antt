-- Each row is asked whether it answers, from the current one backward.
use mathlib.Core.Path.{ap, ◌∙◌}
use Prim.Native.Nat.{ℕ}
use borrow.Author.Rules.{rules}
use Rattle.paper.specs.Parts.{first}
use Rattle.paper.specs.Record.{family_if}
use Rattle.paper.specs.Ask.{steps_back}
use Rattle.lookup.specs.Found.{found}
use Rattle.ask.proofs.Heads.{answers_at}
use Rattle.ask.proofs.steps_back.Goals as goal

pub returns : goal.returns
unfolding steps_back
returns c =
    let a = c.args in
    let p = answers_at (family_if a.timing) a.sat a.room.now in
    c.first.ensures p (λ i b h q. search rules)
    ∙ ap (λ (d : ℕ). found d (first p d)) c.depth.ensures.0
