-- Each row is asked whether it is marked with the time.
use mathlib.Core.Path.{ap, ◌∙◌}
use Prim.Native.Nat.{ℕ}
use borrow.Author.Rules.{rules}
use Rattle.paper.specs.Parts.{first}
use Rattle.paper.specs.Tag.{first_row}
use Rattle.lookup.specs.Found.{found}
use Rattle.lookup.proofs.Search.{is_marked}
use Rattle.lookup.proofs.row_marked.Goals as goal

pub returns : goal.returns
unfolding first_row
returns c =
    let a = c.args in
    let p = is_marked a.week a.time a.room.now in
    c.first.ensures p (λ i b h q. search rules)
    ∙ ap (λ (d : ℕ). found d (first p d)) c.depth.ensures.0
