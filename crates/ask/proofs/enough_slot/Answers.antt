-- Each slot is asked whether its record answers, by the record's head.
use mathlib.Core.Path.{ap, ◌∙◌}
use borrow.Author.Rules.{rules}
use Rattle.paper.specs.Parts.{part}
use Rattle.paper.specs.Record.{family_if, ages_at}
use Rattle.paper.specs.Room.{record_at}
use Rattle.paper.specs.Ask.{has_enough, enough_slot}
use Rattle.paper.proofs.First.{first_same}
use Rattle.lookup.specs.Found.{found}
use Rattle.ask.proofs.Heads.{is_enough, enough_head}
use Rattle.ask.proofs.enough_slot.Goals as goal

pub returns : goal.returns
unfolding enough_slot
returns c =
    let a = c.args in
    let f = family_if a.timing in
    c.first.ensures (λ i. has_enough a.sat (part (record_at f i) ages_at a.row.now)) (λ i b h q. search rules)
    ∙ ap (found a.n) (first_same _ (is_enough f a.sat a.row.now) a.n (λ j h. enough_head f a.sat j a.row.now))
