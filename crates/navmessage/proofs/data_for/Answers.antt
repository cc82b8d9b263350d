-- `data_for` hands out the data at the place that `ask` answered, or the empty slice.
use mathlib.Core.Path.{sym, ap, ◌∙◌}
use Rattle.paper.specs.Record.{family_if}
use Rattle.ask.specs.Answered.{answered_answer, place_answered}
use Rattle.ask.proofs.Tells.{answer_there, no_data}
use Rattle.navmessage.proofs.data_for.Goals as goal

pub data_of-requires : goal.data_of-requires
data_of-requires c =
    let a = c.args in
    let is = sym c.in-Ok.is in
    (answer_there (family_if a.timing) a.svn.0 a.room.now _ _ (ap answered_answer is ∙ c.ask.ensures.0)
    (ap place_answered is ∙ c.ask.ensures.1)).inside

pub returns-in-Ok : goal.returns-in-Ok
returns-in-Ok c =
    let a = c.args in
    let is = sym c.in-Ok.is in
    let there = answer_there (family_if a.timing) a.svn.0 a.room.now _ _ (ap answered_answer is ∙ c.ask.ensures.0) in
    c.data_of.ensures ∙ (there (ap place_answered is ∙ c.ask.ensures.1)).bytes

pub returns-in-Err : goal.returns-in-Err
returns-in-Err c =
    let a = c.args in
    no_data (family_if a.timing) a.svn.0 a.room.now _ (ap answered_answer (sym c.in-Err.is) ∙ c.ask.ensures.0)
