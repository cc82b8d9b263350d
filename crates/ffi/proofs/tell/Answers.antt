-- What asking answers, and where the record's data lies in the room; a refusal has nothing beside its number.
use native.Mathlib.Omega.{arith}
use mathlib.Core.Path.{sym, ap, ◌∙◌}
use Rattle.paper.specs.Record.{family_if}
use Rattle.ask.specs.Answered.{answered_answer, place_answered}
use Rattle.ask.proofs.Tells.{answer_there}
use Rattle.ffi.proofs.Parts.{told_nothing}
use Rattle.ffi.proofs.tell.Goals as goal

pub overflow_add-result : goal.overflow_add-result
overflow_add-result c =
    let a = c.args in
    let is = sym c.in-Ok.is in
    let there =
    answer_there (family_if a.timing) a.sat a.room.now _ _ (ap answered_answer is ∙ c.ask.ensures.0)
    (ap place_answered is ∙ c.ask.ensures.1) in omega (arith, there.inside)

pub returns-in-Err-clause-value : goal.returns-in-Err-clause-value
returns-in-Err-clause-value c =
    let a = c.args in
    let e = ap answered_answer (sym c.in-Err.is) ∙ c.ask.ensures.0 in
    (told_nothing (family_if a.timing) a.sat a.room.now c.in-Err.why e _ c.from.ensures).0

pub returns-in-Err-clause-room_value : goal.returns-in-Err-clause-room_value
returns-in-Err-clause-room_value c =
    let a = c.args in
    let e = ap answered_answer (sym c.in-Err.is) ∙ c.ask.ensures.0 in
    (told_nothing (family_if a.timing) a.sat a.room.now c.in-Err.why e _ c.from.ensures).1
