-- `build` acts only where its tests were passed: then the fields fit, and the buffer is long enough.
use mathlib.Core.Path.{refl, ap, ◌∙◌}
use Rattle.refusals.proofs.Answers.{handed_on}
use Rattle.message.specs.Outcome.{head_of, built_answer}
use Rattle.message.proofs.Building.{not_built, built}
use Rattle.message.proofs.build.Goals as goal

pub returns-in_err-form : goal.returns-in_err-form
returns-in_err-form c =
    let a = c.args in
    let left = not_built a.form (head_of a.h) a.given.now a.out.now c.in_err-form.field-0.0 c.in_err-form.ensures in
    (ap built_answer (handed_on _ _ c.from_residual.ensures) ∙ left.0, left.1, λ i. (c.type_inv.given i).fits)

pub returns : goal.returns
returns c =
    let a = c.args in
    let left =
    built a.form (head_of a.h) a.given.now a.out.now _ c.in_ok-form.ensures _ _ _ c.write.new.out _ c.head_bytes.ensures
    c.head_number-head.ensures c.message_bytes-bytes.ensures c.write.ensures refl in
    (left.0, left.1, λ i. (c.type_inv.given i).fits)
