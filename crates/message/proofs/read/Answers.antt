-- `read` tests in the paper's order, and writes only behind the last test.
use mathlib.Core.Path.{refl, ap, ◌∙◌}
use Rattle.refusals.proofs.Answers.{handed_on}
use Rattle.message.specs.Outcome.{head_of, read_back_answer}
use Rattle.message.proofs.Reading.{lengths_refused, fields_refused, padding_refused, was_read}
use Rattle.message.proofs.read.Goals as goal

pub returns-in_err-form : goal.returns-in_err-form
returns-in_err-form c =
    let a = c.args in
    let left = lengths_refused a.form a.message.now a.out.now c.in_err-form.field-0.0 c.in_err-form.ensures in
    (ap read_back_answer (handed_on _ _ c.from_residual.ensures) ∙ left.0, left.1, λ i. (c.type_inv.message i).fits)

pub returns-in_err-fields_entry : goal.returns-in_err-fields_entry
returns-in_err-fields_entry c =
    let a = c.args in
    let left =
    fields_refused a.form a.message.now a.out.now _ c.in_ok-form.ensures _ c.head_bytes-k.ensures _ c.head.ensures
    (head_of c.heading_of-h.result) c.heading_of-h.ensures c.in_err-fields_entry.field-0.0 c.in_err-fields_entry.ensures in
    (ap read_back_answer (handed_on _ _ c.from_residual-in_err-fields_entry.ensures) ∙ left.0, left.1, λ i. (c.type_inv.message i).fits)

pub returns-then-message-ne0 : goal.returns-then-message-ne0
returns-then-message-ne0 c =
    let a = c.args in
    let left =
    padding_refused a.form a.message.now a.out.now _ c.in_ok-form.ensures _ c.head_bytes-k.ensures _ c.head.ensures
    (head_of c.heading_of-h.result) c.heading_of-h.ensures c.in_ok-fields_entry.ensures c.if-message-ne0.true in
    (left.0, left.1, λ i. (c.type_inv.message i).fits)

pub returns : goal.returns
returns c =
    let a = c.args in
    let left =
    was_read a.form a.message.now a.out.now _ c.in_ok-form.ensures _ c.head_bytes-k.ensures _ c.head.ensures
    (head_of c.heading_of-h.result) c.heading_of-h.ensures c.in_ok-fields_entry.ensures c.if-message-ne0.false
    _ c.body.new.out _ c.data_bytes.ensures c.body.ensures refl in
    (left.0, left.1, λ i. (c.type_inv.message i).fits)
