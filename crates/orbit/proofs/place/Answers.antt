-- `place`: asking's answer, and of CED data the two tests.
use mathlib.Core.Path.{sym, ap, ◌∙◌}
use Rattle.paper.specs.Record.{family_if}
use Rattle.paper.specs.Answer.{ask_data}
use Rattle.paper.specs.Orbit.{numbers_tests}
use Rattle.refusals.proofs.Answers.{handed_on}
use Rattle.orbit.specs.Got.{placed_answer, place_placed}
use Rattle.orbit.proofs.Places.{tests_21, tests_22, tests_0, passes, refuses_numbers, record_told, refusal_told, ced_inside, ced_passes, ced_fails}
use Rattle.orbit.proofs.place.Goals as goal

pub returns-in_err-answer : goal.returns-in_err-answer
returns-in_err-answer c =
    let a = c.args in
    let on = handed_on _ _ c.from_residual.ensures in
    let refused = refuses_numbers (family_if a.timing) a.svn.0 a.room.now _ (refusal_told c.in_err-answer.was c.ask.ensures) in
    (ap placed_answer on ∙ refused.0, ap place_placed on ∙ refused.1)

pub returns-then-timing : goal.returns-then-timing
unfolding numbers_tests
returns-then-timing c =
    let a = c.args in
    let told = record_told c.in_ok-answer.was c.ask.ensures in
    passes (family_if a.timing) a.svn.0 a.room.now _ told.0 _ told.1
    (ap (λ t. numbers_tests (family_if t) a.svn.0 (ask_data (family_if t) a.svn.0 a.room.now)) c.if-timing.true)

pub data_of-bytes-requires : goal.data_of-bytes-requires
data_of-bytes-requires c = ced_inside c.if-timing.false _ _ (record_told c.in_ok-answer.was c.ask.ensures)

pub returns-then-not-one_issue : goal.returns-then-not-one_issue
returns-then-not-one_issue c =
    ced_fails c.if-timing.false _ _ (record_told c.in_ok-answer.was c.ask.ensures) c.data_of-bytes.ensures 20
    (tests_21 _ _ (sym c.one_issue.ensures ∙ c.if-not-one_issue.true))

pub returns-then-not-names : goal.returns-then-not-names
returns-then-not-names c =
    ced_fails c.if-timing.false _ _ (record_told c.in_ok-answer.was c.ask.ensures) c.data_of-bytes.ensures 21
    (tests_22 _ _ (sym c.one_issue.ensures ∙ c.if-not-one_issue.false) (sym c.names.ensures ∙ c.if-not-names.true))

pub returns : goal.returns
returns c =
    ced_passes c.if-timing.false _ _ (record_told c.in_ok-answer.was c.ask.ensures) c.data_of-bytes.ensures
    (tests_0 _ _ (sym c.one_issue.ensures ∙ c.if-not-one_issue.false) (sym c.names.ensures ∙ c.if-not-names.false))
