-- `get_timing_numbers`: the numbers of the data that asking hands out, or why there is none.
use mathlib.Core.Path.{refl, ap, ◌∙◌}
use Rattle.paper.specs.Record.{Timing}
use Rattle.paper.specs.Orbit.{numbers_tests}
use Rattle.refusals.proofs.Answers.{handed_on}
use Rattle.ask.proofs.Tells.{answer_there}
use Rattle.orbit.specs.Numbers.{timing_from}
use Rattle.orbit.specs.Got.{got_timing_answer, got_timing}
use Rattle.orbit.proofs.Places.{passes, refuses_numbers, no_numbers, numbers_there, record_told, refusal_told}
use Rattle.orbit.proofs.get_timing_numbers.Goals as goal

pub returns-in_err-answer : goal.returns-in_err-answer
returns-in_err-answer c =
    let a = c.args in
    let on = handed_on _ _ c.from_residual.ensures in
    let e = (refuses_numbers Timing a.svn.0 a.room.now _ (refusal_told c.in_err-answer.was c.ask.ensures)).0 in
    (ap got_timing_answer on ∙ e, ap got_timing on ∙ ap timing_from (no_numbers Timing a.svn.0 a.room.now _ e))

pub data_of-requires : goal.data_of-requires
data_of-requires c =
    let told = record_told c.in_ok-answer.was c.ask.ensures in
    (answer_there Timing c.args.svn.0 c.args.room.now _ _ told.0 told.1).inside

pub returns : goal.returns
unfolding numbers_tests
returns c =
    let a = c.args in
    let told = record_told c.in_ok-answer.was c.ask.ensures in
    let p = passes Timing a.svn.0 a.room.now _ told.0 _ told.1 refl in
    let there = numbers_there Timing a.svn.0 a.room.now _ _ p.0 p.1 in
    rw c.with_numbers.ensures (p.0, c.timing_of.ensures ∙ ap timing_from (c.data_of.ensures ∙ there.bytes))
