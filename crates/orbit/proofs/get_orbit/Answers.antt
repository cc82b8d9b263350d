-- `get_orbit`: the numbers of the data at the place, or why there is none.
use mathlib.Core.Path.{ap, ◌∙◌}
use Rattle.paper.specs.Record.{CED}
use Rattle.refusals.proofs.Answers.{handed_on}
use Rattle.orbit.specs.Numbers.{orbit_from}
use Rattle.orbit.specs.Got.{got_answer, got_orbit}
use Rattle.orbit.proofs.Places.{no_numbers, numbers_there, record_told, refusal_told}
use Rattle.orbit.proofs.get_orbit.Goals as goal

pub returns-in_err-answer : goal.returns-in_err-answer
returns-in_err-answer c =
    let on = handed_on _ _ c.from_residual.ensures in
    let e = refusal_told c.in_err-answer.was c.place.ensures in
    (ap got_answer on ∙ e, ap got_orbit on ∙ ap orbit_from (no_numbers CED c.args.svn.0 c.args.room.now _ e))

pub data_of-requires : goal.data_of-requires
data_of-requires c =
    let told = record_told c.in_ok-answer.was c.place.ensures in
    (numbers_there CED c.args.svn.0 c.args.room.now _ _ told.0 told.1).inside

pub returns : goal.returns
returns c =
    let told = record_told c.in_ok-answer.was c.place.ensures in
    let there = numbers_there CED c.args.svn.0 c.args.room.now _ _ told.0 told.1 in
    rw c.with_numbers.ensures (told.0, c.orbit_of.ensures ∙ ap orbit_from (c.data_of.ensures ∙ there.bytes))
