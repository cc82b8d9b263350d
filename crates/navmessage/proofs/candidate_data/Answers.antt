-- The candidate's data lies in the record at its place.
use mathlib.Core.Path.{◌∙◌}
use Rattle.paper.specs.Tag.{family_of}
use Rattle.tags.proofs.Shown.{shown_at, shown_refused}
use Rattle.navmessage.proofs.candidate_data.Goals as goal

pub returns-in-Ok : goal.returns-in-Ok
unfolding family_of
returns-in-Ok c =
    let a = c.args in
    let shown = shown_at a.svn.0 a.kind a.cop a.mack.wn.0 a.mack.tow.0 a.room.now in
    c.data_of.ensures ∙ (shown _ c.candidate_shown.ensures _ c.in-Ok.is).1

pub returns-in-Err : goal.returns-in-Err
returns-in-Err c =
    let a = c.args in
    (shown_refused a.svn.0 a.kind a.cop a.mack.wn.0 a.mack.tow.0 a.room.now _ c.candidate_shown.ensures _
    c.in-Err.is).1
