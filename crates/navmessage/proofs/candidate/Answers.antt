-- `candidate` tests as a tag does, up to 10.
use Rattle.refusals.proofs.Answers.{handed_on}
use Rattle.tags.proofs.Shown.{shown_at, shown_refused}
use Rattle.navmessage.proofs.candidate.Goals as goal

pub returns : goal.returns
returns c =
    let a = c.args in
    (shown_at a.svn.0 a.kind a.cop a.mack.wn.0 a.mack.tow.0 a.room.now _ c.candidate_shown.ensures _
    c.in_ok-candidate_shown.was).0

pub returns-in_err-candidate_shown : goal.returns-in_err-candidate_shown
returns-in_err-candidate_shown c =
    let a = c.args in
    rw (handed_on _ _ c.from_residual.ensures)
    (shown_refused a.svn.0 a.kind a.cop a.mack.wn.0 a.mack.tow.0 a.room.now _ c.candidate_shown.ensures _
    c.in_err-candidate_shown.was).0
