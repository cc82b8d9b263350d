-- `tag` acts only where its candidate has a place; what it then leaves is the paper's, since the record there is the candidate's.
use Rattle.paper.specs.Tag.{family_of}
use Rattle.refusals.proofs.Answers.{handed_on}
use Rattle.tags.proofs.Shown.{placed_range, placed_inside}
use Rattle.navmessage.proofs.Tagging.{tag_refused, tag_at_candidate}
use Rattle.navmessage.proofs.tag.Goals as goal

pub accept-requires-clause-in_range : goal.accept-requires-clause-in_range
unfolding family_of
accept-requires-clause-in_range c =
    let a = c.args in
    let sat = a.svn.0 in
    let placed = c.candidate_of.ensures in
    let is = c.in_ok-at.was in placed_range c.tag_allowed-allowed.result c.tag_known-known.result sat a.kind a.cop _ _ a.room.now _ placed _ is

pub accept-requires-clause-timing_in_bounds : goal.accept-requires-clause-timing_in_bounds
unfolding family_of
accept-requires-clause-timing_in_bounds c =
    let a = c.args in
    let sat = a.svn.0 in
    let placed = c.candidate_of.ensures in
    let is = c.in_ok-at.was in placed_inside c.tag_allowed-allowed.result c.tag_known-known.result sat a.kind a.cop _ _ a.room.now _ placed _ is

pub returns : goal.returns
unfolding family_of
returns c =
    let a = c.args in
    tag_at_candidate _ _ a.svn.0 a.kind a.cop a.bits a.status a.mack.wn.0 a.mack.tow.0 a.given.now a.verdict
    a.room.now c.tag_allowed-allowed.ensures c.tag_known-known.ensures _ c.candidate_of.ensures _ _ _ c.in_ok-at.was
    c.accept.ensures.result_value c.accept.ensures.room_after

pub returns-in_err-at : goal.returns-in_err-at
returns-in_err-at c =
    let a = c.args in
    rw (handed_on _ _ c.from_residual.ensures)
    (tag_refused _ _ a.svn.0 a.kind a.cop a.bits a.status a.mack.wn.0 a.mack.tow.0 a.given.now a.verdict
    a.room.now c.tag_allowed-allowed.ensures c.tag_known-known.ensures _ c.candidate_of.ensures _ c.in_err-at.was)
