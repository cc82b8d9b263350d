-- `fresh` acts only where its tests were passed, and its tests are the paper's.
use Rattle.paper.specs.Answer.{fresh_number, fresh_room}
use Rattle.refusals.proofs.Answers.{does, handed_on}
use Rattle.stays.proofs.Rooms.{fresh_allowed}
use Rattle.navmessage.proofs.Replies.{refused_pair, done_pair}
use Rattle.navmessage.proofs.fresh.Goals as goal

pub fresh_room-requires : goal.fresh_room-requires
fresh_room-requires c = (fresh_allowed _ _ _ _ (does _ _ _ c.in_ok-fresh_entry.was c.fresh_entry.ensures)).1

pub returns-in_err-fresh_entry : goal.returns-in_err-fresh_entry
unfolding fresh_room
returns-in_err-fresh_entry c =
    let a = c.args in
    rw (handed_on _ _ c.from_residual.ensures)
    (refused_pair _ _ (fresh_number a.d a.n a.rule a.room.now) _ a.room.now c.in_err-fresh_entry.was c.fresh_entry.ensures)

pub returns : goal.returns
unfolding fresh_room
returns c =
    let a = c.args in
    done_pair _ (fresh_number a.d a.n a.rule a.room.now) _ _ a.room.now c.in_ok-fresh_entry.was c.fresh_entry.ensures
    c.fresh_room.ensures
