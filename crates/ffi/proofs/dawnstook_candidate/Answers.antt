-- Where the candidate has a place, its data starts behind the head of its record.
use Rattle.paper.specs.Tag.{family_of}
use Rattle.ffi.proofs.Parts.{shown_part, shown_nothing}
use Rattle.ffi.proofs.dawnstook_candidate.Goals as goal

pub returns-in-Ok-clause-value : goal.returns-in-Ok-clause-value
unfolding family_of
returns-in-Ok-clause-value c =
    let a = c.args in
    rw (← c.new-mack.ensures.0, ← c.new-mack.ensures.1)
    (shown_part a.sat a.kind a.cop _ _ a.room.now _ c.candidate_shown.ensures _ c.in-Ok.is _ _
    c.data_at.ensures c.bytes_of.ensures).0

pub returns-in-Ok-clause-room_value : goal.returns-in-Ok-clause-room_value
unfolding family_of
returns-in-Ok-clause-room_value c =
    let a = c.args in
    rw (← c.new-mack.ensures.0, ← c.new-mack.ensures.1)
    (shown_part a.sat a.kind a.cop _ _ a.room.now _ c.candidate_shown.ensures _ c.in-Ok.is _ _
    c.data_at.ensures c.bytes_of.ensures).1

pub returns-in-Err-clause-value : goal.returns-in-Err-clause-value
returns-in-Err-clause-value c =
    let a = c.args in
    rw (← c.new-mack.ensures.0, ← c.new-mack.ensures.1)
    (shown_nothing a.sat a.kind a.cop _ _ a.room.now _ c.candidate_shown.ensures _ c.in-Err.is _
    c.from.ensures).0

pub returns-in-Err-clause-room_value : goal.returns-in-Err-clause-room_value
returns-in-Err-clause-room_value c =
    let a = c.args in
    rw (← c.new-mack.ensures.0, ← c.new-mack.ensures.1)
    (shown_nothing a.sat a.kind a.cop _ _ a.room.now _ c.candidate_shown.ensures _ c.in-Err.is _
    c.from.ensures).1
