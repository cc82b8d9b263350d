-- `candidate`: the slice is short enough, and stands at the start of `given`.
use native.Mathlib.Omega.{arith}
use lib.ListN.{get_or}
use Rattle.benchlines.proofs.Parts.{candidate_short}
use Rattle.benchlines.proofs.candidate.Goals as goal

pub copied-requires : goal.copied-requires
copied-requires c =
    let a = c.args in
    let body = a.body.now in
    let mack = c.time-gst.result in
    let short = candidate_short (get_or body 0 0) (get_or body 1 0) (get_or body 2 0) mack.wn.0 mack.tow.0 a.room.now in
    rw c.candidate_data.ensures (omega (arith, short))
