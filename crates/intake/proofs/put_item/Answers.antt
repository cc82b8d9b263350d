-- `put_item`: the item's line, and behind it what `trace` adds.
use Rattle.text.proofs.Puts.{put_then}
use Rattle.intake.specs.Input.{lines_for}
use Rattle.intake.proofs.put_item.Goals as goal

pub returns-then-traced : goal.returns-then-traced
unfolding lines_for
returns-then-traced c =
    let a = c.answer-next.ensures in
    let trace = rw a.0 at c.put_trace.ensures in
    (a.0, rw c.if-traced.true (put_then a.1.0 trace))
