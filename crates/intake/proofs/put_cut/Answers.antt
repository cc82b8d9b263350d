-- `put_cut`: the line, and behind it what `trace` adds.
use Rattle.text.proofs.Puts.{put_then}
use Rattle.intake.specs.Input.{lines_for}
use Rattle.paper.specs.Call.{run}
use Rattle.intake.proofs.put_cut.Goals as goal

pub returns-then-traced : goal.returns-then-traced
unfolding lines_for run
returns-then-traced c = rw c.if-traced.true (put_then c.put_line-next.ensures.0 c.put_trace.ensures)
