-- `answer`: the answer's line, with the slice that is still there after the call.
use native.Mathlib.Omega.{arith}
use mathlib.Core.Path.{ap, ◌∙◌}
use Rattle.benchlines.specs.Items.{whole_data, whole_line}
use Rattle.benchlines.proofs.Parts.{part_short, part_after}
use Rattle.benchlines.proofs.answer.Goals as goal

pub put_line-requires : goal.put_line-requires
put_line-requires c = (omega arith, rw c.part.ensures (part_short c.args.kind _ _))

pub returns : goal.returns
unfolding whole_line
returns c =
    let outcome = c.outcome-outcome.ensures in
    let a = c.args in
    let part = c.part.ensures ∙ ap (whole_data a.kind a.body.now) outcome.1 ∙ part_after a.kind a.body.now a.room.now in
    let line = simp (c.satellite.ensures, outcome.0, part) at c.put_line.ensures in
    (outcome.1, (line.0, line.1))
