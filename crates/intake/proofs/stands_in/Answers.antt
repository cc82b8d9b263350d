-- `stands_in`: where the input has ended the number stands in the state, and else what is kept is no whole item.
use mathlib.Core.Path.{sym}
use Rattle.intake.proofs.State.{stage_ended_lem, stage_going}
use Rattle.intake.proofs.stands_in.Goals as goal

pub returns-then-reader-ne0-clause-stands : goal.returns-then-reader-ne0-clause-stands
returns-then-reader-ne0-clause-stands c = sym (stage_ended_lem c.args.reader.now c.if-reader-ne0.true)

pub returns-clause-stands : goal.returns-clause-stands
returns-clause-stands c = sym (stage_going c.args.reader.now c.kept_in.result c.if-reader-ne0.false c.kept_in.ensures.0)
