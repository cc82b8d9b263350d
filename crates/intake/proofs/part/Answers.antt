-- `part`: behind the input's end nothing happens; else the bytes are taken, and the state is where the reader stands then.
use mathlib.Core.Path.{◌≡◌, sym, ap, ◌∙◌}
use lib.ListN.{take}
use Rattle.intake.specs.Input.{stage_of}
use Rattle.intake.specs.Reader.{stage_in, reader_of, stage_number, standing}
use Rattle.intake.proofs.Along.{stages_ended}
use Rattle.intake.proofs.Parts.{took_ended}
use Rattle.intake.proofs.State.{number_standing}
use Rattle.intake.proofs.part.Goals as goal
use Rattle.intake.proofs.part.Goals.{in-Going, in-Ended, After-number}

pub returns-clause-took : goal.returns-clause-took
returns-clause-took c =
    elim c.match-stands_in.branch [
      | in-Going w ↦ rw (w.room-is, w.out-is, w.progress-is, ← w.in-Going.ensures.stands) w.take_bytes-progress.ensures.took
      | in-Ended w ↦ rw (w.room-is, w.out-is, w.progress-is, ← w.in-Ended.ensures.stands) (took_ended _ _ _ _ _)
    ]

-- where the reader stands then
stands :
    (c : After-number)
    → standing c.match-stands_in.reader c.match-stands_in.progress.stands
    ≡ stage_of (stage_in c.args.reader.now) (take c.match-stands_in.progress.took c.args.bytes.now)
stands c =
    elim c.match-stands_in.branch [
      | in-Going w ↦ rw (w.reader-is, w.progress-is, ← w.in-Going.ensures.stands) w.take_bytes-progress.ensures.stopped_after
      | in-Ended w ↦ rw (w.reader-is, w.progress-is, ← w.in-Ended.ensures.stands) (sym (stages_ended _ _))
    ]

pub returns-clause-reader_after : goal.returns-clause-reader_after
returns-clause-reader_after c = c.leave.ensures ∙ ap reader_of (stands c)

pub returns-clause-number_value : goal.returns-clause-number_value
returns-clause-number_value c =
    c.number.ensures ∙ number_standing c.match-stands_in.reader c.match-stands_in.progress.stands ∙ ap stage_number (stands c)
