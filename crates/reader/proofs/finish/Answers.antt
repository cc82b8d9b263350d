-- `finish`: the output takes the line of the end, so that the end is taken.
use native.Mathlib.Omega.{arith}
use mathlib.Core.Path.{ap, ◌∙◌}
use Prim.Native.Nat.{◌+◌, ◌*◌}
use Rattle.lines.specs.Lines.{longest_line}
use Rattle.intake.specs.Input.{trace_bytes}
use Rattle.intake.specs.Reader.{reader_of}
use Rattle.reader.proofs.Offered.{end_fits_lem}
use Rattle.reader.proofs.finish.Goals as goal

pub returns : goal.returns
returns c = c.end-closed.ensures.reader_after ∙ ap reader_of (end_fits_lem _ (16 * (longest_line + trace_bytes)) _ (omega arith))
