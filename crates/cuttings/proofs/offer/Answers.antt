-- `offer`: no more is taken than there is, and the lines lie within the output that was lent.
use native.Mathlib.Omega.{arith}
use Rattle.intake.proofs.Taken.{part_taken_most}
use Rattle.cuttings.proofs.offer.Goals as goal

pub returns : goal.returns
returns c =
    let t = c.part-heard.ensures.took in
    let few = part_taken_most _ _ _ _ _ _ in
    (rw t.count few, omega (arith, t.lines.place, t.lines.fits))
