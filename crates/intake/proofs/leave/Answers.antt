-- `leave`: what is kept and 0, 0, or nothing, 1 and the number.
use Rattle.intake.specs.Reader.{reader_of}
use Rattle.intake.proofs.leave.Goals as goal

pub returns-in-Going : goal.returns-in-Going
unfolding reader_of
returns-in-Going c = rw c.in-Going.is c.keep.ensures

pub returns-in-Ended : goal.returns-in-Ended
unfolding reader_of
returns-in-Ended c = rw c.in-Ended.is c.keep-in-Ended.ensures
