-- `turn`: what a read came to is a turn.
use Rattle.reader.proofs.Heard.{read_turned}
use Rattle.reader.proofs.turn.Goals as goal

pub returns-in-Ok : goal.returns-in-Ok
returns-in-Ok c = read_turned _ _ _ _ _ _ c.hear.ensures
