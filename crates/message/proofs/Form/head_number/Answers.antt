-- `head_number` is the fields one behind the other.
use Rattle.message.specs.Outcome.{form_code, head_of}
use Rattle.message.proofs.Joined.{head_computed}
use Rattle.message.proofs.Form.head_number.Goals as goal

pub returns : goal.returns
returns c =
    let a = c.args in
    rw (c.from.ensures, c.from-2.ensures, c.from-3.ensures, c.from-4.ensures, c.from-5.ensures, c.from-6.ensures)
    (head_computed (form_code a.self) (head_of a.h) c.prnd_sent-prnd.result c.prnd_sent-prnd.ensures)
