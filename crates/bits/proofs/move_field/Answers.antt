-- `move_field` is right: a move within one byte is one byte set, and it changed something exactly when that byte is another.
use mathlib.Core.Path.{◌∙◌}
use Rattle.bits.proofs.OneByte.{one_put}
use Rattle.bits.proofs.move_field.Goals as goal

pub returns : goal.returns
returns c =
    let a = c.args in
    let y = c.joined-y in
    let p = c.put_byte in
    one_put a.d.now a.to a.w.now a.from a.k c.requires.0 c.requires.1 c.requires.2
    (λ i. (c.slice_known-1.given i).fits) (λ i. (c.type_inv.w i).fits) y.result p.new.d a.hit p.result
    (y.ensures ∙ rw (c.from.ensures, c.field-v.ensures)) p.ensures.0 p.ensures.1
