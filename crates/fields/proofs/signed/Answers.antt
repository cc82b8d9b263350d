-- `signed`: below half of the numbers of w bits the number is as it stands, from there on the bits turned over are one less than its size.
use native.Mathlib.Omega.{arith}
use mathlib.Core.Path.{◌≡◌, ap, ◌∙◌}
use lib.IntN.{pos}
use mir.Syntax.{w32}
use mir.Val.{to_z}
use mir.Facts.{to_z-of_z, to_z_pos}
use Rattle.paper.specs.Field.{signed as twos, value_of}
use Rattle.fields.proofs.MinusOne.{minus_one, minus_one_fits}
use Rattle.fields.proofs.Shifts.{turned, turned_fits, high_is}
use Rattle.fields.proofs.signed.Goals as goal

pub returns : goal.returns
returns c =
    let n = c.number-v in
    let y = turned c.args.w n.result c.requires.1 c.requires.2 n.ensures.1 in
    let l = turned_fits c.args.w n.result c.requires.1 c.requires.2 n.ensures.1 c.if-v-half.false in
    let e = high_is c.args.w n.result c.requires.1 c.requires.2 n.ensures.1 c.if-v-half.false ∙ ap (value_of twos c.args.w) n.ensures.0 in
    let p : to_z w32 y ≡ pos y = to_z_pos w32 (omega (arith, l)) in
    rw (p, minus_one y, to_z-of_z (minus_one_fits y l)) e
