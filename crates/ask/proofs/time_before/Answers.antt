-- Week and time are read in the row's head; the subframes go back by the least age.
use Prim.Native.Nat.{◌<◌}
use mathlib.Core.Path.{sym, ◌∙◌}
use native.Mathlib.Omega.{arith}
use Rattle.paper.specs.Room.{week_at, time_at, head_size}
use Rattle.paper.specs.Ask.{time_before}
use Rattle.paper.proofs.Big.{be16_part, be32_part}
use Rattle.ask.proofs.Back.{back_told}
use borrow.Author.Rules.{rules}
use Rattle.ask.proofs.time_before.Goals as goal

pub returns : goal.returns
unfolding time_before
returns c =
    let age = c.least_age in
    let small : age.result < 256 = search rules in
    let told = back_told age.result small in
    let week = be16_part c.args.row head_size c.args.room.now week_at (omega arith) in
    let time = be32_part c.args.row head_size c.args.room.now time_at (omega arith) in
    c.add_subframes.ensures
    ∙ simp (
      c.subframes_back-back.ensures,
      told,
      c.read16-week.ensures,
      c.read32-time.ensures,
      week,
      time,
      sym age.ensures,
    )
