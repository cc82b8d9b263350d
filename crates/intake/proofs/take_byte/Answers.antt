-- `take_byte`: the byte stands behind those that are kept; what is kept then is a part of an item, or a whole one whose lines fit or not.
use native.Mathlib.Omega.{arith}
use lib.Seq.{take-set-le}
use Rattle.intake.proofs.Byte.{step_part, step_full, step_whole, not_whole_within}
use Rattle.intake.proofs.take_byte.Goals as goal

pub returns-then-have-body-clause-stepped : goal.returns-then-have-body-clause-stepped
returns-then-have-body-clause-stepped c =
    let a = c.args in
    let kind = c.from-kind in
    let fits = not_whole_within a.kept.now a.have c.requires.0 in
    let step = step_part a.traced a.room.now a.kept.now a.have a.byte a.out.now a.at fits kind.result kind.ensures in
    let few = rw c.body.ensures at c.if-have-body.true in
    step few c.requires.1

pub returns-then-out-at-clause-stepped : goal.returns-then-out-at-clause-stepped
returns-then-out-at-clause-stepped c =
    let a = c.args in
    let kind = c.from-kind in
    let fits = not_whole_within a.kept.now a.have c.requires.0 in
    let step = step_full a.traced a.room.now a.kept.now a.have a.byte a.out.now a.at fits kind.result kind.ensures in
    let whole = rw c.body.ensures at c.if-have-body.false in
    let short = rw c.most.ensures at c.if-out-at.true in
    let same = take-set-le a.have a.kept.now a.have a.byte (omega arith) in
    rw same (step whole c.requires.1 short)

pub returns-then-ends-clause-stepped : goal.returns-then-ends-clause-stepped
returns-then-ends-clause-stepped c =
    let a = c.args in
    let fits = not_whole_within a.kept.now a.have c.requires.0 in
    let step = step_whole a.traced a.room.now a.kept.now a.have a.byte a.out.now a.at fits c.from-kind.result c.from-kind.ensures in
    let whole = rw c.body.ensures at c.if-have-body.false in
    let long = rw c.most.ensures at c.if-out-at.false in
    let put = c.put_item-said.ensures in
    step _ _ _ _ whole c.requires.1 long (rw c.if-ends.true at c.ends.ensures) put.0 put.1

pub returns-clause-stepped : goal.returns-clause-stepped
returns-clause-stepped c =
    let a = c.args in
    let fits = not_whole_within a.kept.now a.have c.requires.0 in
    let step = step_whole a.traced a.room.now a.kept.now a.have a.byte a.out.now a.at fits c.from-kind.result c.from-kind.ensures in
    let whole = rw c.body.ensures at c.if-have-body.false in
    let long = rw c.most.ensures at c.if-out-at.false in
    let put = c.put_item-said.ensures in
    step _ _ _ _ whole c.requires.1 long (rw c.if-ends.false at c.ends.ensures) put.0 put.1
