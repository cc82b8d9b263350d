-- `take_bytes`: after each byte the room and the lines are those of the bytes so far, and what is still taken is what is taken from here.
use native.Mathlib.Omega.{arith}
use mathlib.Core.Path.{◌≡◌, refl}
use Prim.Native.Nat.{◌+◌}
use lib.ListN.{length}
use Rattle.intake.proofs.Parts.{part_begun, byte_more, stops_full, stops_done, stops_ended}
use Rattle.intake.proofs.take_bytes.Goals as goal

pub loop-i-init : goal.loop-i-init
loop-i-init c = (c.requires, part_begun _ _ _ _ _)

pub returns-in_default-clause-took : goal.returns-in_default-clause-took
returns-in_default-clause-took c =
    let h = c.loop-i in
    (stops_full _ _ _ _ _ h.i _ _ _ _ h.invariant.1 _ _ _ _ c.loop-i-test.true c.in_default.ensures.stepped).0

pub returns-in_default-stands-clause-took : goal.returns-in_default-stands-clause-took
returns-in_default-stands-clause-took c =
    let h = c.loop-i in
    let more = byte_more _ _ _ _ _ h.i _ _ _ _ h.invariant.1 _ _ _ _ c.loop-i-test.true c.in-Some.ensures.stepped in
    (stops_ended _ _ _ _ _ (h.i + 1) _ _ _ _ more c.in_default-stands.field-0 (rw c.in_default-stands.is refl) (omega arith)).0

pub returns-in_default-stands-clause-stopped_after : goal.returns-in_default-stands-clause-stopped_after
returns-in_default-stands-clause-stopped_after c =
    let h = c.loop-i in
    let more = byte_more _ _ _ _ _ h.i _ _ _ _ h.invariant.1 _ _ _ _ c.loop-i-test.true c.in-Some.ensures.stepped in
    (stops_ended _ _ _ _ _ (h.i + 1) _ _ _ _ more c.in_default-stands.field-0 (rw c.in_default-stands.is refl) (omega arith)).1

pub loop-i-preserved : goal.loop-i-preserved
loop-i-preserved c =
    let h = c.loop-i in
    let t = rw c.in-Going.is at c.in-Some.ensures.stepped in
    (rw c.in-Going.is at c.in-Some.ensures.not_whole, byte_more _ _ _ _ _ h.i _ _ _ _ h.invariant.1 _ _ _ _ c.loop-i-test.true t)

pub returns-clause-took : goal.returns-clause-took
returns-clause-took c =
    let h = c.loop-i in
    let all : h.i ≡ length c.args.bytes.now = omega arith in
    rw all at (stops_done _ _ _ _ _ h.i _ _ _ _ h.invariant.1 c.loop-i-test.false)
