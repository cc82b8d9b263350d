-- `take_bytes`: after each byte the room and the lines are those of the bytes so far, and what is still taken is what is taken from here.
use lib.ListN.{take}
use Rattle.intake.specs.Input.{going}
use Rattle.intake.specs.Reader.{NotWhole}
use Rattle.intake.proofs.Parts.{PartSofar}
use Rattle.intake.proofs.take_bytes.Given as goal

abbrev pub invariant-loop-i : goal.invariant-loop-i
invariant-loop-i l =
    NotWhole l.kept l.count
    × PartSofar l.traced (going (take l.have l.initial.kept)) l.bytes l.initial.room l.initial.out l.i (going (take l.count l.kept)) l.room l.out l.said
