-- `run_on`: each turn that went on brought a byte at least.
use Rattle.reader.specs.declared.Course.TheVariants.{More}
use Rattle.reader.specs.Turns.{Turned}
use Rattle.reader.proofs.run_on.Given as goal

abbrev pub invariant-loop : goal.invariant-loop
invariant-loop l = Turned More l.counter l.initial.reader l.initial.room l.reader l.room
