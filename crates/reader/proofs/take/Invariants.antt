-- `take`: what is left is offered again and again, and each time less is left; while the reader goes on its number is 0.
use Rattle.std.proofs.Common.{◌≡◌, ◌-◌, length}
use Rattle.reader.proofs.Offered.{OfferSofar}
use Rattle.reader.specs.Turns.{GoesOn}
use Rattle.reader.proofs.take.Given as goal

abbrev pub invariant-loop-at : goal.invariant-loop-at
invariant-loop-at l =
    ((length l.room ≡ length l.initial.room) × (length l.out ≡ length l.initial.out))
    × (OfferSofar l.initial.reader l.initial.room l.bytes l.reader l.room l.at × GoesOn l.reader)

abbrev pub decreases-loop-at : goal.decreases-loop-at
decreases-loop-at l = length l.bytes - l.at
