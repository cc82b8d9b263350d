-- `timing_of`: each word's numbers from where it starts in the data, and their doubles.
use mathlib.Core.Path.{◌∙◌}
use Rattle.paper.specs.Word.{table}
use Rattle.paper.specs.Field.{in_record}
use Rattle.orbit.specs.Numbers.{timing_from}
use Rattle.orbit.proofs.Words.{timing_doubles_of}
use Rattle.orbit.proofs.timing_of.Goals as goal

pub returns : goal.returns
unfolding timing_from in_record table
returns c =
    let bytes = c.args.bytes.now in
    let e6 = c.read_word6-word6.ensures in
    let e10 = c.read_word10-word10.ensures in
    let doubles = c.scaled_timing-scaled.ensures ∙ timing_doubles_of bytes _ _ e6 e10 in
    λ i. record { word6 = e6 i; word10 = e10 i; scaled = doubles i }
