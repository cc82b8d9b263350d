-- `orbit_of`: each word's numbers from where it starts in the data, and their doubles.
use mathlib.Core.Path.{◌∙◌}
use Rattle.paper.specs.Word.{table}
use Rattle.paper.specs.Field.{in_record}
use Rattle.orbit.specs.Numbers.{orbit_from}
use Rattle.orbit.proofs.Words.{doubles_of_lem}
use Rattle.orbit.proofs.orbit_of.Goals as goal

pub returns : goal.returns
unfolding orbit_from in_record table
returns c =
    let bytes = c.args.bytes.now in
    let e1 = c.read_word1-word1.ensures in
    let e2 = c.read_word2-word2.ensures in
    let e3 = c.read_word3-word3.ensures in
    let e4 = c.read_word4-word4.ensures in
    let e5 = c.read_word5-word5.ensures in
    let doubles = c.scaled_of-scaled.ensures ∙ doubles_of_lem bytes _ _ _ _ _ e1 e2 e3 e4 e5 in
    λ i. record { word1 = e1 i; word2 = e2 i; word3 = e3 i; word4 = e4 i; word5 = e5 i; scaled = doubles i }
