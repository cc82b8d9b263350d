-- `scaled_timing`: each double is that of the field of its name.
use borrow.Author.Rules.{rules}
use Rattle.paper.specs.Word.{table}
use Rattle.paper.specs.Field.{layouts, fields_in, fields_along, named}
use Rattle.paper.specs.Double.{doubles_of}
use Rattle.fields.specs.Words.{word6_numbers, word10_numbers}
use Rattle.orbit.specs.Numbers.{scaled_timing_from, scaled_timing_of}
use Rattle.orbit.proofs.scaled_timing.Goals as goal

pub returns : goal.returns
unfolding scaled_timing_of scaled_timing_from word6_numbers word10_numbers doubles_of named fields_along table fields_in layouts
returns c = search rules
