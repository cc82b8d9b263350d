-- `dawnstook_get_timing_numbers`: number, count and time, and the numbers of the data at the place or of no data.
use mathlib.Core.Path.{ap, ◌∙◌}
use Rattle.paper.specs.Record.{Timing}
use Rattle.orbit.specs.Numbers.{timing_from}
use Rattle.orbit.proofs.Places.{placed_there}
use Rattle.ffi_orbit.specs.Handed.{head_handed}
use Rattle.ffi_orbit.proofs.dawnstook_get_timing_numbers.Goals as goal

pub part_placed-requires : goal.part_placed-requires
part_placed-requires c =
    let a = c.args in
    (placed_there Timing a.sat a.room.now c.place-placed.result c.place-placed.ensures.0 c.place-placed.ensures.1).0

pub returns : goal.returns
returns c =
    let a = c.args in
    let there = (placed_there Timing a.sat a.room.now c.place-placed.result c.place-placed.ensures.0 c.place-placed.ensures.1).1 in
    let h = c.from-head.ensures ∙ ap head_handed c.place-placed.ensures.0 in
    let o = c.timing_of-all.ensures ∙ ap timing_from (c.part_placed.ensures ∙ there) in
    λ i.
    record {
      number = (h i).number;
      authbits = (h i).authbits;
      week = (h i).week;
      time = (h i).time;
      word6 = (o i).word6;
      word10 = (o i).word10;
      scaled = (o i).scaled;
    }
