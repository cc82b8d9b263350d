-- `dawnstook_get_orbit`: number, count and time, and the numbers of the data at the place or of no data.
use mathlib.Core.Path.{ap, ◌∙◌}
use Rattle.paper.specs.Record.{CED}
use Rattle.orbit.specs.Numbers.{orbit_from}
use Rattle.orbit.proofs.Places.{placed_there}
use Rattle.ffi_orbit.specs.Handed.{head_handed}
use Rattle.ffi_orbit.proofs.dawnstook_get_orbit.Goals as goal

pub part_placed-requires : goal.part_placed-requires
part_placed-requires c =
    let a = c.args in
    (placed_there CED a.sat a.room.now c.place-placed.result c.place-placed.ensures.0 c.place-placed.ensures.1).0

pub returns : goal.returns
returns c =
    let a = c.args in
    let there = (placed_there CED a.sat a.room.now c.place-placed.result c.place-placed.ensures.0 c.place-placed.ensures.1).1 in
    let h = c.from-head.ensures ∙ ap head_handed c.place-placed.ensures.0 in
    let o = c.orbit_of-all.ensures ∙ ap orbit_from (c.part_placed.ensures ∙ there) in
    λ i.
    record {
      number = (h i).number;
      authbits = (h i).authbits;
      week = (h i).week;
      time = (h i).time;
      word1 = (o i).word1;
      word2 = (o i).word2;
      word3 = (o i).word3;
      word4 = (o i).word4;
      word5 = (o i).word5;
      scaled = (o i).scaled;
    }
