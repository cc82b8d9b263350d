-- What an export hands back for an answer and the numbers: the values are 0 beside a refusal (STORE 14.3), and so are the numbers of no data.
use Rattle.std.specs.Prelude.{get_or}
use Rattle.paper.specs.Number.{Answer, number, values}
use Rattle.orbit.specs.declared.Orbit.{Orbit}
use Rattle.orbit.specs.declared.TimingNumbers.{TimingNumbers}
use Rattle.ffi_orbit.specs.declared.Head.{Head}
use Rattle.ffi_orbit.specs.declared.OrbitRead.{OrbitRead}
use Rattle.ffi_orbit.specs.declared.TimingRead.{TimingRead}

abbrev pub head_handed : Answer → Head
head_handed a =
    record { number = number a; authbits = get_or (values a) 0 0; week = get_or (values a) 1 0; time = get_or (values a) 2 0 }

abbrev pub orbit_handed : Answer → Orbit → OrbitRead
orbit_handed a o =
    record {
      number = number a;
      authbits = get_or (values a) 0 0;
      week = get_or (values a) 1 0;
      time = get_or (values a) 2 0;
      word1 = o.word1;
      word2 = o.word2;
      word3 = o.word3;
      word4 = o.word4;
      word5 = o.word5;
      scaled = o.scaled;
    }

abbrev pub timing_handed : Answer → TimingNumbers → TimingRead
timing_handed a t =
    record {
      number = number a;
      authbits = get_or (values a) 0 0;
      week = get_or (values a) 1 0;
      time = get_or (values a) 2 0;
      word6 = t.word6;
      word10 = t.word10;
      scaled = t.scaled;
    }

-- the numbers in what is handed back, as the structs of `orbit`
abbrev pub orbit_in : OrbitRead → Orbit
orbit_in r =
    record { word1 = r.word1; word2 = r.word2; word3 = r.word3; word4 = r.word4; word5 = r.word5; scaled = r.scaled }

abbrev pub timing_in : TimingRead → TimingNumbers
timing_in r = record { word6 = r.word6; word10 = r.word10; scaled = r.scaled }
