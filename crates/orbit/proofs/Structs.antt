-- The structs that are handed out: each double is the whole number beside it × 2^-k, exactly. The law over the table says so of each scaled
-- field in turn, and the structs have these fields under their names. Assumes nothing.
use borrow.Fn.Kinds.{res_t, ended_of, Dens}
use denote.Triple.Clauses.{AtExit}
use contract.Lifetimes.{Lfts}
use mathlib.Core.List.{List}
use mathlib.Core.Path.{sym, subst}
use Prim.Native.Nat.{ℕ}
use Rattle.paper.specs.Record.{CED, Timing}
use Rattle.paper.specs.Word.{table}
use Rattle.paper.specs.Field.{layouts, fields_in, numbers_at, named, in_record, fields_along, numbers_along}
use Rattle.paper.specs.Double.{doubles_of}
use Rattle.std.specs.Prelude.{Ok}
use Rattle.fields.specs.Words.{word1_from, word2_from, word3_from, word4_from, word5_from, word6_from, word10_from}
use Rattle.orbit.specs.declared.Orbit.{Orbit}
use Rattle.orbit.specs.declared.TimingNumbers.{TimingNumbers}
use Rattle.orbit.specs.declared.Got.{Got}
use Rattle.orbit.specs.Numbers.{scaled_from, scaled_timing_from, orbit_from, timing_from}
use Rattle.orbit.specs.Exact.{OrbitExact, TimingExact}
use Rattle.orbit.proofs.Exact.{doubles_exact}
use Rattle.orbit.proofs.orbit_of.Reads as orbit_of
use Rattle.orbit.proofs.orbit_of.Kinds as orbit_of_kinds
use Rattle.orbit.proofs.timing_of.Reads as timing_of
use Rattle.orbit.proofs.timing_of.Kinds as timing_of_kinds
use Rattle.orbit.proofs.get_orbit.Reads as get_orbit
use Rattle.orbit.proofs.get_orbit.Kinds as get_orbit_kinds
use Rattle.orbit.proofs.get_timing_numbers.Reads as get_timing_numbers
use Rattle.orbit.proofs.get_timing_numbers.Kinds as get_timing_numbers_kinds

-- ---- the numbers of any data; from one scaled field of the table to the next
pub orbit_exact : (bytes : List ℕ) → OrbitExact (orbit_from bytes)
unfolding orbit_from scaled_from word1_from word2_from word3_from word4_from word5_from doubles_of fields_along numbers_along table fields_in layouts numbers_at named in_record
orbit_exact bytes =
    let m0-on = doubles_exact CED bytes in
    let e-on = m0-on.2 in
    let root-a-on = e-on.2 in
    let omega0-on = root-a-on.2 in
    let i0-on = omega0-on.2 in
    let omega-on = i0-on.2 in
    let i-dot-on = omega-on.2 in
    let omega-dot-on = i-dot-on.2 in
    let delta-n-on = omega-dot-on.2 in
    let cuc-on = delta-n-on.2 in
    let cus-on = cuc-on.2 in
    let crc-on = cus-on.2 in
    let crs-on = crc-on.2 in
    let cic-on = crs-on.2 in
    let cis-on = cic-on.2 in
    let af0-on = cis-on.2 in
    let af1-on = af0-on.2 in
    let af2-on = af1-on.2 in
    let ai0-on = af2-on.2 in
    let ai1-on = ai0-on.2 in
    let ai2-on = ai1-on.2 in
    let bgd-e1-e5a-on = ai2-on.2 in
    let bgd-e1-e5b-on = bgd-e1-e5a-on.2 in
    record {
      m0 = m0-on.1;
      e = e-on.1;
      root_a = root-a-on.1;
      omega0 = omega0-on.1;
      i0 = i0-on.1;
      omega = omega-on.1;
      i_dot = i-dot-on.1;
      omega_dot = omega-dot-on.1;
      delta_n = delta-n-on.1;
      cuc = cuc-on.1;
      cus = cus-on.1;
      crc = crc-on.1;
      crs = crs-on.1;
      cic = cic-on.1;
      cis = cis-on.1;
      af0 = af0-on.1;
      af1 = af1-on.1;
      af2 = af2-on.1;
      ai0 = ai0-on.1;
      ai1 = ai1-on.1;
      ai2 = ai2-on.1;
      bgd_e1_e5a = bgd-e1-e5a-on.1;
      bgd_e1_e5b = bgd-e1-e5b-on.1;
    }

pub timing_exact : (bytes : List ℕ) → TimingExact (timing_from bytes)
unfolding timing_from scaled_timing_from word6_from word10_from doubles_of fields_along numbers_along table fields_in layouts numbers_at named in_record
timing_exact bytes =
    let a0-on = doubles_exact Timing bytes in
    let a1-on = a0-on.2 in
    let a0g-on = a1-on.2 in
    let a1g-on = a0g-on.2 in
    record {
      a0 = a0-on.1;
      a1 = a1-on.1;
      a0g = a0g-on.1;
      a1g = a1g-on.1;
    }

-- ---- of the running code: whatever struct a call hands out
pub orbit_of_exact :
    (κs : Lfts 1) (a : Dens κs orbit_of_kinds.ps) (r : (res_t orbit_of_kinds.r κs).Denot) (e : AtExit (ended_of 1 orbit_of_kinds.ps orbit_of_kinds.r) κs)
    → orbit_of.Post κs a r e
    → OrbitExact r
orbit_of_exact κs a r e p = subst OrbitExact (sym p) (orbit_exact a.0.now)

pub timing_of_exact :
    (κs : Lfts 1) (a : Dens κs timing_of_kinds.ps) (r : (res_t timing_of_kinds.r κs).Denot) (e : AtExit (ended_of 1 timing_of_kinds.ps timing_of_kinds.r) κs)
    → timing_of.Post κs a r e
    → TimingExact r
timing_of_exact κs a r e p = subst TimingExact (sym p) (timing_exact a.0.now)

pub get_orbit_exact :
    (κs : Lfts 1) (a : Dens κs get_orbit_kinds.ps) (got : Got Orbit)
    (e : AtExit (ended_of 1 get_orbit_kinds.ps get_orbit_kinds.r) κs)
    → get_orbit.Post κs a (Ok got) e
    → OrbitExact got.numbers
get_orbit_exact κs a got e p = subst OrbitExact (sym p.1) (orbit_exact _)

pub get_timing_numbers_exact :
    (κs : Lfts 1) (a : Dens κs get_timing_numbers_kinds.ps) (got : Got TimingNumbers)
    (e : AtExit (ended_of 1 get_timing_numbers_kinds.ps get_timing_numbers_kinds.r) κs)
    → get_timing_numbers.Post κs a (Ok got) e
    → TimingExact got.numbers
get_timing_numbers_exact κs a got e p = subst TimingExact (sym p.1) (timing_exact _)
