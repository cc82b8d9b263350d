-- STORE 20.4 of the exports: each double that is handed to C or Rust is the whole number beside it × 2^-k, exactly, and plus zero beside a
-- refusal, where every whole number is 0. Assumes nothing.
use borrow.Fn.Kinds.{res_t, ended_of, Dens}
use denote.Triple.Clauses.{AtExit}
use contract.Lifetimes.{Lfts}
use mathlib.Core.Path.{sym, ap, subst}
use Rattle.orbit.specs.Exact.{OrbitExact, TimingExact}
use Rattle.orbit.proofs.Structs.{orbit_exact, timing_exact}
use Rattle.ffi_orbit.specs.Handed.{orbit_in, timing_in}
use Rattle.ffi_orbit.proofs.dawnstook_get_orbit.Reads as get_orbit
use Rattle.ffi_orbit.proofs.dawnstook_get_orbit.Kinds as get_orbit_kinds
use Rattle.ffi_orbit.proofs.dawnstook_get_timing_numbers.Reads as get_timing
use Rattle.ffi_orbit.proofs.dawnstook_get_timing_numbers.Kinds as get_timing_kinds

pub dawnstook_get_orbit_exact :
    (κs : Lfts 1) (a : Dens κs get_orbit_kinds.ps) (r : (res_t get_orbit_kinds.r κs).Denot)
    (e : AtExit (ended_of 1 get_orbit_kinds.ps get_orbit_kinds.r) κs)
    → get_orbit.Post κs a r e
    → OrbitExact (orbit_in r)
dawnstook_get_orbit_exact κs a r e p = subst OrbitExact (sym (ap orbit_in p)) (orbit_exact _)

pub dawnstook_get_timing_numbers_exact :
    (κs : Lfts 1) (a : Dens κs get_timing_kinds.ps) (r : (res_t get_timing_kinds.r κs).Denot)
    (e : AtExit (ended_of 1 get_timing_kinds.ps get_timing_kinds.r) κs)
    → get_timing.Post κs a r e
    → TimingExact (timing_in r)
dawnstook_get_timing_numbers_exact κs a r e p = subst TimingExact (sym (ap timing_in p)) (timing_exact _)
