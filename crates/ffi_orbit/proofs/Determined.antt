-- Two outcomes that an export's contract permits are equal, every number and the doubles by their bits. Assumes nothing.
use borrow.Fn.Kinds.{res_t, ended_of, Dens}
use denote.Triple.Clauses.{AtExit}
use contract.Lifetimes.{Lfts}
use mathlib.Core.Path.{◌≡◌, sym, ◌∙◌}
use Rattle.ffi_orbit.proofs.dawnstook_get_orbit.Reads as get_orbit
use Rattle.ffi_orbit.proofs.dawnstook_get_orbit.Kinds as get_orbit_kinds
use Rattle.ffi_orbit.proofs.dawnstook_get_timing_numbers.Reads as get_timing
use Rattle.ffi_orbit.proofs.dawnstook_get_timing_numbers.Kinds as get_timing_kinds

pub dawnstook_get_orbit_determined :
    (κs : Lfts 1) (a : Dens κs get_orbit_kinds.ps) (r r' : (res_t get_orbit_kinds.r κs).Denot)
    (e e' : AtExit (ended_of 1 get_orbit_kinds.ps get_orbit_kinds.r) κs)
    → get_orbit.Post κs a r e → get_orbit.Post κs a r' e'
    → r ≡ r'
dawnstook_get_orbit_determined κs a r r' e e' p q = p ∙ sym q

pub dawnstook_get_timing_numbers_determined :
    (κs : Lfts 1) (a : Dens κs get_timing_kinds.ps) (r r' : (res_t get_timing_kinds.r κs).Denot)
    (e e' : AtExit (ended_of 1 get_timing_kinds.ps get_timing_kinds.r) κs)
    → get_timing.Post κs a r e → get_timing.Post κs a r' e'
    → r ≡ r'
dawnstook_get_timing_numbers_determined κs a r r' e e' p q = p ∙ sym q
