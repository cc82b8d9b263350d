-- The promises of reading numbers are tight: two outcomes that a contract permits are equal, the doubles among them by their bits.
-- Assumes nothing.
use borrow.Fn.Kinds.{res_t, ended_of, Dens}
use denote.Triple.Clauses.{AtExit}
use contract.Lifetimes.{Lfts}
use mathlib.Core.Path.{◌≡◌, sym, ◌∙◌}
use Rattle.orbit.proofs.OneToOne.{placed_one, orbit_one, timing_one}
use Rattle.orbit.proofs.orbit_of.Reads as orbit_of
use Rattle.orbit.proofs.orbit_of.Kinds as orbit_of_kinds
use Rattle.orbit.proofs.timing_of.Reads as timing_of
use Rattle.orbit.proofs.timing_of.Kinds as timing_of_kinds
use Rattle.orbit.proofs.place.Reads as place
use Rattle.orbit.proofs.place.Kinds as place_kinds
use Rattle.orbit.proofs.get_orbit.Reads as get_orbit
use Rattle.orbit.proofs.get_orbit.Kinds as get_orbit_kinds
use Rattle.orbit.proofs.get_timing_numbers.Reads as get_timing_numbers
use Rattle.orbit.proofs.get_timing_numbers.Kinds as get_timing_numbers_kinds

pub orbit_of_determined :
    (κs : Lfts 1) (a : Dens κs orbit_of_kinds.ps) (r r' : (res_t orbit_of_kinds.r κs).Denot)
    (e e' : AtExit (ended_of 1 orbit_of_kinds.ps orbit_of_kinds.r) κs)
    → orbit_of.Post κs a r e → orbit_of.Post κs a r' e'
    → r ≡ r'
orbit_of_determined κs a r r' e e' p q = p ∙ sym q

pub timing_of_determined :
    (κs : Lfts 1) (a : Dens κs timing_of_kinds.ps) (r r' : (res_t timing_of_kinds.r κs).Denot)
    (e e' : AtExit (ended_of 1 timing_of_kinds.ps timing_of_kinds.r) κs)
    → timing_of.Post κs a r e → timing_of.Post κs a r' e'
    → r ≡ r'
timing_of_determined κs a r r' e e' p q = p ∙ sym q

pub place_determined :
    (κs : Lfts 1) (a : Dens κs place_kinds.ps) (r r' : (res_t place_kinds.r κs).Denot)
    (e e' : AtExit (ended_of 1 place_kinds.ps place_kinds.r) κs)
    → place.Post κs a r e → place.Post κs a r' e'
    → r ≡ r'
place_determined κs a r r' e e' p q = placed_one r r' (p.0 ∙ sym q.0) (p.1 ∙ sym q.1)

pub get_orbit_determined :
    (κs : Lfts 1) (a : Dens κs get_orbit_kinds.ps) (r r' : (res_t get_orbit_kinds.r κs).Denot)
    (e e' : AtExit (ended_of 1 get_orbit_kinds.ps get_orbit_kinds.r) κs)
    → get_orbit.Post κs a r e → get_orbit.Post κs a r' e'
    → r ≡ r'
get_orbit_determined κs a r r' e e' p q = orbit_one r r' (p.0 ∙ sym q.0) (p.1 ∙ sym q.1)

pub get_timing_numbers_determined :
    (κs : Lfts 1) (a : Dens κs get_timing_numbers_kinds.ps) (r r' : (res_t get_timing_numbers_kinds.r κs).Denot)
    (e e' : AtExit (ended_of 1 get_timing_numbers_kinds.ps get_timing_numbers_kinds.r) κs)
    → get_timing_numbers.Post κs a r e → get_timing_numbers.Post κs a r' e'
    → r ≡ r'
get_timing_numbers_determined κs a r r' e e' p q = timing_one r r' (p.0 ∙ sym q.0) (p.1 ∙ sym q.1)
