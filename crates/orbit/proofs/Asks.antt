-- No call asks anything of its caller: what each asks holds of all arguments. Assumes nothing.
use borrow.Fn.Kinds.{Dens}
use contract.Lifetimes.{Lfts}
use Rattle.orbit.proofs.get_orbit.Reads as get_orbit
use Rattle.orbit.proofs.get_orbit.Kinds as get_orbit_kinds
use Rattle.orbit.proofs.get_timing_numbers.Reads as get_timing_numbers
use Rattle.orbit.proofs.get_timing_numbers.Kinds as get_timing_numbers_kinds

pub get_orbit_asks_nothing : (κs : Lfts 1) (a : Dens κs get_orbit_kinds.ps) → get_orbit.Asked κs a
get_orbit_asks_nothing κs a = tt

pub get_timing_numbers_asks_nothing : (κs : Lfts 1) (a : Dens κs get_timing_numbers_kinds.ps) → get_timing_numbers.Asked κs a
get_timing_numbers_asks_nothing κs a = tt
