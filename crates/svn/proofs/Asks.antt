-- No call asks anything of its caller: what each asks holds of all arguments. Assumes nothing.
use borrow.Fn.Kinds.{Dens}
use contract.Lifetimes.{Lfts}
use Rattle.svn.proofs.SvnTryFromU8.try_from.Reads as try_from
use Rattle.svn.proofs.SvnTryFromU8.try_from.Kinds as try_from_kinds
use Rattle.svn.proofs.Svn.is_satellite.Reads as is-satellite
use Rattle.svn.proofs.Svn.is_satellite.Kinds as is_satellite_kinds
use Rattle.svn.proofs.Svn.letters.Reads as letters
use Rattle.svn.proofs.Svn.letters.Kinds as letters_kinds

pub try_from_asks_nothing : (κs : Lfts 0) (a : Dens κs try_from_kinds.ps) → try_from.Asked κs a
try_from_asks_nothing κs a = tt

pub is_satellite_asks_nothing : (κs : Lfts 0) (a : Dens κs is_satellite_kinds.ps) → is-satellite.Asked κs a
is_satellite_asks_nothing κs a = tt

pub letters_asks_nothing : (κs : Lfts 0) (a : Dens κs letters_kinds.ps) → letters.Asked κs a
letters_asks_nothing κs a = tt
