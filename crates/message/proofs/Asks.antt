-- No call asks anything of its caller: what each asks holds of all arguments. Assumes nothing.
use borrow.Fn.Kinds.{Dens}
use contract.Lifetimes.{Lfts}
use Rattle.message.proofs.build.Reads as build
use Rattle.message.proofs.build.Kinds as build_kinds
use Rattle.message.proofs.read.Reads as read
use Rattle.message.proofs.read.Kinds as read_kinds

pub build_asks_nothing : (κs : Lfts 2) (a : Dens κs build_kinds.ps) → build.Asked κs a
build_asks_nothing κs a = tt

pub read_asks_nothing : (κs : Lfts 2) (a : Dens κs read_kinds.ps) → read.Asked κs a
read_asks_nothing κs a = tt
