-- Neither call asks anything of its caller: what each asks holds of all arguments. Assumes nothing.
use borrow.Fn.Kinds.{Dens}
use contract.Lifetimes.{Lfts}
use Rattle.ffi_intake.proofs.dawnstook_part.Reads as part
use Rattle.ffi_intake.proofs.dawnstook_part.Kinds as part_kinds
use Rattle.ffi_intake.proofs.dawnstook_end.Reads as end
use Rattle.ffi_intake.proofs.dawnstook_end.Kinds as end_kinds

pub part_asks_nothing : (κs : Lfts 4) (a : Dens κs part_kinds.ps) → part.Asked κs a
part_asks_nothing κs a = tt

pub end_asks_nothing : (κs : Lfts 3) (a : Dens κs end_kinds.ps) → end.Asked κs a
end_asks_nothing κs a = tt
