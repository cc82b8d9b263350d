-- No export asks anything of its caller: what each asks holds of all arguments. Assumes nothing.
use borrow.Fn.Kinds.{Dens}
use contract.Lifetimes.{Lfts}
use Rattle.ffi_message.proofs.dawnstook_build_message.Reads as build_message
use Rattle.ffi_message.proofs.dawnstook_build_message.Kinds as build_message_kinds
use Rattle.ffi_message.proofs.dawnstook_read_message.Reads as read_message
use Rattle.ffi_message.proofs.dawnstook_read_message.Kinds as read_message_kinds

pub build_message_asks_nothing : (κs : Lfts 2) (a : Dens κs build_message_kinds.ps) → build_message.Asked κs a
build_message_asks_nothing κs a = tt

pub read_message_asks_nothing : (κs : Lfts 2) (a : Dens κs read_message_kinds.ps) → read_message.Asked κs a
read_message_asks_nothing κs a = tt
