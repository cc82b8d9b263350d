-- No call asks anything of its caller: what each asks holds of all arguments. Assumes nothing.
use borrow.Fn.Kinds.{Dens}
use contract.Lifetimes.{Lfts}
use Rattle.navmessage.proofs.fresh.Reads as fresh
use Rattle.navmessage.proofs.fresh.Kinds as fresh_kinds
use Rattle.navmessage.proofs.feed.Reads as feed
use Rattle.navmessage.proofs.feed.Kinds as feed_kinds
use Rattle.navmessage.proofs.tag.Reads as tag
use Rattle.navmessage.proofs.tag.Kinds as tag_kinds
use Rattle.navmessage.proofs.candidate.Reads as candidate
use Rattle.navmessage.proofs.candidate.Kinds as candidate_kinds
use Rattle.navmessage.proofs.candidate_data.Reads as candidate-data
use Rattle.navmessage.proofs.candidate_data.Kinds as candidate_data_kinds
use Rattle.navmessage.proofs.get_ced_and_status.Reads as get_ced_and_status
use Rattle.navmessage.proofs.get_ced_and_status.Kinds as get_ced_and_status_kinds
use Rattle.navmessage.proofs.get_timing_parameters.Reads as get_timing_parameters
use Rattle.navmessage.proofs.get_timing_parameters.Kinds as get_timing_parameters_kinds
use Rattle.navmessage.proofs.ced_and_status_data.Reads as ced_and_status_data
use Rattle.navmessage.proofs.ced_and_status_data.Kinds as ced_and_status_data_kinds
use Rattle.navmessage.proofs.timing_parameters_data.Reads as timing_parameters_data
use Rattle.navmessage.proofs.timing_parameters_data.Kinds as timing_parameters_data_kinds
use Rattle.navmessage.proofs.reset_authbits.Reads as reset_authbits
use Rattle.navmessage.proofs.reset_authbits.Kinds as reset_authbits_kinds

pub fresh_asks_nothing : (κs : Lfts 1) (a : Dens κs fresh_kinds.ps) → fresh.Asked κs a
fresh_asks_nothing κs a = tt

pub feed_asks_nothing : (κs : Lfts 2) (a : Dens κs feed_kinds.ps) → feed.Asked κs a
feed_asks_nothing κs a = tt

pub tag_asks_nothing : (κs : Lfts 2) (a : Dens κs tag_kinds.ps) → tag.Asked κs a
tag_asks_nothing κs a = tt

pub candidate_asks_nothing : (κs : Lfts 1) (a : Dens κs candidate_kinds.ps) → candidate.Asked κs a
candidate_asks_nothing κs a = tt

pub candidate_data_asks_nothing : (κs : Lfts 1) (a : Dens κs candidate_data_kinds.ps) → candidate-data.Asked κs a
candidate_data_asks_nothing κs a = tt

pub get_ced_and_status_asks_nothing : (κs : Lfts 1) (a : Dens κs get_ced_and_status_kinds.ps) → get_ced_and_status.Asked κs a
get_ced_and_status_asks_nothing κs a = tt

pub get_timing_parameters_asks_nothing : (κs : Lfts 1) (a : Dens κs get_timing_parameters_kinds.ps) → get_timing_parameters.Asked κs a
get_timing_parameters_asks_nothing κs a = tt

pub ced_and_status_data_asks_nothing : (κs : Lfts 1) (a : Dens κs ced_and_status_data_kinds.ps) → ced_and_status_data.Asked κs a
ced_and_status_data_asks_nothing κs a = tt

pub timing_parameters_data_asks_nothing : (κs : Lfts 1) (a : Dens κs timing_parameters_data_kinds.ps) → timing_parameters_data.Asked κs a
timing_parameters_data_asks_nothing κs a = tt

pub reset_authbits_asks_nothing : (κs : Lfts 1) (a : Dens κs reset_authbits_kinds.ps) → reset_authbits.Asked κs a
reset_authbits_asks_nothing κs a = tt
