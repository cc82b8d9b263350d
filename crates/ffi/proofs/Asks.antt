-- No call asks anything of its caller: what each asks holds of all arguments. Assumes nothing.
use borrow.Fn.Kinds.{Dens}
use contract.Lifetimes.{Lfts}
use Rattle.ffi.proofs.dawnstook_room_size.Reads as room-size
use Rattle.ffi.proofs.dawnstook_room_size.Kinds as room_size_kinds
use Rattle.ffi.proofs.dawnstook_fresh.Reads as fresh
use Rattle.ffi.proofs.dawnstook_fresh.Kinds as fresh_kinds
use Rattle.ffi.proofs.dawnstook_feed.Reads as feed
use Rattle.ffi.proofs.dawnstook_feed.Kinds as feed_kinds
use Rattle.ffi.proofs.dawnstook_tag.Reads as tag
use Rattle.ffi.proofs.dawnstook_tag.Kinds as tag_kinds
use Rattle.ffi.proofs.dawnstook_candidate.Reads as candidate
use Rattle.ffi.proofs.dawnstook_candidate.Kinds as candidate_kinds
use Rattle.ffi.proofs.dawnstook_get_ced_and_status.Reads as get_ced_and_status
use Rattle.ffi.proofs.dawnstook_get_ced_and_status.Kinds as get_ced_and_status_kinds
use Rattle.ffi.proofs.dawnstook_get_timing_parameters.Reads as get_timing_parameters
use Rattle.ffi.proofs.dawnstook_get_timing_parameters.Kinds as get_timing_parameters_kinds
use Rattle.ffi.proofs.dawnstook_reset_authbits.Reads as reset_authbits
use Rattle.ffi.proofs.dawnstook_reset_authbits.Kinds as reset_authbits_kinds
use Rattle.ffi.proofs.dawnstook_add_seconds.Reads as add-seconds
use Rattle.ffi.proofs.dawnstook_add_seconds.Kinds as add_seconds_kinds
use Rattle.ffi.proofs.dawnstook_add_subframes.Reads as add-subframes
use Rattle.ffi.proofs.dawnstook_add_subframes.Kinds as add_subframes_kinds
use Rattle.ffi.proofs.dawnstook_gst_subframe.Reads as gst_subframe
use Rattle.ffi.proofs.dawnstook_gst_subframe.Kinds as gst_subframe_kinds
use Rattle.ffi.proofs.dawnstook_is_subframe.Reads as is-subframe
use Rattle.ffi.proofs.dawnstook_is_subframe.Kinds as is_subframe_kinds
use Rattle.ffi.proofs.dawnstook_subframes_difference.Reads as subframes_difference
use Rattle.ffi.proofs.dawnstook_subframes_difference.Kinds as subframes_difference_kinds

pub room_size_asks_nothing : (κs : Lfts 0) (a : Dens κs room_size_kinds.ps) → room-size.Asked κs a
room_size_asks_nothing κs a = tt

pub fresh_asks_nothing : (κs : Lfts 1) (a : Dens κs fresh_kinds.ps) → fresh.Asked κs a
fresh_asks_nothing κs a = tt

pub feed_asks_nothing : (κs : Lfts 2) (a : Dens κs feed_kinds.ps) → feed.Asked κs a
feed_asks_nothing κs a = tt

pub tag_asks_nothing : (κs : Lfts 2) (a : Dens κs tag_kinds.ps) → tag.Asked κs a
tag_asks_nothing κs a = tt

pub candidate_asks_nothing : (κs : Lfts 1) (a : Dens κs candidate_kinds.ps) → candidate.Asked κs a
candidate_asks_nothing κs a = tt

pub get_ced_and_status_asks_nothing : (κs : Lfts 1) (a : Dens κs get_ced_and_status_kinds.ps) → get_ced_and_status.Asked κs a
get_ced_and_status_asks_nothing κs a = tt

pub get_timing_parameters_asks_nothing : (κs : Lfts 1) (a : Dens κs get_timing_parameters_kinds.ps) → get_timing_parameters.Asked κs a
get_timing_parameters_asks_nothing κs a = tt

pub reset_authbits_asks_nothing : (κs : Lfts 1) (a : Dens κs reset_authbits_kinds.ps) → reset_authbits.Asked κs a
reset_authbits_asks_nothing κs a = tt

pub add_seconds_asks_nothing : (κs : Lfts 0) (a : Dens κs add_seconds_kinds.ps) → add-seconds.Asked κs a
add_seconds_asks_nothing κs a = tt

pub add_subframes_asks_nothing : (κs : Lfts 0) (a : Dens κs add_subframes_kinds.ps) → add-subframes.Asked κs a
add_subframes_asks_nothing κs a = tt

pub gst_subframe_asks_nothing : (κs : Lfts 0) (a : Dens κs gst_subframe_kinds.ps) → gst_subframe.Asked κs a
gst_subframe_asks_nothing κs a = tt

pub is_subframe_asks_nothing : (κs : Lfts 0) (a : Dens κs is_subframe_kinds.ps) → is-subframe.Asked κs a
is_subframe_asks_nothing κs a = tt

pub subframes_difference_asks_nothing : (κs : Lfts 0) (a : Dens κs subframes_difference_kinds.ps) → subframes_difference.Asked κs a
subframes_difference_asks_nothing κs a = tt
