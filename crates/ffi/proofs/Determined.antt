-- Each export's promise is tight: two outcomes that its contract permits are equal, what it hands back and the room.
use mathlib.Core.Path.{◌≡◌, sym, ◌∙◌}
use borrow.Fn.Kinds.{res_t, ended_of, Dens}
use denote.Triple.Clauses.{AtExit}
use contract.Lifetimes.{Lfts}
use Rattle.ffi.proofs.TakenFromResultU32Refusal.from.Reads as taken_reads
use Rattle.ffi.proofs.TakenFromResultU32Refusal.from.Kinds as taken_kinds
use Rattle.ffi.proofs.MomentFromResultGstRefusal.from.Reads as moment_reads
use Rattle.ffi.proofs.MomentFromResultGstRefusal.from.Kinds as moment_kinds
use Rattle.ffi.proofs.MarkFromResultBoolRefusal.from.Reads as mark_reads
use Rattle.ffi.proofs.MarkFromResultBoolRefusal.from.Kinds as mark_kinds
use Rattle.ffi.proofs.SpanFromResultI32Refusal.from.Reads as span_reads
use Rattle.ffi.proofs.SpanFromResultI32Refusal.from.Kinds as span_kinds
use Rattle.ffi.proofs.dawnstook_room_size.Reads as dawnstook_room_size_reads
use Rattle.ffi.proofs.dawnstook_room_size.Kinds as dawnstook_room_size_kinds
use Rattle.ffi.proofs.dawnstook_fresh.Reads as dawnstook_fresh_reads
use Rattle.ffi.proofs.dawnstook_fresh.Kinds as dawnstook_fresh_kinds
use Rattle.ffi.proofs.dawnstook_feed.Reads as dawnstook_feed_reads
use Rattle.ffi.proofs.dawnstook_feed.Kinds as dawnstook_feed_kinds
use Rattle.ffi.proofs.dawnstook_tag.Reads as dawnstook_tag_reads
use Rattle.ffi.proofs.dawnstook_tag.Kinds as dawnstook_tag_kinds
use Rattle.ffi.proofs.dawnstook_candidate.Reads as dawnstook_candidate_reads
use Rattle.ffi.proofs.dawnstook_candidate.Kinds as dawnstook_candidate_kinds
use Rattle.ffi.proofs.dawnstook_get_ced_and_status.Reads as dawnstook_get_ced_and_status_reads
use Rattle.ffi.proofs.dawnstook_get_ced_and_status.Kinds as dawnstook_get_ced_and_status_kinds
use Rattle.ffi.proofs.dawnstook_get_timing_parameters.Reads as dawnstook_get_timing_parameters_reads
use Rattle.ffi.proofs.dawnstook_get_timing_parameters.Kinds as dawnstook_get_timing_parameters_kinds
use Rattle.ffi.proofs.dawnstook_reset_authbits.Reads as dawnstook_reset_authbits_reads
use Rattle.ffi.proofs.dawnstook_reset_authbits.Kinds as dawnstook_reset_authbits_kinds
use Rattle.ffi.proofs.dawnstook_add_seconds.Reads as dawnstook_add_seconds_reads
use Rattle.ffi.proofs.dawnstook_add_seconds.Kinds as dawnstook_add_seconds_kinds
use Rattle.ffi.proofs.dawnstook_add_subframes.Reads as dawnstook_add_subframes_reads
use Rattle.ffi.proofs.dawnstook_add_subframes.Kinds as dawnstook_add_subframes_kinds
use Rattle.ffi.proofs.dawnstook_gst_subframe.Reads as dawnstook_gst_subframe_reads
use Rattle.ffi.proofs.dawnstook_gst_subframe.Kinds as dawnstook_gst_subframe_kinds
use Rattle.ffi.proofs.dawnstook_is_subframe.Reads as dawnstook_is_subframe_reads
use Rattle.ffi.proofs.dawnstook_is_subframe.Kinds as dawnstook_is_subframe_kinds
use Rattle.ffi.proofs.dawnstook_subframes_difference.Reads as dawnstook_subframes_difference_reads
use Rattle.ffi.proofs.dawnstook_subframes_difference.Kinds as dawnstook_subframes_difference_kinds

pub dawnstook_room_size_determined :
    (κs : Lfts 0)
    (a : Dens κs dawnstook_room_size_kinds.ps)
    (r r' : (res_t dawnstook_room_size_kinds.r κs).Denot)
    (e e' : AtExit (ended_of 0 dawnstook_room_size_kinds.ps dawnstook_room_size_kinds.r) κs)
    → dawnstook_room_size_reads.Post κs a r e → dawnstook_room_size_reads.Post κs a r' e' → r ≡ r'
dawnstook_room_size_determined κs a r r' e e' p q = p ∙ sym q

pub dawnstook_fresh_determined :
    (κs : Lfts 1)
    (a : Dens κs dawnstook_fresh_kinds.ps)
    (r r' : (res_t dawnstook_fresh_kinds.r κs).Denot)
    (e e' : AtExit (ended_of 1 dawnstook_fresh_kinds.ps dawnstook_fresh_kinds.r) κs)
    → dawnstook_fresh_reads.Post κs a r e → dawnstook_fresh_reads.Post κs a r' e' → (r ≡ r') × (e.0.now ≡ e'.0.now)
dawnstook_fresh_determined κs a r r' e e' p q = (p.0 ∙ sym q.0, p.1 ∙ sym q.1)

pub dawnstook_feed_determined :
    (κs : Lfts 2)
    (a : Dens κs dawnstook_feed_kinds.ps)
    (r r' : (res_t dawnstook_feed_kinds.r κs).Denot)
    (e e' : AtExit (ended_of 2 dawnstook_feed_kinds.ps dawnstook_feed_kinds.r) κs)
    → dawnstook_feed_reads.Post κs a r e → dawnstook_feed_reads.Post κs a r' e' → (r ≡ r') × (e.0.now ≡ e'.0.now)
dawnstook_feed_determined κs a r r' e e' p q = (p.0 ∙ sym q.0, p.1 ∙ sym q.1)

pub dawnstook_tag_determined :
    (κs : Lfts 2)
    (a : Dens κs dawnstook_tag_kinds.ps)
    (r r' : (res_t dawnstook_tag_kinds.r κs).Denot)
    (e e' : AtExit (ended_of 2 dawnstook_tag_kinds.ps dawnstook_tag_kinds.r) κs)
    → dawnstook_tag_reads.Post κs a r e → dawnstook_tag_reads.Post κs a r' e' → (r ≡ r') × (e.0.now ≡ e'.0.now)
dawnstook_tag_determined κs a r r' e e' p q = (p.0 ∙ sym q.0, p.1 ∙ sym q.1)

pub dawnstook_candidate_determined :
    (κs : Lfts 1)
    (a : Dens κs dawnstook_candidate_kinds.ps)
    (r r' : (res_t dawnstook_candidate_kinds.r κs).Denot)
    (e e' : AtExit (ended_of 1 dawnstook_candidate_kinds.ps dawnstook_candidate_kinds.r) κs)
    → dawnstook_candidate_reads.Post κs a r e → dawnstook_candidate_reads.Post κs a r' e' → r ≡ r'
dawnstook_candidate_determined κs a r r' e e' p q = p.0 ∙ sym q.0

pub dawnstook_get_ced_and_status_determined :
    (κs : Lfts 1)
    (a : Dens κs dawnstook_get_ced_and_status_kinds.ps)
    (r r' : (res_t dawnstook_get_ced_and_status_kinds.r κs).Denot)
    (e e' : AtExit (ended_of 1 dawnstook_get_ced_and_status_kinds.ps dawnstook_get_ced_and_status_kinds.r) κs)
    → dawnstook_get_ced_and_status_reads.Post κs a r e → dawnstook_get_ced_and_status_reads.Post κs a r' e' → r ≡ r'
dawnstook_get_ced_and_status_determined κs a r r' e e' p q = p.0 ∙ sym q.0

pub dawnstook_get_timing_parameters_determined :
    (κs : Lfts 1)
    (a : Dens κs dawnstook_get_timing_parameters_kinds.ps)
    (r r' : (res_t dawnstook_get_timing_parameters_kinds.r κs).Denot)
    (e e' : AtExit (ended_of 1 dawnstook_get_timing_parameters_kinds.ps dawnstook_get_timing_parameters_kinds.r) κs)
    → dawnstook_get_timing_parameters_reads.Post κs a r e → dawnstook_get_timing_parameters_reads.Post κs a r' e' → r ≡ r'
dawnstook_get_timing_parameters_determined κs a r r' e e' p q = p.0 ∙ sym q.0

pub dawnstook_reset_authbits_determined :
    (κs : Lfts 1)
    (a : Dens κs dawnstook_reset_authbits_kinds.ps)
    (r r' : (res_t dawnstook_reset_authbits_kinds.r κs).Denot)
    (e e' : AtExit (ended_of 1 dawnstook_reset_authbits_kinds.ps dawnstook_reset_authbits_kinds.r) κs)
    → dawnstook_reset_authbits_reads.Post κs a r e → dawnstook_reset_authbits_reads.Post κs a r' e' → (r ≡ r') × (e.0.now ≡ e'.0.now)
dawnstook_reset_authbits_determined κs a r r' e e' p q = (p.0 ∙ sym q.0, p.1 ∙ sym q.1)

pub dawnstook_add_seconds_determined :
    (κs : Lfts 0)
    (a : Dens κs dawnstook_add_seconds_kinds.ps)
    (r r' : (res_t dawnstook_add_seconds_kinds.r κs).Denot)
    (e e' : AtExit (ended_of 0 dawnstook_add_seconds_kinds.ps dawnstook_add_seconds_kinds.r) κs)
    → dawnstook_add_seconds_reads.Post κs a r e → dawnstook_add_seconds_reads.Post κs a r' e' → r ≡ r'
dawnstook_add_seconds_determined κs a r r' e e' p q = p ∙ sym q

pub dawnstook_add_subframes_determined :
    (κs : Lfts 0)
    (a : Dens κs dawnstook_add_subframes_kinds.ps)
    (r r' : (res_t dawnstook_add_subframes_kinds.r κs).Denot)
    (e e' : AtExit (ended_of 0 dawnstook_add_subframes_kinds.ps dawnstook_add_subframes_kinds.r) κs)
    → dawnstook_add_subframes_reads.Post κs a r e → dawnstook_add_subframes_reads.Post κs a r' e' → r ≡ r'
dawnstook_add_subframes_determined κs a r r' e e' p q = p ∙ sym q

pub dawnstook_gst_subframe_determined :
    (κs : Lfts 0)
    (a : Dens κs dawnstook_gst_subframe_kinds.ps)
    (r r' : (res_t dawnstook_gst_subframe_kinds.r κs).Denot)
    (e e' : AtExit (ended_of 0 dawnstook_gst_subframe_kinds.ps dawnstook_gst_subframe_kinds.r) κs)
    → dawnstook_gst_subframe_reads.Post κs a r e → dawnstook_gst_subframe_reads.Post κs a r' e' → r ≡ r'
dawnstook_gst_subframe_determined κs a r r' e e' p q = p ∙ sym q

pub dawnstook_is_subframe_determined :
    (κs : Lfts 0)
    (a : Dens κs dawnstook_is_subframe_kinds.ps)
    (r r' : (res_t dawnstook_is_subframe_kinds.r κs).Denot)
    (e e' : AtExit (ended_of 0 dawnstook_is_subframe_kinds.ps dawnstook_is_subframe_kinds.r) κs)
    → dawnstook_is_subframe_reads.Post κs a r e → dawnstook_is_subframe_reads.Post κs a r' e' → r ≡ r'
dawnstook_is_subframe_determined κs a r r' e e' p q = p ∙ sym q

pub dawnstook_subframes_difference_determined :
    (κs : Lfts 0)
    (a : Dens κs dawnstook_subframes_difference_kinds.ps)
    (r r' : (res_t dawnstook_subframes_difference_kinds.r κs).Denot)
    (e e' : AtExit (ended_of 0 dawnstook_subframes_difference_kinds.ps dawnstook_subframes_difference_kinds.r) κs)
    → dawnstook_subframes_difference_reads.Post κs a r e → dawnstook_subframes_difference_reads.Post κs a r' e' → r ≡ r'
dawnstook_subframes_difference_determined κs a r r' e e' p q = p ∙ sym q

pub taken_determined :
    (κs : Lfts 0) (a : Dens κs taken_kinds.ps) (r r' : (res_t taken_kinds.r κs).Denot)
    (e e' : AtExit (ended_of 0 taken_kinds.ps taken_kinds.r) κs)
    → taken_reads.Post κs a r e → taken_reads.Post κs a r' e' → r ≡ r'
taken_determined κs a r r' e e' p q = p ∙ sym q

pub moment_determined :
    (κs : Lfts 0) (a : Dens κs moment_kinds.ps) (r r' : (res_t moment_kinds.r κs).Denot)
    (e e' : AtExit (ended_of 0 moment_kinds.ps moment_kinds.r) κs)
    → moment_reads.Post κs a r e → moment_reads.Post κs a r' e' → r ≡ r'
moment_determined κs a r r' e e' p q = p ∙ sym q

pub mark_determined :
    (κs : Lfts 0) (a : Dens κs mark_kinds.ps) (r r' : (res_t mark_kinds.r κs).Denot)
    (e e' : AtExit (ended_of 0 mark_kinds.ps mark_kinds.r) κs)
    → mark_reads.Post κs a r e → mark_reads.Post κs a r' e' → r ≡ r'
mark_determined κs a r r' e e' p q = p ∙ sym q

pub span_determined :
    (κs : Lfts 0) (a : Dens κs span_kinds.ps) (r r' : (res_t span_kinds.r κs).Denot)
    (e e' : AtExit (ended_of 0 span_kinds.ps span_kinds.r) κs)
    → span_reads.Post κs a r e → span_reads.Post κs a r' e' → r ≡ r'
span_determined κs a r r' e e' p q = p ∙ sym q
