-- Each promise is tight: two answers that a contract permits are equal.
use mathlib.Core.Path.{◌≡◌, refl, sym, ◌∙◌}
use mathlib.Core.Bool.{Bool, true, false, not}
use borrow.Fn.Kinds.{res_t, ended_of, Dens}
use denote.Triple.Clauses.{AtExit}
use contract.Lifetimes.{Lfts}
use Rattle.gst.proofs.OneToOne.{same_time, new_time_one, start_one, apart_one}
use Rattle.gst.proofs.tow_too_large.Reads as tow_too_large_reads
use Rattle.gst.proofs.tow_too_large.Kinds as tow_too_large_kinds
use Rattle.gst.proofs.not_a_start.Reads as not_a_start_reads
use Rattle.gst.proofs.not_a_start.Kinds as not_a_start_kinds
use Rattle.gst.proofs.subframe_at.Reads as subframe_at_reads
use Rattle.gst.proofs.subframe_at.Kinds as subframe_at_kinds
use Rattle.gst.proofs.Gst.new.Reads as new_reads
use Rattle.gst.proofs.Gst.new.Kinds as new_kinds
use Rattle.gst.proofs.Gst.add_seconds.Reads as add_seconds_reads
use Rattle.gst.proofs.Gst.add_seconds.Kinds as add_seconds_kinds
use Rattle.gst.proofs.Gst.add_subframes.Reads as add_subframes_reads
use Rattle.gst.proofs.Gst.add_subframes.Kinds as add_subframes_kinds
use Rattle.gst.proofs.Gst.gst_subframe.Reads as gst_subframe_reads
use Rattle.gst.proofs.Gst.gst_subframe.Kinds as gst_subframe_kinds
use Rattle.gst.proofs.Gst.is_subframe.Reads as is_subframe_reads
use Rattle.gst.proofs.Gst.is_subframe.Kinds as is_subframe_kinds
use Rattle.gst.proofs.Gst.subframes_difference.Reads as subframes_difference_reads
use Rattle.gst.proofs.Gst.subframes_difference.Kinds as subframes_difference_kinds
use Rattle.gst.proofs.ResultGstRefusalChained.add_seconds.Reads as chained_add_seconds_reads
use Rattle.gst.proofs.ResultGstRefusalChained.add_seconds.Kinds as chained_add_seconds_kinds
use Rattle.gst.proofs.ResultGstRefusalChained.add_subframes.Reads as chained_add_subframes_reads
use Rattle.gst.proofs.ResultGstRefusalChained.add_subframes.Kinds as chained_add_subframes_kinds
use Rattle.gst.proofs.ResultGstRefusalChained.gst_subframe.Reads as chained_gst_subframe_reads
use Rattle.gst.proofs.ResultGstRefusalChained.gst_subframe.Kinds as chained_gst_subframe_kinds

-- a test that says the opposite of what the paper's says
opposite : (b b' : Bool) → not b ≡ not b' → b ≡ b'
opposite true true e = refl
opposite true false e = sym e
opposite false true e = sym e
opposite false false e = refl

pub tow_too_large_determined :
    (κs : Lfts 0)
    (a : Dens κs tow_too_large_kinds.ps)
    (r r' : (res_t tow_too_large_kinds.r κs).Denot)
    (e e' : AtExit (ended_of 0 tow_too_large_kinds.ps tow_too_large_kinds.r) κs)
    → tow_too_large_reads.Post κs a r e → tow_too_large_reads.Post κs a r' e' → r ≡ r'
tow_too_large_determined κs a r r' e e' p q = opposite r r' (p ∙ sym q)

pub not_a_start_determined :
    (κs : Lfts 0)
    (a : Dens κs not_a_start_kinds.ps)
    (r r' : (res_t not_a_start_kinds.r κs).Denot)
    (e e' : AtExit (ended_of 0 not_a_start_kinds.ps not_a_start_kinds.r) κs)
    → not_a_start_reads.Post κs a r e → not_a_start_reads.Post κs a r' e' → r ≡ r'
not_a_start_determined κs a r r' e e' p q = opposite r r' (p ∙ sym q)

pub subframe_at_determined :
    (κs : Lfts 0)
    (a : Dens κs subframe_at_kinds.ps)
    (r r' : (res_t subframe_at_kinds.r κs).Denot)
    (e e' : AtExit (ended_of 0 subframe_at_kinds.ps subframe_at_kinds.r) κs)
    → subframe_at_reads.Post κs a r e → subframe_at_reads.Post κs a r' e' → r ≡ r'
subframe_at_determined κs a r r' e e' p q = p ∙ sym q

pub new_determined :
    (κs : Lfts 0)
    (a : Dens κs new_kinds.ps)
    (r r' : (res_t new_kinds.r κs).Denot)
    (e e' : AtExit (ended_of 0 new_kinds.ps new_kinds.r) κs)
    → new_reads.Post κs a r e → new_reads.Post κs a r' e' → r ≡ r'
new_determined κs a r r' e e' p q = same_time r r' (p.0 ∙ sym q.0) (p.1 ∙ sym q.1)

pub add_seconds_determined :
    (κs : Lfts 0)
    (a : Dens κs add_seconds_kinds.ps)
    (r r' : (res_t add_seconds_kinds.r κs).Denot)
    (e e' : AtExit (ended_of 0 add_seconds_kinds.ps add_seconds_kinds.r) κs)
    → add_seconds_reads.Post κs a r e → add_seconds_reads.Post κs a r' e' → r ≡ r'
add_seconds_determined κs a r r' e e' p q = new_time_one r r' (p ∙ sym q)

pub add_subframes_determined :
    (κs : Lfts 0)
    (a : Dens κs add_subframes_kinds.ps)
    (r r' : (res_t add_subframes_kinds.r κs).Denot)
    (e e' : AtExit (ended_of 0 add_subframes_kinds.ps add_subframes_kinds.r) κs)
    → add_subframes_reads.Post κs a r e → add_subframes_reads.Post κs a r' e' → r ≡ r'
add_subframes_determined κs a r r' e e' p q = new_time_one r r' (p ∙ sym q)

pub gst_subframe_determined :
    (κs : Lfts 0)
    (a : Dens κs gst_subframe_kinds.ps)
    (r r' : (res_t gst_subframe_kinds.r κs).Denot)
    (e e' : AtExit (ended_of 0 gst_subframe_kinds.ps gst_subframe_kinds.r) κs)
    → gst_subframe_reads.Post κs a r e → gst_subframe_reads.Post κs a r' e' → r ≡ r'
gst_subframe_determined κs a r r' e e' p q = new_time_one r r' (p ∙ sym q)

pub is_subframe_determined :
    (κs : Lfts 0)
    (a : Dens κs is_subframe_kinds.ps)
    (r r' : (res_t is_subframe_kinds.r κs).Denot)
    (e e' : AtExit (ended_of 0 is_subframe_kinds.ps is_subframe_kinds.r) κs)
    → is_subframe_reads.Post κs a r e → is_subframe_reads.Post κs a r' e' → r ≡ r'
is_subframe_determined κs a r r' e e' p q = start_one r r' (p ∙ sym q)

pub subframes_difference_determined :
    (κs : Lfts 0)
    (a : Dens κs subframes_difference_kinds.ps)
    (r r' : (res_t subframes_difference_kinds.r κs).Denot)
    (e e' : AtExit (ended_of 0 subframes_difference_kinds.ps subframes_difference_kinds.r) κs)
    → subframes_difference_reads.Post κs a r e → subframes_difference_reads.Post κs a r' e' → r ≡ r'
subframes_difference_determined κs a r r' e e' p q = apart_one r r' (p ∙ sym q)

-- the calls on an answer
pub chained_add_seconds_determined :
    (κs : Lfts 0)
    (a : Dens κs chained_add_seconds_kinds.ps)
    (r r' : (res_t chained_add_seconds_kinds.r κs).Denot)
    (e e' : AtExit (ended_of 0 chained_add_seconds_kinds.ps chained_add_seconds_kinds.r) κs)
    → chained_add_seconds_reads.Post κs a r e → chained_add_seconds_reads.Post κs a r' e' → r ≡ r'
chained_add_seconds_determined κs a r r' e e' p q = new_time_one r r' (p ∙ sym q)

pub chained_add_subframes_determined :
    (κs : Lfts 0)
    (a : Dens κs chained_add_subframes_kinds.ps)
    (r r' : (res_t chained_add_subframes_kinds.r κs).Denot)
    (e e' : AtExit (ended_of 0 chained_add_subframes_kinds.ps chained_add_subframes_kinds.r) κs)
    → chained_add_subframes_reads.Post κs a r e → chained_add_subframes_reads.Post κs a r' e' → r ≡ r'
chained_add_subframes_determined κs a r r' e e' p q = new_time_one r r' (p ∙ sym q)

pub chained_gst_subframe_determined :
    (κs : Lfts 0)
    (a : Dens κs chained_gst_subframe_kinds.ps)
    (r r' : (res_t chained_gst_subframe_kinds.r κs).Denot)
    (e e' : AtExit (ended_of 0 chained_gst_subframe_kinds.ps chained_gst_subframe_kinds.r) κs)
    → chained_gst_subframe_reads.Post κs a r e → chained_gst_subframe_reads.Post κs a r' e' → r ≡ r'
chained_gst_subframe_determined κs a r r' e e' p q = new_time_one r r' (p ∙ sym q)
