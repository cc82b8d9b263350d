-- The promises of the store's calls are tight: two outcomes that a contract permits are equal, refusals too. The answer is equal, the
-- room at exit where a call writes, and the elements of the part where it hands one out. Assumes nothing.
use borrow.Fn.Kinds.{res_t, ended_of, Dens}
use denote.Triple.Clauses.{AtExit}
use contract.Lifetimes.{Lfts}
use mathlib.Core.Path.{◌≡◌, sym, ◌∙◌}
use Rattle.refusals.proofs.Answers.{same_reply}
use Rattle.promises.proofs.Answers.{same_tagged, same_asked}
use Rattle.navmessage.proofs.fresh.Reads as fresh
use Rattle.navmessage.proofs.fresh.Kinds as fresh_kinds
use Rattle.navmessage.proofs.feed.Reads as feed
use Rattle.navmessage.proofs.feed.Kinds as feed_kinds
use Rattle.navmessage.proofs.tag.Reads as tag
use Rattle.navmessage.proofs.tag.Kinds as tag_kinds
use Rattle.navmessage.proofs.candidate.Reads as candidate
use Rattle.navmessage.proofs.candidate.Kinds as candidate_kinds
use Rattle.navmessage.proofs.candidate_data.Reads as candidate-data
use Rattle.navmessage.proofs.candidate_data.Kinds as candidate_data_kinds
use Rattle.navmessage.proofs.get_ced_and_status.Reads as get_ced_and_status
use Rattle.navmessage.proofs.get_ced_and_status.Kinds as get_ced_and_status_kinds
use Rattle.navmessage.proofs.get_timing_parameters.Reads as get_timing_parameters
use Rattle.navmessage.proofs.get_timing_parameters.Kinds as get_timing_parameters_kinds
use Rattle.navmessage.proofs.ced_and_status_data.Reads as ced_and_status_data
use Rattle.navmessage.proofs.ced_and_status_data.Kinds as ced_and_status_data_kinds
use Rattle.navmessage.proofs.timing_parameters_data.Reads as timing_parameters_data
use Rattle.navmessage.proofs.timing_parameters_data.Kinds as timing_parameters_data_kinds
use Rattle.navmessage.proofs.reset_authbits.Reads as reset_authbits
use Rattle.navmessage.proofs.reset_authbits.Kinds as reset_authbits_kinds

pub fresh_determined :
    (κs : Lfts 1) (a : Dens κs fresh_kinds.ps) (r r' : (res_t fresh_kinds.r κs).Denot)
    (e e' : AtExit (ended_of 1 fresh_kinds.ps fresh_kinds.r) κs)
    → fresh.Post κs a r e → fresh.Post κs a r' e'
    → (r ≡ r') × (e.0.now ≡ e'.0.now)
fresh_determined κs a r r' e e' p q = (same_reply r r' (p.0 ∙ sym q.0), p.1 ∙ sym q.1)

pub feed_determined :
    (κs : Lfts 2) (a : Dens κs feed_kinds.ps) (r r' : (res_t feed_kinds.r κs).Denot)
    (e e' : AtExit (ended_of 2 feed_kinds.ps feed_kinds.r) κs)
    → feed.Post κs a r e → feed.Post κs a r' e'
    → (r ≡ r') × (e.0.now ≡ e'.0.now)
feed_determined κs a r r' e e' p q = (same_reply r r' (p.0 ∙ sym q.0), p.1 ∙ sym q.1)

pub tag_determined :
    (κs : Lfts 2) (a : Dens κs tag_kinds.ps) (r r' : (res_t tag_kinds.r κs).Denot)
    (e e' : AtExit (ended_of 2 tag_kinds.ps tag_kinds.r) κs)
    → tag.Post κs a r e → tag.Post κs a r' e'
    → (r ≡ r') × (e.0.now ≡ e'.0.now)
tag_determined κs a r r' e e' p q = (same_tagged r r' (p.0 ∙ sym q.0), p.1 ∙ sym q.1)

pub candidate_determined :
    (κs : Lfts 1) (a : Dens κs candidate_kinds.ps) (r r' : (res_t candidate_kinds.r κs).Denot)
    (e e' : AtExit (ended_of 1 candidate_kinds.ps candidate_kinds.r) κs)
    → candidate.Post κs a r e → candidate.Post κs a r' e'
    → r ≡ r'
candidate_determined κs a r r' e e' p q = same_reply r r' (p ∙ sym q)

pub candidate_data_determined :
    (κs : Lfts 1) (a : Dens κs candidate_data_kinds.ps) (r r' : (res_t candidate_data_kinds.r κs).Denot)
    (e e' : AtExit (ended_of 1 candidate_data_kinds.ps candidate_data_kinds.r) κs)
    → candidate-data.Post κs a r e → candidate-data.Post κs a r' e'
    → r.now ≡ r'.now
candidate_data_determined κs a r r' e e' p q = p ∙ sym q

pub get_ced_and_status_determined :
    (κs : Lfts 1) (a : Dens κs get_ced_and_status_kinds.ps) (r r' : (res_t get_ced_and_status_kinds.r κs).Denot)
    (e e' : AtExit (ended_of 1 get_ced_and_status_kinds.ps get_ced_and_status_kinds.r) κs)
    → get_ced_and_status.Post κs a r e → get_ced_and_status.Post κs a r' e'
    → r ≡ r'
get_ced_and_status_determined κs a r r' e e' p q = same_asked r r' (p ∙ sym q)

pub get_timing_parameters_determined :
    (κs : Lfts 1) (a : Dens κs get_timing_parameters_kinds.ps) (r r' : (res_t get_timing_parameters_kinds.r κs).Denot)
    (e e' : AtExit (ended_of 1 get_timing_parameters_kinds.ps get_timing_parameters_kinds.r) κs)
    → get_timing_parameters.Post κs a r e → get_timing_parameters.Post κs a r' e'
    → r ≡ r'
get_timing_parameters_determined κs a r r' e e' p q = same_asked r r' (p ∙ sym q)

pub ced_and_status_data_determined :
    (κs : Lfts 1) (a : Dens κs ced_and_status_data_kinds.ps) (r r' : (res_t ced_and_status_data_kinds.r κs).Denot)
    (e e' : AtExit (ended_of 1 ced_and_status_data_kinds.ps ced_and_status_data_kinds.r) κs)
    → ced_and_status_data.Post κs a r e → ced_and_status_data.Post κs a r' e'
    → r.now ≡ r'.now
ced_and_status_data_determined κs a r r' e e' p q = p ∙ sym q

pub timing_parameters_data_determined :
    (κs : Lfts 1) (a : Dens κs timing_parameters_data_kinds.ps) (r r' : (res_t timing_parameters_data_kinds.r κs).Denot)
    (e e' : AtExit (ended_of 1 timing_parameters_data_kinds.ps timing_parameters_data_kinds.r) κs)
    → timing_parameters_data.Post κs a r e → timing_parameters_data.Post κs a r' e'
    → r.now ≡ r'.now
timing_parameters_data_determined κs a r r' e e' p q = p ∙ sym q

pub reset_authbits_determined :
    (κs : Lfts 1) (a : Dens κs reset_authbits_kinds.ps) (r r' : (res_t reset_authbits_kinds.r κs).Denot)
    (e e' : AtExit (ended_of 1 reset_authbits_kinds.ps reset_authbits_kinds.r) κs)
    → reset_authbits.Post κs a r e → reset_authbits.Post κs a r' e'
    → (r ≡ r') × (e.0.now ≡ e'.0.now)
reset_authbits_determined κs a r r' e e' p q = (same_reply r r' (p.0 ∙ sym q.0), p.1 ∙ sym q.1)
