-- The calls that run are the steps of a history: what a contract permits is the answer, the slice of the room and the room afterwards that the
-- history takes for that call. Assumes nothing.
use mathlib.Core.Path.{◌≡◌, sym, ◌∙◌}
use Rattle.paper.specs.Record.{CED, Timing}
use Rattle.paper.specs.Call.{reset_call, answer_to, part_to, room_after}
use Rattle.history.proofs.Steps.{fresh_step, feed_step, tag_step, candidate_step, ask_step, reset_step}
use Rattle.refusals.specs.Reply.{reply_answer}
use Rattle.tags.specs.Candidates.{tagged_answer}
use Rattle.navmessage.specs.Asked.{asked_answer}
use Rattle.promises.specs.Outcomes.{FreshRan, FeedRan, TagRan, CandidateRan, CandidateDataRan, GetCedRan, CedDataRan, GetTimingRan, TimingDataRan, ResetRan}
use Rattle.promises.specs.Outcomes.{fresh_by, feed_by, tag_by, candidate_by, candidate_data_by, get_ced_by, ced_data_by, get_timing_by, timing_data_by}

pub fresh_is_step : (o : FreshRan)
    → (reply_answer o.answer ≡ answer_to (fresh_by o) o.arguments.0.now) × (o.exit.0.now ≡ room_after (fresh_by o) o.arguments.0.now)
fresh_is_step o =
    let s = fresh_step _ _ _ o.arguments.0.now in
    (o.permitted.0 ∙ sym s.0, o.permitted.1 ∙ sym s.1)

pub feed_is_step : (o : FeedRan)
    → (reply_answer o.answer ≡ answer_to (feed_by o) o.arguments.0.now) × (o.exit.0.now ≡ room_after (feed_by o) o.arguments.0.now)
feed_is_step o =
    let s = feed_step _ _ _ _ _ o.arguments.0.now in
    (o.permitted.0 ∙ sym s.0, o.permitted.1 ∙ sym s.1)

pub tag_is_step : (o : TagRan)
    → (tagged_answer o.answer ≡ answer_to (tag_by o) o.arguments.0.now) × (o.exit.0.now ≡ room_after (tag_by o) o.arguments.0.now)
tag_is_step o =
    let s = tag_step _ _ _ _ _ _ _ _ _ o.arguments.0.now in
    (o.permitted.0 ∙ sym s.0, o.permitted.1 ∙ sym s.1)

pub reset_authbits_is_step : (o : ResetRan)
    → (reply_answer o.answer ≡ answer_to reset_call o.arguments.0.now) × (o.exit.0.now ≡ room_after reset_call o.arguments.0.now)
reset_authbits_is_step o =
    let s = reset_step o.arguments.0.now in
    (o.permitted.0 ∙ sym s.0, o.permitted.1 ∙ sym s.1)

-- showing the candidate and asking are lent the room to read only
pub candidate_is_step : (o : CandidateRan) → reply_answer o.answer ≡ answer_to (candidate_by o) o.arguments.0.now
candidate_is_step o = o.permitted ∙ sym (candidate_step _ _ _ _ _ o.arguments.0.now).0

pub candidate_data_is_step : (o : CandidateDataRan) → o.answer.now ≡ part_to (candidate_data_by o) o.arguments.0.now
candidate_data_is_step o = o.permitted ∙ sym (candidate_step _ _ _ _ _ o.arguments.0.now).1

pub get_ced_and_status_is_step : (o : GetCedRan) → asked_answer o.answer ≡ answer_to (get_ced_by o) o.arguments.0.now
get_ced_and_status_is_step o = o.permitted ∙ sym (ask_step CED _ o.arguments.0.now).0

pub ced_and_status_data_is_step : (o : CedDataRan) → o.answer.now ≡ part_to (ced_data_by o) o.arguments.0.now
ced_and_status_data_is_step o = o.permitted ∙ sym (ask_step CED _ o.arguments.0.now).1

pub get_timing_parameters_is_step : (o : GetTimingRan) → asked_answer o.answer ≡ answer_to (get_timing_by o) o.arguments.0.now
get_timing_parameters_is_step o = o.permitted ∙ sym (ask_step Timing _ o.arguments.0.now).0

pub timing_parameters_data_is_step : (o : TimingDataRan) → o.answer.now ≡ part_to (timing_data_by o) o.arguments.0.now
timing_parameters_data_is_step o = o.permitted ∙ sym (ask_step Timing _ o.arguments.0.now).1
