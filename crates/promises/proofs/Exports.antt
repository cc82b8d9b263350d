-- The exports for C are the same calls: the number, the values and the slice that an export hands back, and the room that it leaves, are
-- those that the history takes for the call. Assumes nothing.
use mathlib.Core.Bool.{false}
use mathlib.Core.List.{List}
use mathlib.Core.Path.{◌≡◌, sym, ap, ◌∙◌}
use Prim.Native.Nat.{ℕ}
use lib.ListN.{length}
use Rattle.paper.specs.Number.{Answer, number}
use Rattle.paper.specs.Parts.{part}
use Rattle.paper.specs.Record.{Family, CED, Timing}
use Rattle.paper.specs.Answer.{ask_answer, ask_data}
use Rattle.paper.specs.Call.{reset_call, ask_call, answer_to, part_to, room_after}
use Rattle.history.proofs.Steps.{fresh_step, feed_step, tag_step, candidate_step, ask_step, reset_step}
use Rattle.ffi.specs.declared.Told.{Told}
use Rattle.ffi.specs.Handed.{taken_of, told_of}
use Rattle.ffi.specs.Offset.{ask_offset}
use Rattle.promises.specs.Outcomes.{PartRan, EndRan, CFreshRan, CFeedRan, CTagRan, CCandidateRan, CGetCedRan, CGetTimingRan, CResetRan, CPartRan, CEndRan}
use Rattle.promises.specs.Outcomes.{c_fresh_by, c_feed_by, c_tag_by, c_candidate_by, c_get_ced_by, c_get_timing_by}

pub exported_fresh_is_step : (o : CFreshRan)
    → (o.answer ≡ number (answer_to (c_fresh_by o) o.arguments.0.now)) × (o.exit.0.now ≡ room_after (c_fresh_by o) o.arguments.0.now)
exported_fresh_is_step o =
    let s = fresh_step _ _ _ o.arguments.0.now in
    (o.permitted.0 ∙ ap number (sym s.0), o.permitted.1 ∙ sym s.1)

pub exported_feed_is_step : (o : CFeedRan)
    → (o.answer ≡ number (answer_to (c_feed_by o) o.arguments.0.now)) × (o.exit.0.now ≡ room_after (c_feed_by o) o.arguments.0.now)
exported_feed_is_step o =
    let s = feed_step _ _ _ _ _ o.arguments.0.now in
    (o.permitted.0 ∙ ap number (sym s.0), o.permitted.1 ∙ sym s.1)

pub exported_tag_is_step : (o : CTagRan)
    → (o.answer ≡ taken_of (answer_to (c_tag_by o) o.arguments.0.now)) × (o.exit.0.now ≡ room_after (c_tag_by o) o.arguments.0.now)
exported_tag_is_step o =
    let s = tag_step _ _ _ _ _ _ _ _ _ o.arguments.0.now in
    (o.permitted.0 ∙ ap taken_of (sym s.0), o.permitted.1 ∙ sym s.1)

pub exported_reset_authbits_is_step : (o : CResetRan)
    → (o.answer ≡ number (answer_to reset_call o.arguments.0.now)) × (o.exit.0.now ≡ room_after reset_call o.arguments.0.now)
exported_reset_authbits_is_step o =
    let s = reset_step o.arguments.0.now in
    (o.permitted.0 ∙ ap number (sym s.0), o.permitted.1 ∙ sym s.1)

-- showing the candidate and asking are lent the room to read only
pub exported_candidate_is_step : (o : CCandidateRan)
    → (o.answer.number ≡ number (answer_to (c_candidate_by o) o.arguments.0.now))
    × (part o.answer.offset o.answer.bytes o.arguments.0.now ≡ part_to (c_candidate_by o) o.arguments.0.now)
exported_candidate_is_step o =
    let s = candidate_step _ _ _ _ _ o.arguments.0.now in
    (ap (λ x. x.number) o.permitted.0 ∙ ap number (sym s.0), o.permitted.1 ∙ sym s.1)

-- of either family
asked_as : (f : Family) (sat : ℕ) (room : List ℕ) (r : Told) → r ≡ told_of (ask_answer f sat room) (ask_offset f sat room) (length (ask_data f sat room))
    → r ≡ told_of (answer_to (ask_call f sat) room) r.offset r.bytes
asked_as f sat room r p =
    p
    ∙ ap (λ (x : Answer). told_of x (ask_offset f sat room) (length (ask_data f sat room))) (sym (ask_step f sat room).0)
    ∙ ap (λ (x : Told). told_of (answer_to (ask_call f sat) room) x.offset x.bytes) (sym p)

pub exported_get_ced_and_status_is_step : (o : CGetCedRan)
    → (o.answer ≡ told_of (answer_to (c_get_ced_by o) o.arguments.0.now) o.answer.offset o.answer.bytes)
    × (part o.answer.offset o.answer.bytes o.arguments.0.now ≡ part_to (c_get_ced_by o) o.arguments.0.now)
exported_get_ced_and_status_is_step o = (
  asked_as CED o.arguments.1.0 o.arguments.0.now o.answer o.permitted.0,
  o.permitted.1 ∙ sym (ask_step CED _ o.arguments.0.now).1,
)

pub exported_get_timing_parameters_is_step : (o : CGetTimingRan)
    → (o.answer ≡ told_of (answer_to (c_get_timing_by o) o.arguments.0.now) o.answer.offset o.answer.bytes)
    × (part o.answer.offset o.answer.bytes o.arguments.0.now ≡ part_to (c_get_timing_by o) o.arguments.0.now)
exported_get_timing_parameters_is_step o = (
  asked_as Timing o.arguments.1.0 o.arguments.0.now o.answer o.permitted.0,
  o.permitted.1 ∙ sym (ask_step Timing _ o.arguments.0.now).1,
)

-- a part and the end of an input: what the exports permit, `part` and `end` permit without the lines of `trace`, so that what is proved of
-- an input that those read in parts holds of one that these read
pub exported_part : CPartRan → PartRan
exported_part o =
    let (reader, (room, (bytes, (out, none)))) = o.arguments in
    let (reader', (room', (bytes', (out', none')))) = o.exit in
    record {
      lifetimes = o.lifetimes;
      arguments = (reader, (room, (bytes, (out, (false, none)))));
      answer = o.answer;
      exit = (reader', (room', (bytes', (out', (false, none')))));
      permitted = o.permitted;
    }

pub exported_end : CEndRan → EndRan
exported_end o =
    let (reader, (room, (out, none))) = o.arguments in
    let (reader', (room', (out', none'))) = o.exit in
    record {
      lifetimes = o.lifetimes;
      arguments = (reader, (room, (out, (false, none))));
      answer = o.answer;
      exit = (reader', (room', (out', (false, none'))));
      permitted = o.permitted;
    }
