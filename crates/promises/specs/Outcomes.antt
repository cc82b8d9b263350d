-- What may run: any outcome that the contract of a function permits, of the calls in Rattle and of their exports for C. For each, by the names
-- of the function's own arguments, which call of the store it is, what it was lent, and what it left or handed out.
use borrow.Fn.Kinds.{ParamKind, ResultKind, Out, res_t, ended_of, Dens}
use denote.Triple.Clauses.{AtExit}
use contract.Lifetimes.{Lfts}
use Rattle.std.specs.Prelude.{Bool, List, [], ◌∷◌, ◌≡◌, ℕ, take, get_or}
use Rattle.paper.specs.Number.{Answer, number, values}
use Rattle.paper.specs.Parts.{part}
use Rattle.paper.specs.Record.{Family, CED, Timing}
use Rattle.paper.specs.Call.{Call, fresh_call, feed_call, tag_call, candidate_call, ask_call, reset_call}
use Rattle.intake.specs.Input.{items_of, calls_from}
use Rattle.intake.specs.Reader.{stage_in}
use Rattle.navmessage.specs.Asked.{asked_answer}
use Rattle.orbit.specs.Got.{got_answer, got_orbit, got_timing_answer, got_timing}
use Rattle.orbit.specs.declared.Orbit.{Orbit}
use Rattle.orbit.specs.declared.TimingNumbers.{TimingNumbers}
use Rattle.ffi_orbit.specs.Handed.{orbit_in, timing_in}
use Rattle.navmessage.proofs.fresh.Reads as fresh
use Rattle.navmessage.proofs.fresh.Kinds as fresh_kinds
use Rattle.navmessage.proofs.feed.Reads as feed
use Rattle.navmessage.proofs.feed.Kinds as feed_kinds
use Rattle.navmessage.proofs.tag.Reads as tag
use Rattle.navmessage.proofs.tag.Kinds as tag_kinds
use Rattle.navmessage.proofs.candidate.Reads as candidate
use Rattle.navmessage.proofs.candidate.Kinds as candidate_kinds
use Rattle.navmessage.proofs.candidate_data.Reads as candidate-data
use Rattle.navmessage.proofs.candidate_data.Kinds as candidate_data_kinds
use Rattle.navmessage.proofs.get_ced_and_status.Reads as get_ced
use Rattle.navmessage.proofs.get_ced_and_status.Kinds as get_ced_kinds
use Rattle.navmessage.proofs.ced_and_status_data.Reads as ced-data
use Rattle.navmessage.proofs.ced_and_status_data.Kinds as ced_data_kinds
use Rattle.navmessage.proofs.get_timing_parameters.Reads as get_timing
use Rattle.navmessage.proofs.get_timing_parameters.Kinds as get_timing_kinds
use Rattle.navmessage.proofs.timing_parameters_data.Reads as timing_data
use Rattle.navmessage.proofs.timing_parameters_data.Kinds as timing_data_kinds
use Rattle.navmessage.proofs.reset_authbits.Reads as reset
use Rattle.navmessage.proofs.reset_authbits.Kinds as reset_kinds
use Rattle.intake.proofs.part.Reads as read_part
use Rattle.intake.proofs.part.Kinds as read_part_kinds
use Rattle.intake.proofs.end.Reads as read_end
use Rattle.intake.proofs.end.Kinds as read_end_kinds
use Rattle.orbit.proofs.get_orbit.Reads as get_orbit
use Rattle.orbit.proofs.get_orbit.Kinds as get_orbit_kinds
use Rattle.orbit.proofs.get_timing_numbers.Reads as get_numbers
use Rattle.orbit.proofs.get_timing_numbers.Kinds as get_numbers_kinds
use Rattle.ffi.proofs.dawnstook_fresh.Reads as c_fresh
use Rattle.ffi.proofs.dawnstook_fresh.Kinds as c_fresh_kinds
use Rattle.ffi.proofs.dawnstook_feed.Reads as c_feed
use Rattle.ffi.proofs.dawnstook_feed.Kinds as c_feed_kinds
use Rattle.ffi.proofs.dawnstook_tag.Reads as c_tag
use Rattle.ffi.proofs.dawnstook_tag.Kinds as c_tag_kinds
use Rattle.ffi.proofs.dawnstook_candidate.Reads as c_candidate
use Rattle.ffi.proofs.dawnstook_candidate.Kinds as c_candidate_kinds
use Rattle.ffi.proofs.dawnstook_get_ced_and_status.Reads as c_get_ced
use Rattle.ffi.proofs.dawnstook_get_ced_and_status.Kinds as c_get_ced_kinds
use Rattle.ffi.proofs.dawnstook_get_timing_parameters.Reads as c_get_timing
use Rattle.ffi.proofs.dawnstook_get_timing_parameters.Kinds as c_get_timing_kinds
use Rattle.ffi.proofs.dawnstook_reset_authbits.Reads as c_reset
use Rattle.ffi.proofs.dawnstook_reset_authbits.Kinds as c_reset_kinds
use Rattle.ffi_intake.proofs.dawnstook_part.Reads as c_part
use Rattle.ffi_intake.proofs.dawnstook_part.Kinds as c_part_kinds
use Rattle.ffi_intake.proofs.dawnstook_end.Reads as c_end
use Rattle.ffi_intake.proofs.dawnstook_end.Kinds as c_end_kinds
use Rattle.ffi_orbit.proofs.dawnstook_get_orbit.Reads as c_get_orbit
use Rattle.ffi_orbit.proofs.dawnstook_get_orbit.Kinds as c_get_orbit_kinds
use Rattle.ffi_orbit.proofs.dawnstook_get_timing_numbers.Reads as c_get_numbers
use Rattle.ffi_orbit.proofs.dawnstook_get_timing_numbers.Kinds as c_get_numbers_kinds

-- an outcome that a contract permits: the arguments, the answer, and what is left of each argument at exit
pub record Outcome (n : ℕ) (ps : List (ParamKind n)) (r : ResultKind n) (Post : Out n ps r) : Type 0 where
  pub lifetimes : Lfts n
  pub arguments : Dens lifetimes ps
  pub answer : (res_t r lifetimes).Denot
  pub exit : AtExit (ended_of n ps r) lifetimes
  pub permitted : Post lifetimes arguments answer exit

-- ---- of each function
abbrev pub FreshRan : Type 0
FreshRan = Outcome 1 fresh_kinds.ps fresh_kinds.r fresh.Post

abbrev pub FeedRan : Type 0
FeedRan = Outcome 2 feed_kinds.ps feed_kinds.r feed.Post

abbrev pub TagRan : Type 0
TagRan = Outcome 2 tag_kinds.ps tag_kinds.r tag.Post

abbrev pub CandidateRan : Type 0
CandidateRan = Outcome 1 candidate_kinds.ps candidate_kinds.r candidate.Post

abbrev pub CandidateDataRan : Type 0
CandidateDataRan = Outcome 1 candidate_data_kinds.ps candidate_data_kinds.r candidate-data.Post

abbrev pub GetCedRan : Type 0
GetCedRan = Outcome 1 get_ced_kinds.ps get_ced_kinds.r get_ced.Post

abbrev pub CedDataRan : Type 0
CedDataRan = Outcome 1 ced_data_kinds.ps ced_data_kinds.r ced-data.Post

abbrev pub GetTimingRan : Type 0
GetTimingRan = Outcome 1 get_timing_kinds.ps get_timing_kinds.r get_timing.Post

abbrev pub TimingDataRan : Type 0
TimingDataRan = Outcome 1 timing_data_kinds.ps timing_data_kinds.r timing_data.Post

abbrev pub ResetRan : Type 0
ResetRan = Outcome 1 reset_kinds.ps reset_kinds.r reset.Post

abbrev pub PartRan : Type 0
PartRan = Outcome 4 read_part_kinds.ps read_part_kinds.r read_part.Post

abbrev pub EndRan : Type 0
EndRan = Outcome 3 read_end_kinds.ps read_end_kinds.r read_end.Post

abbrev pub GetOrbitRan : Type 0
GetOrbitRan = Outcome 1 get_orbit_kinds.ps get_orbit_kinds.r get_orbit.Post

abbrev pub GetNumbersRan : Type 0
GetNumbersRan = Outcome 1 get_numbers_kinds.ps get_numbers_kinds.r get_numbers.Post

-- ---- of each export for C
abbrev pub CFreshRan : Type 0
CFreshRan = Outcome 1 c_fresh_kinds.ps c_fresh_kinds.r c_fresh.Post

abbrev pub CFeedRan : Type 0
CFeedRan = Outcome 2 c_feed_kinds.ps c_feed_kinds.r c_feed.Post

abbrev pub CTagRan : Type 0
CTagRan = Outcome 2 c_tag_kinds.ps c_tag_kinds.r c_tag.Post

abbrev pub CCandidateRan : Type 0
CCandidateRan = Outcome 1 c_candidate_kinds.ps c_candidate_kinds.r c_candidate.Post

abbrev pub CGetCedRan : Type 0
CGetCedRan = Outcome 1 c_get_ced_kinds.ps c_get_ced_kinds.r c_get_ced.Post

abbrev pub CGetTimingRan : Type 0
CGetTimingRan = Outcome 1 c_get_timing_kinds.ps c_get_timing_kinds.r c_get_timing.Post

abbrev pub CResetRan : Type 0
CResetRan = Outcome 1 c_reset_kinds.ps c_reset_kinds.r c_reset.Post

abbrev pub CPartRan : Type 0
CPartRan = Outcome 4 c_part_kinds.ps c_part_kinds.r c_part.Post

abbrev pub CEndRan : Type 0
CEndRan = Outcome 3 c_end_kinds.ps c_end_kinds.r c_end.Post

abbrev pub CGetOrbitRan : Type 0
CGetOrbitRan = Outcome 1 c_get_orbit_kinds.ps c_get_orbit_kinds.r c_get_orbit.Post

abbrev pub CGetNumbersRan : Type 0
CGetNumbersRan = Outcome 1 c_get_numbers_kinds.ps c_get_numbers_kinds.r c_get_numbers.Post

-- ---- which call it is
abbrev pub fresh_by : FreshRan → Call
fresh_by o = let (room, (d, (n, (rule, _)))) = o.arguments in fresh_call d n rule

abbrev pub feed_by : FeedRan → Call
feed_by o = let (room, (word, (svn, (gst, (band, _))))) = o.arguments in feed_call word.now svn.0 gst.wn.0 gst.tow.0 band

abbrev pub tag_by : TagRan → Call
tag_by o =
    let (room, (svn, (kind, (cop, (bits, (status, (mack, (given, (verdict, _))))))))) = o.arguments in
    tag_call svn.0 kind cop bits status mack.wn.0 mack.tow.0 given.now verdict

abbrev pub candidate_by : CandidateRan → Call
candidate_by o = let (room, (svn, (kind, (cop, (mack, _))))) = o.arguments in candidate_call svn.0 kind cop mack.wn.0 mack.tow.0

abbrev pub candidate_data_by : CandidateDataRan → Call
candidate_data_by o = let (room, (svn, (kind, (cop, (mack, _))))) = o.arguments in candidate_call svn.0 kind cop mack.wn.0 mack.tow.0

abbrev pub get_ced_by : GetCedRan → Call
get_ced_by o = let (room, (svn, _)) = o.arguments in ask_call CED svn.0

abbrev pub ced_data_by : CedDataRan → Call
ced_data_by o = let (room, (svn, _)) = o.arguments in ask_call CED svn.0

abbrev pub get_timing_by : GetTimingRan → Call
get_timing_by o = let (room, (svn, _)) = o.arguments in ask_call Timing svn.0

abbrev pub timing_data_by : TimingDataRan → Call
timing_data_by o = let (room, (svn, _)) = o.arguments in ask_call Timing svn.0

abbrev pub c_fresh_by : CFreshRan → Call
c_fresh_by o = let (room, (d, (n, (rule, _)))) = o.arguments in fresh_call d n rule

abbrev pub c_feed_by : CFeedRan → Call
c_feed_by o = let (room, (word, (sat, (week, (time, (band, _)))))) = o.arguments in feed_call word.now sat week time band

abbrev pub c_tag_by : CTagRan → Call
c_tag_by o =
    let (room, (sat, (kind, (cop, (bits, (status, (week, (time, (given, (verdict, _)))))))))) = o.arguments in
    tag_call sat kind cop bits status week time given.now verdict

abbrev pub c_candidate_by : CCandidateRan → Call
c_candidate_by o = let (room, (sat, (kind, (cop, (week, (time, _)))))) = o.arguments in candidate_call sat kind cop week time

abbrev pub c_get_ced_by : CGetCedRan → Call
c_get_ced_by o = let (room, (sat, _)) = o.arguments in ask_call CED sat

abbrev pub c_get_timing_by : CGetTimingRan → Call
c_get_timing_by o = let (room, (sat, _)) = o.arguments in ask_call Timing sat

-- ---- what writes the room; a call that is lent it to read only changes nothing, and is no step of a history
pub data Did : Type 0 where
  fresh_did : FreshRan → Did
  feed_did : FeedRan → Did
  tag_did : TagRan → Did
  reset_did : ResetRan → Did
  part_did : PartRan → Did
  c_fresh_did : CFreshRan → Did
  c_feed_did : CFeedRan → Did
  c_tag_did : CTagRan → Did
  c_reset_did : CResetRan → Did
  c_part_did : CPartRan → Did

-- the bytes of the room that it was lent, what it left of them, and its calls, the latest first
pub record Deeds : Type 0 where
  pub lent : List ℕ
  pub left : List ℕ
  pub calls : List Call

abbrev one_call : List ℕ → List ℕ → Call → Deeds
one_call lent left call = record { lent = lent; left = left; calls = call ∷ [] }

-- of a part of an input: the calls of what it made whole, from where the reader stood
abbrev heard_calls : List ℕ → List ℕ → List ℕ → List ℕ → Deeds
heard_calls reader bytes lent left = record { lent = lent; left = left; calls = calls_from lent [] (items_of (stage_in reader) bytes) }

abbrev pub deeds_of : Did → Deeds
deeds_of (fresh_did o) = let (room, _) = o.arguments in let (left, _) = o.exit in one_call room.now left.now (fresh_by o)
deeds_of (feed_did o) = let (room, _) = o.arguments in let (left, _) = o.exit in one_call room.now left.now (feed_by o)
deeds_of (tag_did o) = let (room, _) = o.arguments in let (left, _) = o.exit in one_call room.now left.now (tag_by o)
deeds_of (reset_did o) = let (room, _) = o.arguments in let (left, _) = o.exit in one_call room.now left.now reset_call
deeds_of (part_did o) =
    let (reader, (room, (bytes, _))) = o.arguments in
    let (_, (left, _)) = o.exit in
    heard_calls reader.now (take o.answer.took bytes.now) room.now left.now
deeds_of (c_fresh_did o) = let (room, _) = o.arguments in let (left, _) = o.exit in one_call room.now left.now (c_fresh_by o)
deeds_of (c_feed_did o) = let (room, _) = o.arguments in let (left, _) = o.exit in one_call room.now left.now (c_feed_by o)
deeds_of (c_tag_did o) = let (room, _) = o.arguments in let (left, _) = o.exit in one_call room.now left.now (c_tag_by o)
deeds_of (c_reset_did o) = let (room, _) = o.arguments in let (left, _) = o.exit in one_call room.now left.now reset_call
deeds_of (c_part_did o) =
    let (reader, (room, (bytes, _))) = o.arguments in
    let (_, (left, _)) = o.exit in
    heard_calls reader.now (take o.answer.took bytes.now) room.now left.now

-- ---- what asks: by the two functions of a family, on one room for one satellite, or by its export for C
pub record OneAsking (room shownRoom : List ℕ) (sat shownSat : ℕ) : Type 0 where
  pub rooms : shownRoom ≡ room
  pub satellites : shownSat ≡ sat

pub record CedAsked : Type 0 where
  pub count : GetCedRan
  pub shown : CedDataRan
  pub one :
      let (room, (svn, _)) = count.arguments in
      let (shownRoom, (shownSvn, _)) = shown.arguments in
      OneAsking room.now shownRoom.now svn.0 shownSvn.0

pub record TimingAsked : Type 0 where
  pub count : GetTimingRan
  pub shown : TimingDataRan
  pub one :
      let (room, (svn, _)) = count.arguments in
      let (shownRoom, (shownSvn, _)) = shown.arguments in
      OneAsking room.now shownRoom.now svn.0 shownSvn.0

pub data Asking : Type 0 where
  ced_asking : CedAsked → Asking
  timing_asking : TimingAsked → Asking
  c_ced_asking : CGetCedRan → Asking
  c_timing_asking : CGetTimingRan → Asking

-- of which family and satellite, the bytes of the room that were lent; the number, the count and the data that were handed out
pub record HandedOut (A : Type 0) : Type 0 where
  pub family : Family
  pub sat : ℕ
  pub lent : List ℕ
  pub number : ℕ
  pub counted : ℕ
  pub given : A

abbrev handed : {A : Type 0} → Family → ℕ → List ℕ → Answer → A → HandedOut A
handed f sat room a given = record { family = f; sat = sat; lent = room; number = number a; counted = get_or (values a) 0 0; given = given }

abbrev pub asked_by : Asking → HandedOut (List ℕ)
asked_by (ced_asking a) =
    let (room, (svn, _)) = a.count.arguments in
    handed CED svn.0 room.now (asked_answer a.count.answer) a.shown.answer.now
asked_by (timing_asking a) =
    let (room, (svn, _)) = a.count.arguments in
    handed Timing svn.0 room.now (asked_answer a.count.answer) a.shown.answer.now
asked_by (c_ced_asking o) =
    let (room, (sat, _)) = o.arguments in
    let r = o.answer in
    record { family = CED; sat = sat; lent = room.now; number = r.number; counted = r.authbits; given = part r.offset r.bytes room.now }
asked_by (c_timing_asking o) =
    let (room, (sat, _)) = o.arguments in
    let r = o.answer in
    record { family = Timing; sat = sat; lent = room.now; number = r.number; counted = r.authbits; given = part r.offset r.bytes room.now }

-- ---- what reads that data as numbers
pub data OrbitAsking : Type 0 where
  orbit_asking : GetOrbitRan → OrbitAsking
  c_orbit_asking : CGetOrbitRan → OrbitAsking

abbrev pub orbit_by : OrbitAsking → HandedOut Orbit
orbit_by (orbit_asking o) =
    let (room, (svn, _)) = o.arguments in
    handed CED svn.0 room.now (got_answer o.answer) (got_orbit o.answer)
orbit_by (c_orbit_asking o) =
    let (room, (sat, _)) = o.arguments in
    let r = o.answer in
    record { family = CED; sat = sat; lent = room.now; number = r.number; counted = r.authbits; given = orbit_in r }

pub data NumbersAsking : Type 0 where
  numbers_asking : GetNumbersRan → NumbersAsking
  c_numbers_asking : CGetNumbersRan → NumbersAsking

abbrev pub numbers_by : NumbersAsking → HandedOut TimingNumbers
numbers_by (numbers_asking o) =
    let (room, (svn, _)) = o.arguments in
    handed Timing svn.0 room.now (got_timing_answer o.answer) (got_timing o.answer)
numbers_by (c_numbers_asking o) =
    let (room, (sat, _)) = o.arguments in
    let r = o.answer in
    record { family = Timing; sat = sat; lent = room.now; number = r.number; counted = r.authbits; given = timing_in r }
