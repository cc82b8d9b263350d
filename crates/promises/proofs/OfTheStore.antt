-- Every refusal that a call of the store hands back, and that reading timing parameters as numbers does, is one of the store's own, so that
-- none has a number of an input, of an orbit or of a message (`never_theirs`). Assumes nothing.
use borrow.Fn.Kinds.{ended_of, Dens}
use denote.Triple.Clauses.{AtExit}
use contract.Lifetimes.{Lfts}
use mathlib.Core.Bool.{Bool, true, false, not, ◌&&◌}
use mathlib.Core.List.{List, []}
use mathlib.Core.Path.{◌≡◌, refl, sym, ap, ◌∙◌}
use Prim.Native.Nat.{ℕ}
use lib.Dec.{eqb, leb}
use lib.ListN.{length}
use Rattle.std.specs.Prelude.{Err}
use Rattle.paper.specs.Number.{number, refused, answer, unless}
use Rattle.paper.specs.Record.{Family, CED, Timing}
use Rattle.paper.specs.Answer.{fresh_number, feed_number, until_candidate, tag_number, tag_answer, candidate_number, ask_number, ask_answer, reset_number}
use Rattle.paper.specs.Orbit.{numbers_tests, numbers_number, numbers_answer}
use Rattle.paper.specs.Time.{is_time, is_start, start_of}
use Rattle.paper.specs.Satellite.{is_satellite}
use Rattle.paper.specs.Word.{word_bytes}
use Rattle.paper.specs.Room.{room_size}
use Rattle.paper.specs.Store.{sizes_allowed, rule_known, is_store}
use Rattle.paper.specs.Feed.{comes_earlier}
use Rattle.paper.specs.Tag.{kind_known, family_of, cop_allowed, length_allowed, status_known, status_adds, thirty_before, candidate_record, has_candidate, given_agrees}
use Rattle.paper.specs.Ask.{answering_row, answering_record, some_enough, age_unknown, time_before}
use Rattle.refusals.specs.Reply.{refusal_number}
use Rattle.refusals.specs.declared.Refusal.{Refusal}
use Rattle.refusals.specs.declared.Refusal.TheVariants.{Sizes, TooShort, NotAStore, NoSatellite, TowTooLarge, NotAStart, TimeArithmetic, NotAllowed}
use Rattle.refusals.specs.declared.Refusal.TheVariants.{UnknownCode, NoCandidate, OtherData, NotEnough, UnknownKind, CutShort, Earlier, Dummy}
use Rattle.refusals.specs.declared.Refusal.TheVariants.{VerdictNo, StatusAddsNothing, IssuesDiffer, OtherSatellite, AgeUnknown, PaddingSet}
use Rattle.refusals.proofs.Answers.{refused_number}
use Rattle.promises.proofs.Answers.{of_the_store}
use Rattle.navmessage.proofs.fresh.Reads as fresh
use Rattle.navmessage.proofs.fresh.Kinds as fresh_kinds
use Rattle.navmessage.proofs.feed.Reads as feed
use Rattle.navmessage.proofs.feed.Kinds as feed_kinds
use Rattle.navmessage.proofs.tag.Reads as tag
use Rattle.navmessage.proofs.tag.Kinds as tag_kinds
use Rattle.navmessage.proofs.candidate.Reads as candidate
use Rattle.navmessage.proofs.candidate.Kinds as candidate_kinds
use Rattle.navmessage.proofs.get_ced_and_status.Reads as get_ced_and_status
use Rattle.navmessage.proofs.get_ced_and_status.Kinds as get_ced_and_status_kinds
use Rattle.navmessage.proofs.get_timing_parameters.Reads as get_timing_parameters
use Rattle.navmessage.proofs.get_timing_parameters.Kinds as get_timing_parameters_kinds
use Rattle.navmessage.proofs.reset_authbits.Reads as reset_authbits
use Rattle.navmessage.proofs.reset_authbits.Kinds as reset_authbits_kinds
use Rattle.orbit.proofs.get_timing_numbers.Reads as get_timing_numbers
use Rattle.orbit.proofs.get_timing_numbers.Kinds as get_timing_numbers_kinds

-- no number of an input, an orbit or a message
abbrev ours : ℕ → Bool
ours n = not (eqb n 13) && not (eqb n 14) && not (eqb n 21) && not (eqb n 22) && not (eqb n 26)

one_side : (why : Refusal) → of_the_store why ≡ ours (refusal_number why)
one_side Sizes = refl
one_side TooShort = refl
one_side NotAStore = refl
one_side NoSatellite = refl
one_side TowTooLarge = refl
one_side NotAStart = refl
one_side TimeArithmetic = refl
one_side NotAllowed = refl
one_side UnknownCode = refl
one_side NoCandidate = refl
one_side OtherData = refl
one_side NotEnough = refl
one_side UnknownKind = refl
one_side CutShort = refl
one_side Earlier = refl
one_side Dummy = refl
one_side VerdictNo = refl
one_side StatusAddsNothing = refl
one_side IssuesDiffer = refl
one_side OtherSatellite = refl
one_side AgeUnknown = refl
one_side PaddingSet = refl

-- an order of tests has these numbers, where each of them is one
step : (test : Bool) (k later : ℕ) → ours k ≡ true → ours later ≡ true → ours (unless test k later) ≡ true
step true k later p q = q
step false k later p q = p

-- and a refusal that has such a number is the store's
its : (why : Refusal) (n : ℕ) (v : List ℕ) → refused (refusal_number why) ≡ answer n v → ours n ≡ true → of_the_store why ≡ true
its why n v e p = one_side why ∙ ap ours (sym (refused_number (refusal_number why) n v e)) ∙ p

-- the orders of STORE 14.2
fresh_ours : (d n rule : ℕ) (room : List ℕ) → ours (fresh_number d n rule room) ≡ true
unfolding fresh_number
fresh_ours d n rule room =
    step (sizes_allowed d n && rule_known rule) 1 _ refl (step (leb (room_size d n) (length room)) 2 0 refl refl)

feed_ours : (word : List ℕ) (sat w t band : ℕ) (room : List ℕ) → ours (feed_number word sat w t band room) ≡ true
unfolding feed_number
feed_ours word sat w t band room =
    step (is_store room) 3 _ refl
    (step (is_satellite sat) 4 _ refl
    (step (is_time t) 5 _ refl
    (step (eqb (length word) word_bytes) 8 _ refl (step (leb band 1) 9 _ refl (step (not (comes_earlier w (start_of t) room)) 15 0 refl refl)))))

reset_ours : (room : List ℕ) → ours (reset_number room) ≡ true
unfolding reset_number
reset_ours room = step (is_store room) 3 0 refl refl

until_ours :
    (allowed known : Bool) (sat kind cop w t : ℕ) (room : List ℕ) (later : ℕ) →
    ours later ≡ true → ours (until_candidate allowed known sat kind cop w t room later) ≡ true
unfolding until_candidate
until_ours allowed known sat kind cop w t room later p =
    step (is_store room) 3 _ refl
    (step (is_satellite sat) 4 _ refl
    (step (is_time t) 5 _ refl
    (step (is_start t) 6 _ refl
    (step allowed 8 _ refl
    (step known 9 _ refl
    (step (eqb (number (thirty_before w t)) 0) 7 _ refl
    (step (not (eqb cop 0)) 16 _ refl (step (has_candidate (family_of kind) sat cop w t room) 10 later refl p))))))))

tag_ours :
    (sat kind cop l status w t : ℕ) (given : List ℕ) (verdict : Bool) (room : List ℕ) →
    ours (tag_number sat kind cop l status w t given verdict room) ≡ true
unfolding tag_number
tag_ours sat kind cop l status w t given verdict room =
    until_ours (cop_allowed cop && length_allowed l) (kind_known kind && status_known status) sat kind cop w t room _
    (step (given_agrees (family_of kind) given (candidate_record (family_of kind) sat w t room)) 11 _ refl
    (step verdict 17 _ refl (step (status_adds status) 18 0 refl refl)))

candidate_ours : (sat kind cop w t : ℕ) (room : List ℕ) → ours (candidate_number sat kind cop w t room) ≡ true
unfolding candidate_number
candidate_ours sat kind cop w t room = until_ours (cop_allowed cop) (kind_known kind) sat kind cop w t room 0 refl

ask_ours : (f : Family) (sat : ℕ) (room : List ℕ) → ours (ask_number f sat room) ≡ true
unfolding ask_number
ask_ours f sat room =
    step (is_store room) 3 _ refl
    (step (is_satellite sat) 4 _ refl
    (step (some_enough f sat room) 12 _ refl
    (step (not (age_unknown f sat room)) 24 _ refl
    (step (eqb (number (time_before f (answering_row f sat room) (answering_record f sat room))) 0) 7 0 refl refl))))

timing_ours : (sat : ℕ) (room : List ℕ) → ours (numbers_number Timing sat room) ≡ true
unfolding numbers_number numbers_tests
timing_ours sat room = step (eqb (ask_number Timing sat room) 0) (ask_number Timing sat room) 0 (ask_ours Timing sat room) refl

-- of the contracts, whatever was lent: an answer that is a refusal
pub fresh_of_the_store :
    (κs : Lfts 1) (a : Dens κs fresh_kinds.ps) (why : Refusal) (e : AtExit (ended_of 1 fresh_kinds.ps fresh_kinds.r) κs)
    → fresh.Post κs a (Err why) e → of_the_store why ≡ true
fresh_of_the_store κs a why e p = its why _ [] p.0 (fresh_ours _ _ _ _)

pub feed_of_the_store :
    (κs : Lfts 2) (a : Dens κs feed_kinds.ps) (why : Refusal) (e : AtExit (ended_of 2 feed_kinds.ps feed_kinds.r) κs)
    → feed.Post κs a (Err why) e → of_the_store why ≡ true
feed_of_the_store κs a why e p = its why _ [] p.0 (feed_ours _ _ _ _ _ _)

pub reset_of_the_store :
    (κs : Lfts 1) (a : Dens κs reset_authbits_kinds.ps) (why : Refusal) (e : AtExit (ended_of 1 reset_authbits_kinds.ps reset_authbits_kinds.r) κs)
    → reset_authbits.Post κs a (Err why) e → of_the_store why ≡ true
reset_of_the_store κs a why e p = its why _ [] p.0 (reset_ours _)

pub tag_of_the_store :
    (κs : Lfts 2) (a : Dens κs tag_kinds.ps) (why : Refusal) (e : AtExit (ended_of 2 tag_kinds.ps tag_kinds.r) κs)
    → tag.Post κs a (Err why) e → of_the_store why ≡ true
unfolding tag_answer
tag_of_the_store κs a why e p = its why _ _ p.0 (tag_ours _ _ _ _ _ _ _ _ _ _)

pub candidate_of_the_store :
    (κs : Lfts 1) (a : Dens κs candidate_kinds.ps) (why : Refusal) (e : AtExit (ended_of 1 candidate_kinds.ps candidate_kinds.r) κs)
    → candidate.Post κs a (Err why) e → of_the_store why ≡ true
candidate_of_the_store κs a why e p = its why _ [] p (candidate_ours _ _ _ _ _ _)

pub ced_of_the_store :
    (κs : Lfts 1) (a : Dens κs get_ced_and_status_kinds.ps) (why : Refusal)
    (e : AtExit (ended_of 1 get_ced_and_status_kinds.ps get_ced_and_status_kinds.r) κs)
    → get_ced_and_status.Post κs a (Err why) e → of_the_store why ≡ true
unfolding ask_answer
ced_of_the_store κs a why e p = its why _ _ p (ask_ours CED _ _)

pub timing_of_the_store :
    (κs : Lfts 1) (a : Dens κs get_timing_parameters_kinds.ps) (why : Refusal)
    (e : AtExit (ended_of 1 get_timing_parameters_kinds.ps get_timing_parameters_kinds.r) κs)
    → get_timing_parameters.Post κs a (Err why) e → of_the_store why ≡ true
unfolding ask_answer
timing_of_the_store κs a why e p = its why _ _ p (ask_ours Timing _ _)

pub timing_numbers_of_the_store :
    (κs : Lfts 1) (a : Dens κs get_timing_numbers_kinds.ps) (why : Refusal)
    (e : AtExit (ended_of 1 get_timing_numbers_kinds.ps get_timing_numbers_kinds.r) κs)
    → get_timing_numbers.Post κs a (Err why) e → of_the_store why ≡ true
unfolding numbers_answer
timing_numbers_of_the_store κs a why e p = its why _ _ p.0 (timing_ours _ _)
