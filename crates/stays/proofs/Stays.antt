-- A store stays a store: once a fresh call succeeded, whatever calls follow, with whatever arguments, the room is a store after each
-- of them, and none of them is answered 3. Assumes nothing.
use mathlib.Core.Bool.{Bool, true, false, ◌&&◌, not}
use mathlib.Core.List.{List, [], ◌∷◌, ◌++◌}
use mathlib.Core.Logic.{◌≢◌}
use mathlib.Core.Path.{◌≡◌, refl, sym, ap, ◌∙◌}
use Prim.Native.Nat.{ℕ, zero, suc}
use native.Mathlib.Omega.{arith}
use lib.Dec.{eqb, leb}
use lib.ListN.{length}
use Rattle.paper.specs.Record.{Family}
use Rattle.paper.specs.Room.{room_size}
use Rattle.paper.specs.Store.{sizes_allowed, rule_known, is_store}
use Rattle.paper.specs.Tag.{family_of, kind_known, status_known, cop_allowed, length_allowed, status_adds, thirty_before, candidate_record, has_candidate, given_agrees}
use Rattle.paper.specs.Satellite.{is_satellite}
use Rattle.paper.specs.Number.{number, unless, answer}
use Rattle.paper.specs.Answer.{fresh_number, feed_number, until_candidate, tag_number, tag_answer, candidate_number, ask_number, ask_answer, reset_number}
use Rattle.paper.specs.Call.{Call, fresh_call, feed_call, tag_call, candidate_call, ask_call, reset_call, answer_to, room_after, run}
use Rattle.paper.specs.Time.{is_time, is_start, start_of}
use Rattle.paper.specs.Feed.{comes_earlier}
use Rattle.paper.specs.Ask.{some_enough, age_unknown, time_before, answering_row, answering_record}
use Rattle.stays.proofs.Rooms.{fresh_stores, fresh_stays, feed_stays, tag_stays, reset_stays}

-- ---- the room
pub call_stays : (c : Call) (room : List ℕ) → is_store room ≡ true → is_store (room_after c room) ≡ true
unfolding room_after
call_stays (fresh_call d n rule) room s = fresh_stays d n rule room s
call_stays (feed_call word sat w t band) room s = feed_stays word sat w t band room s
call_stays (tag_call sat kind cop l status w t given verdict) room s = tag_stays sat kind cop l status w t given verdict room s
call_stays (candidate_call sat kind cop w t) room s = s
call_stays (ask_call f sat) room s = s
call_stays reset_call room s = reset_stays room s

pub calls_stay : (calls : List Call) (room : List ℕ) → is_store room ≡ true → is_store (run room calls) ≡ true
unfolding run
calls_stay [] room s = s
calls_stay (c ∷ before) room s = call_stays c (run room before) (calls_stay before room s)

-- calls after calls
pub run_after : (room : List ℕ) (later calls : List Call) → run room (later ++ calls) ≡ run (run room calls) later
unfolding run
run_after room [] calls = refl
run_after room (c ∷ later) calls = ap (room_after c) (run_after room later calls)

-- ---- the numbers
unless_not3 : (b : Bool) (k later : ℕ) → k ≢ 3 → later ≢ 3 → unless b k later ≢ 3
unless_not3 true k later h g = g
unless_not3 false k later h g = h

-- refusal 3 is the first, and the only one of that number
store_not3 : (room : List ℕ) (later : ℕ) → is_store room ≡ true → later ≢ 3 → unless (is_store room) 3 later ≢ 3
store_not3 room later s h = rw s h

pub number_answer : (k : ℕ) (v : List ℕ) → number (answer k v) ≡ k
number_answer zero v = refl
number_answer (suc k) v = refl

answer_not3 : (k : ℕ) (v : List ℕ) → k ≢ 3 → number (answer k v) ≢ 3
answer_not3 k v h = rw (number_answer k v) h

fresh_not3 : (d n rule : ℕ) (room : List ℕ) → fresh_number d n rule room ≢ 3
unfolding fresh_number
fresh_not3 d n rule room =
    unless_not3 (sizes_allowed d n && rule_known rule) 1 _ (omega arith) (unless_not3 (leb (room_size d n) (length room)) 2 0 (omega arith) (omega arith))

feed_not3 : (word : List ℕ) (sat w t band : ℕ) (room : List ℕ) → is_store room ≡ true → feed_number word sat w t band room ≢ 3
unfolding feed_number
feed_not3 word sat w t band room s =
    store_not3 room _ s
    (unless_not3 (is_satellite sat) 4 _ (omega arith)
    (unless_not3 (is_time t) 5 _ (omega arith)
    (unless_not3 (eqb (length word) 16) 8 _ (omega arith)
    (unless_not3 (leb band 1) 9 _ (omega arith) (unless_not3 (not (comes_earlier w (start_of t) room)) 15 0 (omega arith) (omega arith))))))

candidate_not3 : (allowed known : Bool) (sat kind cop w t : ℕ) (room : List ℕ) (later : ℕ) → is_store room ≡ true → later ≢ 3
    → until_candidate allowed known sat kind cop w t room later ≢ 3
unfolding until_candidate
candidate_not3 allowed known sat kind cop w t room later s h =
    store_not3 room _ s
    (unless_not3 (is_satellite sat) 4 _ (omega arith)
    (unless_not3 (is_time t) 5 _ (omega arith)
    (unless_not3 (is_start t) 6 _ (omega arith)
    (unless_not3 allowed 8 _ (omega arith)
    (unless_not3 known 9 _ (omega arith)
    (unless_not3 (eqb (number (thirty_before w t)) 0) 7 _ (omega arith)
    (unless_not3 (not (eqb cop 0)) 16 _ (omega arith) (unless_not3 (has_candidate (family_of kind) sat cop w t room) 10 later (omega arith) h))))))))

tag_not3 : (sat kind cop l status w t : ℕ) (given : List ℕ) (verdict : Bool) (room : List ℕ) → is_store room ≡ true
    → tag_number sat kind cop l status w t given verdict room ≢ 3
unfolding tag_number
tag_not3 sat kind cop l status w t given verdict room s =
    candidate_not3 (cop_allowed cop && length_allowed l) (kind_known kind && status_known status) sat kind cop w t room _ s
    (unless_not3 (given_agrees (family_of kind) given (candidate_record (family_of kind) sat w t room)) 11 _ (omega arith)
    (unless_not3 verdict 17 _ (omega arith) (unless_not3 (status_adds status) 18 0 (omega arith) (omega arith))))

ask_not3 : (f : Family) (sat : ℕ) (room : List ℕ) → is_store room ≡ true → ask_number f sat room ≢ 3
unfolding ask_number
ask_not3 f sat room s =
    store_not3 room _ s
    (unless_not3 (is_satellite sat) 4 _ (omega arith)
    (unless_not3 (some_enough f sat room) 12 _ (omega arith)
    (unless_not3 (not (age_unknown f sat room)) 24 _ (omega arith)
    (unless_not3 (eqb (number (time_before f (answering_row f sat room) (answering_record f sat room))) 0) 7 0 (omega arith) (omega arith)))))

-- on a store no call is answered 3
pub store_never_3 : (c : Call) (room : List ℕ) → is_store room ≡ true → number (answer_to c room) ≢ 3
unfolding answer_to tag_answer candidate_number ask_answer reset_number
store_never_3 (fresh_call d n rule) room s = answer_not3 (fresh_number d n rule room) _ (fresh_not3 d n rule room)
store_never_3 (feed_call word sat w t band) room s = answer_not3 (feed_number word sat w t band room) _ (feed_not3 word sat w t band room s)
store_never_3 (tag_call sat kind cop l status w t given verdict) room s =
    answer_not3 (tag_number sat kind cop l status w t given verdict room) _ (tag_not3 sat kind cop l status w t given verdict room s)
store_never_3 (candidate_call sat kind cop w t) room s =
    answer_not3 (until_candidate (cop_allowed cop) (kind_known kind) sat kind cop w t room 0) _
    (candidate_not3 (cop_allowed cop) (kind_known kind) sat kind cop w t room 0 s (omega arith))
store_never_3 (ask_call f sat) room s = answer_not3 (ask_number f sat room) _ (ask_not3 f sat room s)
store_never_3 reset_call room s = answer_not3 (unless (is_store room) 3 0) _ (store_not3 room 0 s (omega arith))

-- ---- from a fresh call that succeeded, after any calls, the latest first
module _ (d n rule : ℕ) (room : List ℕ) (made : number (answer_to (fresh_call d n rule) room) ≡ 0) where
  made_store : is_store (room_after (fresh_call d n rule) room) ≡ true
  unfolding answer_to room_after
  made_store = fresh_stores d n rule room (sym (number_answer (fresh_number d n rule room) []) ∙ made)

  pub run_stays : (calls : List Call) → is_store (run (room_after (fresh_call d n rule) room) calls) ≡ true
  run_stays calls = calls_stay calls (room_after (fresh_call d n rule) room) made_store

  pub run_never_3 : (calls : List Call) (c : Call) → number (answer_to c (run (room_after (fresh_call d n rule) room) calls)) ≢ 3
  run_never_3 calls c = store_never_3 c (run (room_after (fresh_call d n rule) room) calls) (run_stays calls)
