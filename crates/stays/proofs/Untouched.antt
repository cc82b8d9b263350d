-- "Bytes past the formula's length are never touched", by any call on any room, and no call changes the room's length. Assumes nothing.
use mathlib.Core.Bool.{Bool}
use mathlib.Core.List.{List, [], ◌∷◌}
use mathlib.Core.Path.{◌≡◌, refl, ◌∙◌}
use Prim.Native.Nat.{ℕ, ◌≤◌}
use native.Mathlib.Omega.{arith}
use lib.ListN.{length, drop}
use Rattle.paper.specs.Record.{Family}
use Rattle.paper.specs.Room.{room_size, depth, slots, depth_at, slots_at}
use Rattle.paper.specs.Store.{InRange, is_store}
use Rattle.paper.specs.Fresh.{fresh}
use Rattle.paper.specs.Feed.{fed}
use Rattle.paper.specs.Tag.{tagged, family_of, candidate_record}
use Rattle.paper.specs.Reset.{reset}
use Rattle.paper.specs.Answer.{fresh_number, fresh_room, feed_number, feed_room, until_candidate, tag_number, tag_room, reset_number, reset_room}
use Rattle.paper.specs.Call.{Call, fresh_call, feed_call, tag_call, candidate_call, ask_call, reset_call, room_after, run}
use Rattle.paper.specs.Time.{start_of}
use Rattle.paper.proofs.WordViews.{fed_length, fed_header, fed_past}
use Rattle.paper.proofs.CallViews.{fresh_length, fresh_depth, fresh_slots, fresh_past, tagged_length, tagged_header, tagged_past, reset_length, reset_header, reset_past}
use Rattle.paper.proofs.StoreFacts.{store_facts}
use Rattle.paper.proofs.Order.{unless_zero}
use Rattle.stays.proofs.Rooms.{room_for_lem, fresh_allowed}
use Rattle.stays.specs.Lent.{reach, MakesWithin, MakeWithin}

-- what a number 0 says first: the room is a store
word_lent : (word : List ℕ) (sat w t band : ℕ) (room : List ℕ) → feed_number word sat w t band room ≡ 0 → InRange room
unfolding feed_number
word_lent word sat w t band room e = store_facts room (unless_zero (is_store room) 3 _ (omega arith) e).0

tag_lent : (sat kind cop l status w t : ℕ) (given : List ℕ) (verdict : Bool) (room : List ℕ) → tag_number sat kind cop l status w t given verdict room ≡ 0 → InRange room
unfolding tag_number until_candidate
tag_lent sat kind cop l status w t given verdict room e = store_facts room (unless_zero (is_store room) 3 _ (omega arith) e).0

reset_lent : (room : List ℕ) → reset_number room ≡ 0 → InRange room
unfolding reset_number
reset_lent room e = store_facts room (unless_zero (is_store room) 3 0 (omega arith) e).0

-- nothing past the reach of a call changes
pub call_untouched : (c : Call) (room : List ℕ) (k : ℕ) → reach c room ≤ k → drop k (room_after c room) ≡ drop k room
unfolding room_after fresh_room feed_room tag_room reset_room
call_untouched (fresh_call d n rule) room k h =
    room_for_lem (λ (x : List ℕ). drop k x ≡ drop k room) (fresh_number d n rule room) (fresh d n rule room) room
    (λ e. fresh_past d n rule room (fresh_allowed d n rule room e).1 k h)
    refl
call_untouched (feed_call word sat w t band) room k h =
    room_for_lem (λ (x : List ℕ). drop k x ≡ drop k room) (feed_number word sat w t band room) (fed w (start_of t) sat band word room) room
    (λ e. fed_past w (start_of t) sat band word room (word_lent word sat w t band room e) k h)
    refl
call_untouched (tag_call sat kind cop l status w t given verdict) room k h =
    room_for_lem (λ (x : List ℕ). drop k x ≡ drop k room) (tag_number sat kind cop l status w t given verdict room)
    (tagged (family_of kind) (candidate_record (family_of kind) sat w t room) l room) room
    (λ e. tagged_past (family_of kind) (candidate_record (family_of kind) sat w t room) l room (tag_lent sat kind cop l status w t given verdict room e) k h)
    refl
call_untouched (candidate_call sat kind cop w t) room k h = refl
call_untouched (ask_call f sat) room k h = refl
call_untouched reset_call room k h =
    room_for_lem (λ (x : List ℕ). drop k x ≡ drop k room) (reset_number room) (reset room) room (λ e. reset_past room (reset_lent room e) k h) refl

-- the room is as long as it was
pub call_length : (c : Call) (room : List ℕ) → length (room_after c room) ≡ length room
unfolding room_after fresh_room feed_room tag_room reset_room
call_length (fresh_call d n rule) room =
    room_for_lem (λ (x : List ℕ). length x ≡ length room) (fresh_number d n rule room) (fresh d n rule room) room
    (λ e. fresh_length d n rule room (fresh_allowed d n rule room e).1)
    refl
call_length (feed_call word sat w t band) room =
    room_for_lem (λ (x : List ℕ). length x ≡ length room) (feed_number word sat w t band room) (fed w (start_of t) sat band word room) room
    (λ e. fed_length w (start_of t) sat band word room (word_lent word sat w t band room e))
    refl
call_length (tag_call sat kind cop l status w t given verdict) room =
    room_for_lem (λ (x : List ℕ). length x ≡ length room) (tag_number sat kind cop l status w t given verdict room)
    (tagged (family_of kind) (candidate_record (family_of kind) sat w t room) l room) room
    (λ e. tagged_length (family_of kind) (candidate_record (family_of kind) sat w t room) l room (tag_lent sat kind cop l status w t given verdict room e))
    refl
call_length (candidate_call sat kind cop w t) room = refl
call_length (ask_call f sat) room = refl
call_length reset_call room =
    room_for_lem (λ (x : List ℕ). length x ≡ length room) (reset_number room) (reset room) room (λ e. reset_length room (reset_lent room e)) refl

pub run_length : (calls : List Call) (room : List ℕ) → length (run room calls) ≡ length room
unfolding run
run_length [] room = refl
run_length (c ∷ before) room = call_length c (run room before) ∙ run_length before room

-- ---- calls after each other
-- the store ends where it ended, but for a fresh call
abbrev Within : ℕ → List ℕ → Type 0
Within k room = room_size (depth room) (slots room) ≤ k

same_end : (k : ℕ) (x y : List ℕ) → depth y ≡ depth x → slots y ≡ slots x → Within k x → Within k y
same_end k x y d n h = rw (d, n) h

call_within : (c : Call) (room : List ℕ) (k : ℕ) → MakesWithin k c → Within k room → Within k (room_after c room)
unfolding room_after fresh_room feed_room tag_room reset_room
call_within (fresh_call d n rule) room k m h =
    room_for_lem (Within k) (fresh_number d n rule room) (fresh d n rule room) room
    (λ e.
    let fits = (fresh_allowed d n rule room e).1 in
    rw (fresh_depth d n rule room fits, fresh_slots d n rule room fits) m)
    h
call_within (feed_call word sat w t band) room k m h =
    room_for_lem (Within k) (feed_number word sat w t band room) (fed w (start_of t) sat band word room) room
    (λ e.
    let F = word_lent word sat w t band room e in
    same_end k room (fed w (start_of t) sat band word room)
    (fed_header w (start_of t) sat band word room F depth_at (omega arith) (omega arith))
    (fed_header w (start_of t) sat band word room F slots_at (omega arith) (omega arith))
    h)
    h
call_within (tag_call sat kind cop l status w t given verdict) room k m h =
    let f : Family = family_of kind in
    let candidate : List ℕ = candidate_record f sat w t room in
    room_for_lem (Within k) (tag_number sat kind cop l status w t given verdict room) (tagged f candidate l room) room
    (λ e.
    let F = tag_lent sat kind cop l status w t given verdict room e in
    same_end k room (tagged f candidate l room) (tagged_header f candidate l room F depth_at (omega arith)) (tagged_header f candidate l room F slots_at (omega arith)) h)
    h
call_within (candidate_call sat kind cop w t) room k m h = h
call_within (ask_call f sat) room k m h = h
call_within reset_call room k m h =
    room_for_lem (Within k) (reset_number room) (reset room) room
    (λ e.
    let F = reset_lent room e in
    same_end k room (reset room) (reset_header room F depth_at (omega arith)) (reset_header room F slots_at (omega arith)) h)
    h

reach_within : (c : Call) (room : List ℕ) (k : ℕ) → MakesWithin k c → Within k room → reach c room ≤ k
reach_within (fresh_call d n rule) room k m h = m
reach_within (feed_call word sat w t band) room k m h = h
reach_within (tag_call sat kind cop l status w t given verdict) room k m h = h
reach_within (candidate_call sat kind cop w t) room k m h = omega arith
reach_within (ask_call f sat) room k m h = omega arith
reach_within reset_call room k m h = h

run_within : (calls : List Call) (room : List ℕ) (k : ℕ) → MakeWithin k calls → Within k room → Within k (run room calls)
unfolding run
run_within [] room k m h = h
run_within (c ∷ before) room k m h = call_within c (run room before) k m.0 (run_within before room k m.1 h)

-- bytes past the store that was lent, and past any that the calls make, are as they were
pub run_untouched : (calls : List Call) (room : List ℕ) (k : ℕ) → MakeWithin k calls → room_size (depth room) (slots room) ≤ k
    → drop k (run room calls) ≡ drop k room
unfolding run
run_untouched [] room k m h = refl
run_untouched (c ∷ before) room k m h =
    call_untouched c (run room before) k (reach_within c (run room before) k m.0 (run_within before room k m.1 h))
    ∙ run_untouched before room k m.1 h
