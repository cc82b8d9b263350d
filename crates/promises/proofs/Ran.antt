-- Whatever ran leaves the room that its history gives, and so of a covered room all holds that holds after a fresh call: every count was
-- earned, no call is answered 3, every record is made of words that were fed, and under rule 1 every COP, tag and time holds. Assumes nothing.
use mathlib.Core.Bool.{Bool, true}
use mathlib.Core.List.{List, [], ◌∷◌, ◌++◌}
use mathlib.Core.Path.{◌≡◌, sym, ap, subst, ◌∙◌}
use Prim.Native.Nat.{ℕ, ◌≤◌}
use lib.ListN.{length, take, drop, take-append-drop}
use lib.Seq.{take_at, drop_at, length-take-le}
use Rattle.paper.specs.Record.{Family, satellite, data_of}
use Rattle.paper.specs.Store.{is_store}
use Rattle.paper.specs.Message.{Head, form_family, message}
use Rattle.paper.specs.Call.{Call, fresh_call, room_after, run}
use Rattle.paper.proofs.SameMessage.{same_message}
use Rattle.stays.proofs.Stays.{run_after, run_stays, store_never_3}
use Rattle.stays.proofs.Untouched.{run_length}
use Rattle.stays.proofs.Slices.{lent_room}
use Rattle.history.specs.Line.{Place, Inside, at, Tag, tags}
use Rattle.history.specs.Demand.{EachFor, Earned}
use Rattle.history.proofs.Demand.{demand_3}
use Rattle.since.specs.Brought.{Origin, brought, BitsHold, AgesHold, AfterFresh}
use Rattle.since.proofs.Brought.{bits_hold, ages_hold, cop_holds, tag_holds}
use Rattle.since.proofs.Asked.{time_holds}
use Rattle.intake.specs.Input.{input_items}
use Rattle.intake.proofs.Calls.{room_of_calls}
use Rattle.promises.specs.Outcomes.{Did, fresh_did, feed_did, tag_did, reset_did, part_did, c_fresh_did, c_feed_did, c_tag_did, c_reset_did, c_part_did, Deeds, deeds_of}
use Rattle.promises.specs.Covered.{Made, Lent, Ran, wholes, history, Left, by_runs, by_input, Covered, since_fresh, tags_of, words_of}
use Rattle.promises.specs.Statements.{Demand3OfTheCode, Never3OfTheCode, BitsOfTheCode, AgesOfTheCode, CopOfTheCode, TagOfTheCode, TimeOfTheCode}
use Rattle.promises.specs.Statements.{EachTag, MessagesOfTheCode}
use Rattle.promises.proofs.Joined.{fresh_is_step, feed_is_step, tag_is_step, reset_authbits_is_step}
use Rattle.promises.proofs.Exports.{exported_fresh_is_step, exported_feed_is_step, exported_tag_is_step, exported_reset_authbits_is_step}
use Rattle.promises.proofs.Whole.{read_in_parts}

-- ---- one run: of what it was lent it leaves what its calls leave
did_is_run : (did : Did) → (deeds_of did).left ≡ run (deeds_of did).lent (deeds_of did).calls
unfolding run
did_is_run (fresh_did o) = (fresh_is_step o).1
did_is_run (feed_did o) = (feed_is_step o).1
did_is_run (tag_did o) = (tag_is_step o).1
did_is_run (reset_did o) = (reset_authbits_is_step o).1
did_is_run (part_did o) = o.permitted.0.leaves ∙ room_of_calls o.arguments.1.0.now [] _
did_is_run (c_fresh_did o) = (exported_fresh_is_step o).1
did_is_run (c_feed_did o) = (exported_feed_is_step o).1
did_is_run (c_tag_did o) = (exported_tag_is_step o).1
did_is_run (c_reset_did o) = (exported_reset_authbits_is_step o).1
did_is_run (c_part_did o) = o.permitted.0.leaves ∙ room_of_calls o.arguments.1.0.now [] _

-- calls on the first bytes of a room, as the whole room sees them
wholes_run : (k : ℕ) (room : List ℕ) → k ≤ length room → (calls : List Call)
    → run (take k room) calls ++ drop k room ≡ run room (wholes k room calls)
unfolding run
wholes_run k room h [] = take-append-drop k room
wholes_run k room h (call ∷ before) =
    let front : List ℕ = run (take k room) before in
    let whole : List ℕ = run room (wholes k room before) in
    let size : length front ≡ k = run_length before (take k room) ∙ length-take-le k room h in
    let is : front ++ drop k room ≡ whole = wholes_run k room h before in
    let fits : k ≤ length whole = rw (run_length (wholes k room before) room) h in
    let first : take k whole ≡ front = ap (take k) (sym is) ∙ take_at front (drop k room) k size in
    let past : drop k whole ≡ drop k room = ap (drop k) (sym is) ∙ drop_at front (drop k room) k size in
    ap (λ (x : List ℕ). room_after call x ++ drop k room) (sym first)
    ∙ ap (λ (x : List ℕ). room_after call (take k whole) ++ x) (sym past)
    ∙ lent_room k whole fits call

lent_is_run : (k : ℕ) (before after : List ℕ) (deeds : Deeds) → deeds.left ≡ run deeds.lent deeds.calls → Lent k before after deeds
    → after ≡ run before (wholes k before deeds.calls)
lent_is_run k before after deeds e L =
    L.whole
    ∙ ap (λ (x : List ℕ). x ++ drop k before) (e ∙ ap (λ (x : List ℕ). run x deeds.calls) L.first)
    ∙ wholes_run k before L.inside deeds.calls

-- ---- one after the other
pub ran_is_run : (start : List ℕ) (made : List Made) (now : List ℕ) → Ran start made now → now ≡ run start (history start made)
unfolding run
ran_is_run start [] now ran = ran
ran_is_run start (m ∷ before) now ran =
    let k : ℕ = m.bytes in
    let calls : List Call = (deeds_of m.did).calls in
    lent_is_run k ran.room now (deeds_of m.did) (did_is_run m.did) ran.lent
    ∙ ap (λ (x : List ℕ). run x (wholes k x calls)) (ran_is_run start before ran.room ran.ran)
    ∙ sym (run_after start (wholes k (run start (history start before)) calls) (history start before))

left_is_run : {start : List ℕ} {calls : List Call} {now : List ℕ} → Left start calls now → now ≡ run start calls
unfolding run
left_is_run (by_runs {start} {now} made ran) = ran_is_run start made now ran
left_is_run (by_input {start} {now} traced parts input text read) =
    (read_in_parts traced parts input start text now read).1 ∙ room_of_calls start [] (input_items input)

-- since the fresh call
since_fresh_lem : (start now : List ℕ) (before : List Call) (d n rule : ℕ) (later : List Call) → Left start (later ++ (fresh_call d n rule ∷ before)) now
    → now ≡ run (room_after (fresh_call d n rule) (run start before)) later
unfolding run
since_fresh_lem start now before d n rule later left = left_is_run left ∙ run_after start later (fresh_call d n rule ∷ before)

-- ---- a covered room
pub store_of_the_code : {now : List ℕ} → Covered now → is_store now ≡ true
store_of_the_code (since_fresh {now} start before d n rule later left made) =
    ap is_store (since_fresh_lem start now before d n rule later left) ∙ run_stays d n rule (run start before) made later

pub demand_3_of_the_code : Demand3OfTheCode
demand_3_of_the_code now (since_fresh start before d n rule later left made) place =
    subst (λ (x : List ℕ). Inside x place → Earned place.family (at x place) (tags (room_after (fresh_call d n rule) (run start before)) later place))
    (sym (since_fresh_lem start now before d n rule later left)) (demand_3 (run start before) d n rule made later place)

pub never_3_of_the_code : Never3OfTheCode
never_3_of_the_code now covered call = store_never_3 call now (store_of_the_code covered)

-- what holds of the words after a fresh call holds of a covered room's
words_of_the_code : (Statement : List ℕ → (ℕ → Place → Origin) → Type 0) → AfterFresh Statement → (now : List ℕ) (covered : Covered now)
    → Statement now (words_of covered)
words_of_the_code Statement holds now (since_fresh start before d n rule later left made) =
    subst (λ (x : List ℕ). Statement x (λ k. brought k (room_after (fresh_call d n rule) (run start before)) later))
    (sym (since_fresh_lem start now before d n rule later left)) (holds (run start before) d n rule made later)

pub bits_of_the_code : BitsOfTheCode
bits_of_the_code = words_of_the_code BitsHold bits_hold

pub ages_of_the_code : AgesOfTheCode
ages_of_the_code = words_of_the_code AgesHold ages_hold

pub cop_of_the_code : CopOfTheCode
cop_of_the_code now covered = cop_holds now (words_of covered) (bits_of_the_code now covered) (ages_of_the_code now covered)

pub tag_of_the_code : TagOfTheCode
tag_of_the_code now covered = tag_holds now (words_of covered) (cop_of_the_code now covered)

pub time_of_the_code : TimeOfTheCode
time_of_the_code now covered = time_holds now (words_of covered) (store_of_the_code covered) (ages_of_the_code now covered)

-- ---- messages
each_message : (form : ℕ) (head : Head) (sat : ℕ) (bytes : List ℕ) (ts : List Tag) → EachFor (form_family form) sat bytes ts
    → EachTag (λ (tag : Tag). message form head tag.given ≡ message form head bytes) ts
each_message form head sat bytes [] e = tt
each_message form head sat bytes (tag ∷ rest) e =
    (same_message form head tag.given bytes e.0.bits, each_message form head sat bytes rest e.1)

pub messages_of_the_code : MessagesOfTheCode
messages_of_the_code now covered place inside form f head =
    each_message form head (satellite (at now place)) (data_of place.family (at now place)) (tags_of covered place)
    (subst (λ (g : Family). EachFor g (satellite (at now place)) (data_of place.family (at now place)) (tags_of covered place)) (sym f)
    (demand_3_of_the_code now covered place inside).each)
