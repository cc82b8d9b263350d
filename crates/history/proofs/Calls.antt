-- What each call leaves at one place, by the record that the line had there before it: a word keeps the count or breaks the line, an
-- accepted tag adds where it counts, a reset leaves no count, a fresh store has none. Assumes nothing.
use mathlib.Core.Bool.{Bool, true, false, cond, not, ◌&&◌}
use mathlib.Core.List.{List, [], ◌∷◌}
use mathlib.Core.Logic.{◌≢◌}
use mathlib.Core.Path.{◌≡◌, refl, sym, ap, ◌∙◌}
use Prim.Native.Nat.{ℕ, ◌+◌, ◌<◌, ◌≤◌, min}
use native.Mathlib.Omega.{arith}
use native.Mathlib.Decide.{ℕ_discrete}
use lib.Dec.{eqb}
use borrow.Author.Tests.{eqb-true, eq-eqb, ne_eqb}
use lib.ListN.{length}
use Rattle.paper.specs.Number.{number}
use Rattle.paper.specs.Time.{start_of, is_time, is_start}
use Rattle.paper.specs.Satellite.{is_satellite}
use Rattle.paper.specs.Record.{Family, CED, Timing, size, data_bytes, satellite, count, data_of, same_bits, aged, most_count, same_family, ages_at}
use Rattle.paper.specs.Room.{depth, slots, current, row_of, record_of, depth_at, slots_at}
use Rattle.paper.specs.Word.{fed_record}
use Rattle.paper.specs.Store.{InRange, is_store}
use Rattle.paper.specs.Fresh.{fresh}
use Rattle.paper.specs.Feed.{moves, rises_by, chosen, fed}
use Rattle.paper.specs.Tag.{family_of, kind_known, status_known, cop_allowed, length_allowed, thirty_before, candidate_record, has_candidate, given_agrees, matches, tagged, taken_by}
use Rattle.paper.specs.Reset.{reset}
use Rattle.paper.specs.Answer.{fresh_number, fresh_room, feed_number, feed_room, until_candidate, from_candidate, tag_number, tag_answer, tag_room, reset_number, reset_room}
use Rattle.paper.specs.Call.{Call, fresh_call, feed_call, tag_call, reset_call, answer_to, room_after}
use Rattle.paper.proofs.Views.{length_row_of, other, length_record}
use Rattle.paper.proofs.RecordViews.{with_count_count, aged_satellite, aged_count, aged_data, credited_satellite, credited_data, credited_count, blank_count}
use Rattle.paper.proofs.WordViews.{row_ahead, row_settled, row_taken, row_taken_length, row_taken_record, fed_header, fed_record_lem, fed_there}
use Rattle.paper.proofs.CallViews.{fresh_depth, fresh_slots, fresh_record, tagged_header, tagged_record, tagged_other, reset_header, reset_record}
use Rattle.paper.proofs.StoreFacts.{both_true, store_facts, store_record}
use Rattle.stays.proofs.Rows.{either_family}
use Rattle.paper.proofs.Order.{unless_zero}
use Rattle.stays.proofs.Rooms.{fresh_allowed, candidate_satellite}
use Rattle.stays.proofs.Stays.{number_answer}
use Rattle.history.specs.Line.{Place, Inside, at, succeeds, fills, past, same}
use Rattle.history.proofs.Records.{Kept, Alike, alike_kept, kept_from, fed_kept}

-- ---- the room after a call: changed where the call succeeds, else as it was
pub fresh_after : (d n rule : ℕ) (room : List ℕ)
    → room_after (fresh_call d n rule) room ≡ cond (succeeds (fresh_call d n rule) room) (fresh d n rule room) room
unfolding answer_to room_after fresh_room
fresh_after d n rule room = rw (number_answer (fresh_number d n rule room) [])

pub feed_after : (word : List ℕ) (sat w t band : ℕ) (room : List ℕ)
    → room_after (feed_call word sat w t band) room
    ≡ cond (succeeds (feed_call word sat w t band) room) (fed w (start_of t) sat band word room) room
unfolding answer_to room_after feed_room
feed_after word sat w t band room = rw (number_answer (feed_number word sat w t band room) [])

pub tag_after : (sat kind cop l status w t : ℕ) (given : List ℕ) (verdict : Bool) (room : List ℕ)
    → room_after (tag_call sat kind cop l status w t given verdict) room
    ≡ cond (succeeds (tag_call sat kind cop l status w t given verdict) room)
    (tagged (family_of kind) (candidate_record (family_of kind) sat w t room) l room)
    room
unfolding answer_to room_after tag_answer tag_room
tag_after sat kind cop l status w t given verdict room =
    rw (number_answer (tag_number sat kind cop l status w t given verdict room) (taken_by (family_of kind) (candidate_record (family_of kind) sat w t room) room ∷ []))

pub reset_after : (room : List ℕ) → room_after reset_call room ≡ cond (succeeds reset_call room) (reset room) room
unfolding answer_to room_after reset_room
reset_after room = rw (number_answer (reset_number room) [])

-- ---- places
inside_same : (x y : List ℕ) (place : Place) → depth y ≡ depth x → slots y ≡ slots x → Inside y place → Inside x place
inside_same x y place d n i = record { row = rw d at i.row; slot = rw n at i.slot }

-- the past of a place inside a store lies inside it
pub inside_past : (room : List ℕ) → is_store room ≡ true → (call : Call) (place : Place) → Inside room place → Inside room (past call room place)
inside_past room s call place i = record { row = go (fills call room place.row); slot = i.slot }
  where
    go : (b : Bool) → cond b (current room) place.row < depth room
    go true = (store_facts room s).in_ring
    go false = i.row

-- ---- a fresh store
pub fresh_none : (d n rule : ℕ) (room : List ℕ) → succeeds (fresh_call d n rule) room ≡ true → (place : Place) → Inside (fresh d n rule room) place
    → count (at (fresh d n rule room) place) ≡ 0
unfolding answer_to
fresh_none d n rule room e place i =
    let fits = (fresh_allowed d n rule room (sym (number_answer (fresh_number d n rule room) []) ∙ eqb-true _ 0 e)).1 in
    let r : place.row < d = rw (fresh_depth d n rule room fits) at i.row in
    let g : place.slot < n = rw (fresh_slots d n rule room fits) at i.slot in
    ap count (fresh_record d n rule room fits place.family place.row r place.slot g) ∙ blank_count place.family

-- ---- a word
module _ (w t sat band : ℕ) (word room : List ℕ) (s : is_store room ≡ true) where
  F : InRange room
  F = store_facts room s

  module _ (f : Family) (i : ℕ) (g : i < slots room) where
    -- the record of the current row before the word, and in the row that is current when it comes
    abbrev before : List ℕ
    before = record_of f i (row_of (current room) room)

    abbrev ready : List ℕ
    ready = record_of f i (row_taken w t room)

    length_before : length before ≡ size f
    length_before = length_record f (slots room) i (row_of (current room) room) (length_row_of room F (current room) F.in_ring) g

    ready_alike : Alike f before ready
    ready_alike = rw (row_taken_record w t room F f i g) (go (moves w t room))
      where
        go : (b : Bool) → Alike f before (cond b (aged f (rises_by w t room) before) before)
        go true =
            record {
              satellites = aged_satellite f (rises_by w t room) before length_before;
              counts = aged_count f (rises_by w t room) before length_before;
              datas = aged_data f (rises_by w t room) before length_before;
            }
        go false = record { satellites = refl; counts = refl; datas = refl }

    fed_current_lem : Kept f before (record_of f i (row_of (row_settled w t room) (fed w t sat band word room)))
    fed_current_lem = rw (fed_record_lem w t sat band word room F f i g) (go (eqb i (chosen f sat (slots room) (row_taken w t room))))
      where
        free : satellite ready ≡ 0 → count ready ≡ 0
        free z = ready_alike.counts ∙ (store_record room s f (current room) F.in_ring i g).none (sym ready_alike.satellites ∙ z)

        go : (b : Bool) → Kept f before (cond b (fed_record f sat band word ready) ready)
        go true =
            kept_from f before ready (fed_record f sat band word ready) ready_alike
            (fed_kept f sat band word ready (length_record f (slots room) i (row_taken w t room) (row_taken_length w t room F) g) free)
        go false = alike_kept f before ready ready_alike

    -- in any row: the past lies in the row copied from, where the ring moved to this one
    pub fed_at : (r : ℕ)
        → Kept f (record_of f i (row_of (cond (moves w t room && eqb r (row_ahead room)) (current room) r) room))
        (record_of f i (row_of r (fed w t sat band word room)))
    fed_at r = go (ℕ_discrete r (row_settled w t room))
      where
        here : (b : Bool) → r ≡ cond b (row_ahead room) (current room) → cond (b && eqb r (row_ahead room)) (current room) r ≡ current room
        here true e = rw (eq-eqb r (row_ahead room) e)
        here false e = e

        there : (b : Bool) → r ≢ cond b (row_ahead room) (current room) → cond (b && eqb r (row_ahead room)) (current room) r ≡ r
        there true e = rw (ne_eqb r (row_ahead room) e)
        there false e = refl

        go : Dec (r ≡ row_settled w t room)
            → Kept f (record_of f i (row_of (cond (moves w t room && eqb r (row_ahead room)) (current room) r) room))
            (record_of f i (row_of r (fed w t sat band word room)))
        go (yes e) = rw (here (moves w t room) e, e) fed_current_lem
        go (no e) =
            rw (there (moves w t room) e)
            (alike_kept f (record_of f i (row_of r room)) (record_of f i (row_of r (fed w t sat band word room)))
            (rw (fed_there w t sat band word room F r e) (record { satellites = refl; counts = refl; datas = refl })))

  pub fed_inside : (place : Place) → Inside (fed w t sat band word room) place → Inside room place
  fed_inside place i =
      inside_same room (fed w t sat band word room) place (fed_header w t sat band word room F depth_at (omega arith) (omega arith))
      (fed_header w t sat band word room F slots_at (omega arith) (omega arith)) i

-- ---- a tag
-- what a tag of length l leaves of a record x: y, with the length added where it counts
pub record Tagged (f : Family) (l : ℕ) (counts : Bool) (x y : List ℕ) : Type 0 where
  pub satellites : satellite y ≡ satellite x
  pub datas : data_of f y ≡ data_of f x
  pub sum : count y ≡ cond counts (min most_count (count x + l)) (count x)

pub one_family : (g f : Family) → same_family g f ≡ true → g ≡ f
one_family CED CED e = refl
one_family CED Timing e = cc
one_family Timing CED e = cc
one_family Timing Timing e = refl

family_same : (f : Family) → same_family f f ≡ true
family_same CED = refl
family_same Timing = refl

family_other : (f : Family) → same_family f (other f) ≡ false
family_other CED = refl
family_other Timing = refl

module _ (g : Family) (candidate : List ℕ) (l : ℕ) (room : List ℕ) (s : is_store room ≡ true) where
  module _ (r i : ℕ) (h : r < depth room) (b : i < slots room) where
    abbrev untagged : Family → List ℕ
    untagged f = record_of f i (row_of r room)

    abbrev once : Family → List ℕ
    once f = record_of f i (row_of r (tagged g candidate l room))

    long_enough : ages_at ≤ length (untagged g)
    long_enough = omega (arith, length_record g (slots room) i (row_of r room) (length_row_of room (store_facts room s) r h) b)

    tagged_own : Tagged g l (same_family g g && same g (untagged g) candidate) (untagged g) (once g)
    unfolding same matches
    tagged_own =
        rw (family_same g, tagged_record g candidate l room (store_facts room s) r h i b)
        (record {
          satellites = credited_satellite g (satellite candidate) (data_of g candidate) l (untagged g);
          datas = credited_data g (satellite candidate) (data_of g candidate) l (untagged g);
          sum = credited_count g (satellite candidate) (data_of g candidate) l (untagged g) long_enough;
        })

    tagged_another : Tagged (other g) l (same_family g (other g) && same (other g) (untagged (other g)) candidate) (untagged (other g)) (once (other g))
    tagged_another =
        rw (family_other g, tagged_other g candidate l room (store_facts room s) r h i b) (record { satellites = refl; datas = refl; sum = refl })

    pub tagged_at : (f : Family) → Tagged f l (same_family g f && same f (untagged f) candidate) (untagged f) (once f)
    tagged_at = either_family (λ (f : Family). Tagged f l (same_family g f && same f (untagged f) candidate) (untagged f) (once f)) g tagged_own tagged_another

  pub tagged_inside : (place : Place) → Inside (tagged g candidate l room) place → Inside room place
  tagged_inside place i =
      inside_same room (tagged g candidate l room) place (tagged_header g candidate l room (store_facts room s) depth_at (omega arith))
      (tagged_header g candidate l room (store_facts room s) slots_at (omega arith)) i

-- what a tag that was answered 0 had: a candidate of its satellite, given data of its bits, and the verdict yes
pub record Accepted (f : Family) (sat : ℕ) (given : List ℕ) (verdict : Bool) (candidate : List ℕ) : Type 0 where
  pub satellites : satellite candidate ≡ sat
  pub bits : same_bits f given (data_of f candidate) ≡ true
  pub whole : length given ≡ data_bytes f
  pub yes : verdict ≡ true

-- and what it had passed before: its COP, and a candidate for it in the row of the subframe before
pub record Passed (f : Family) (sat cop w t : ℕ) (room : List ℕ) : Type 0 where
  pub allowed : cop_allowed cop ≡ true
  pub before : number (thirty_before w t) ≡ 0
  pub found : has_candidate f sat cop w t room ≡ true

module _ (sat kind cop l status w t : ℕ) (given : List ℕ) (verdict : Bool) (room : List ℕ) where
  abbrev f : Family
  f = family_of kind

  abbrev candidate : List ℕ
  candidate = candidate_record f sat w t room

  number_passed : tag_number sat kind cop l status w t given verdict room ≡ 0
      → Passed f sat cop w t room × (from_candidate f given candidate verdict status ≡ 0)
  unfolding tag_number until_candidate
  number_passed e =
      let n1 = unless_zero (is_store room) 3 _ (omega arith) e in
      let n2 = unless_zero (is_satellite sat) 4 _ (omega arith) n1.1 in
      let n3 = unless_zero (is_time t) 5 _ (omega arith) n2.1 in
      let n4 = unless_zero (is_start t) 6 _ (omega arith) n3.1 in
      let n5 = unless_zero (cop_allowed cop && length_allowed l) 8 _ (omega arith) n4.1 in
      let n6 = unless_zero (kind_known kind && status_known status) 9 _ (omega arith) n5.1 in
      let n7 = unless_zero (eqb (number (thirty_before w t)) 0) 7 _ (omega arith) n6.1 in
      let n8 = unless_zero (not (eqb cop 0)) 16 _ (omega arith) n7.1 in
      let n9 = unless_zero (has_candidate f sat cop w t room) 10 _ (omega arith) n8.1 in
      (record { allowed = (both_true (cop_allowed cop) (length_allowed l) n5.0).0; before = eqb-true _ 0 n7.0; found = n9.0 }, n9.1)

  number_accepted : tag_number sat kind cop l status w t given verdict room ≡ 0 → Accepted f sat given verdict candidate
  unfolding given_agrees
  number_accepted e =
      let p = number_passed e in
      let n10 = unless_zero (given_agrees f given candidate) 11 _ (omega arith) p.1 in
      let n11 = unless_zero verdict 17 _ (omega arith) n10.1 in
      let agree = both_true (eqb (length given) (data_bytes f)) (same_bits f given (data_of f candidate)) n10.0 in
      record {
        satellites = candidate_satellite f sat cop w t room p.0.found;
        bits = agree.1;
        whole = eqb-true (length given) (data_bytes f) agree.0;
        yes = n11.0;
      }

  answered_0 : succeeds (tag_call sat kind cop l status w t given verdict) room ≡ true → tag_number sat kind cop l status w t given verdict room ≡ 0
  unfolding answer_to tag_answer
  answered_0 e = sym (number_answer (tag_number sat kind cop l status w t given verdict room) (taken_by f candidate room ∷ [])) ∙ eqb-true _ 0 e

  pub tag_passed : succeeds (tag_call sat kind cop l status w t given verdict) room ≡ true → Passed f sat cop w t room
  tag_passed e = (number_passed (answered_0 e)).0

  pub tag_accepted_lem : succeeds (tag_call sat kind cop l status w t given verdict) room ≡ true → Accepted f sat given verdict candidate
  tag_accepted_lem e = number_accepted (answered_0 e)

-- ---- a reset
module _ (room : List ℕ) (s : is_store room ≡ true) where
  pub reset_succeeds : succeeds reset_call room ≡ true
  unfolding answer_to reset_number
  reset_succeeds = rw s

  pub reset_none : (place : Place) → Inside room place → count (at (reset room) place) ≡ 0
  reset_none place i =
      ap count (reset_record room (store_facts room s) place.row i.row place.family place.slot i.slot)
      ∙ with_count_count 0 (at room place)
      (omega (
        arith,
        length_record place.family (slots room) place.slot (row_of place.row room)
            (length_row_of room (store_facts room s) place.row i.row) i.slot,
      ))

  pub reset_inside : (place : Place) → Inside (reset room) place → Inside room place
  reset_inside place i =
      inside_same room (reset room) place (reset_header room (store_facts room s) depth_at (omega arith)) (reset_header room (store_facts room s) slots_at (omega arith)) i
