-- One call more, kind by kind: each record of the room after it is made of the words that were brought to it. Every other call than a word
-- leaves rows' heads, satellites, ages and data as they are. Assumes nothing.
use mathlib.Core.Bool.{Bool, true, false, cond, ◌&&◌}
use mathlib.Core.List.{List, []}
use mathlib.Core.Logic.{◌≢◌}
use mathlib.Core.Path.{◌≡◌, refl, sym, ap, ◌∙◌}
use Prim.Native.Nat.{ℕ, ◌<◌}
use native.Mathlib.Omega.{arith}
use native.Mathlib.Decide.{ℕ_discrete}
use lib.Dec.{eqb}
use borrow.Author.Tests.{eqb-true, eq-eqb, ne_eqb}
use Rattle.paper.specs.Time.{start_of}
use Rattle.paper.specs.Record.{Family, ages, satellite, ages_of, data_of}
use Rattle.paper.specs.Room.{slots, current, rule, row_of, record_of, slots_at, rule_at, time_rule}
use Rattle.paper.specs.Store.{InRange, is_store}
use Rattle.paper.specs.Fresh.{fresh}
use Rattle.paper.specs.Feed.{moves, settled, marked_at, chosen, fed}
use Rattle.paper.specs.Tag.{family_of, candidate_record, tagged}
use Rattle.paper.specs.Reset.{reset}
use Rattle.paper.specs.Answer.{fresh_number}
use Rattle.paper.specs.Call.{Call, fresh_call, feed_call, tag_call, reset_call, answer_to, room_after}
use Rattle.paper.proofs.RecordViews.{with_count_satellite, with_count_ages, with_count_data, credited_satellite, credited_ages, credited_data}
use Rattle.paper.proofs.WordViews.{row_ahead, row_settled, row_taken, marked_at_record, chosen_same}
use Rattle.paper.proofs.WordViews.{settled_header, settled_current, settled_here, fed_there, fed_header}
use Rattle.paper.proofs.CallViews.{fresh_depth, fresh_slots, fresh_record, tagged_header, tagged_head, tagged_record, tagged_other, reset_header, reset_head, reset_record}
use Rattle.paper.proofs.StoreFacts.{store_facts}
use Rattle.stays.proofs.Rows.{either_family}
use Rattle.stays.proofs.Rooms.{fresh_allowed}
use Rattle.stays.proofs.Stays.{number_answer}
use Rattle.history.specs.Line.{Place, Inside, at, succeeds, fills, past, begins}
use Rattle.history.proofs.Calls.{inside_past, fresh_after, feed_after, tag_after, reset_after, fed_inside, tagged_inside, reset_succeeds, reset_inside}
use Rattle.since.specs.Brought.{Fed, Origin, no_word, fed_as, owned_by, owns_age, brings, word_of, held_by}
use Rattle.since.proofs.Changes.{Stands, Same, same_stands, blank_stands}
use Rattle.since.proofs.Word.{Ruled, accepted, word_stands}

-- ---- the rule stays from one fresh call to the next
rule_kept : (timed : Bool) (x y : List ℕ) → rule y ≡ rule x → Ruled timed y → Ruled timed x
rule_kept true x y e ruled = sym (ap (λ (r : ℕ). eqb r time_rule) e) ∙ ruled
rule_kept false x y e ruled = tt

-- ---- a tag and a reset
tagged_same : (g : Family) (candidate : List ℕ) (l : ℕ) (room : List ℕ) → is_store room ≡ true → (place : Place) → Inside room place
    → Same place.family (row_of place.row room) (row_of place.row (tagged g candidate l room)) (at room place) (at (tagged g candidate l room) place)
tagged_same g candidate l room s place i =
    either_family (λ (f : Family). Same f row row' (record_of f place.slot row) (record_of f place.slot row')) g
    (rw (tagged_record g candidate l room F place.row i.row place.slot i.slot)
    (record {
      head = tagged_head g candidate l room F place.row i.row;
      satellites = credited_satellite g (satellite candidate) (data_of g candidate) l (record_of g place.slot row);
      ages = credited_ages g (satellite candidate) (data_of g candidate) l (record_of g place.slot row);
      datas = credited_data g (satellite candidate) (data_of g candidate) l (record_of g place.slot row);
    }))
    (rw (tagged_other g candidate l room F place.row i.row place.slot i.slot)
    (record { head = tagged_head g candidate l room F place.row i.row; satellites = refl; ages = refl; datas = refl }))
    place.family
  where
    F : InRange room
    F = store_facts room s

    row : List ℕ
    row = row_of place.row room

    row' : List ℕ
    row' = row_of place.row (tagged g candidate l room)

reset_same : (room : List ℕ) → is_store room ≡ true → (place : Place) → Inside room place
    → Same place.family (row_of place.row room) (row_of place.row (reset room)) (at room place) (at (reset room) place)
reset_same room s place i =
    let F = store_facts room s in
    let is = reset_record room F place.row i.row place.family place.slot i.slot in
    record {
      head = reset_head room F place.row i.row;
      satellites = ap satellite is ∙ with_count_satellite 0 (at room place);
      ages = ap (ages_of place.family) is ∙ with_count_ages 0 (at room place) place.family;
      datas = ap (data_of place.family) is ∙ with_count_data 0 (at room place) place.family;
    }

as_it_is : (f : Family) (row rec : List ℕ) → Same f row row rec rec
as_it_is f row rec = record { head = λ j h. refl; satellites = refl; ages = refl; datas = refl }

-- ---- a fresh store
pub fresh_stands : (timed : Bool) (k : ℕ) (d n rule : ℕ) (room : List ℕ) → succeeds (fresh_call d n rule) room ≡ true
    → (place : Place) → Inside (fresh d n rule room) place → k < ages place.family
    → Stands timed k place.family (row_of place.row (fresh d n rule room)) (at (fresh d n rule room) place) no_word
unfolding answer_to
fresh_stands timed k d n rule room e place i h =
    let fits = (fresh_allowed d n rule room (sym (number_answer (fresh_number d n rule room) []) ∙ eqb-true _ 0 e)).1 in
    let r : place.row < d = rw (fresh_depth d n rule room fits) at i.row in
    let g : place.slot < n = rw (fresh_slots d n rule room fits) at i.slot in
    rw (fresh_record d n rule room fits place.family place.row r place.slot g)
    (blank_stands timed k place.family h (row_of place.row (fresh d n rule room)))

-- ---- a word, in any row: the past lies in the row copied from, where the ring moved to this one
module _ (timed : Bool) (k : ℕ) (w : Fed) (room : List ℕ) (s : is_store room ≡ true) (ruled : Ruled timed room) (e : accepted w room ≡ true)
    (f : Family) (h : k < ages f) (i : ℕ) (g : i < slots room) (x : Origin) where
  abbrev T : ℕ
  T = start_of w.time

  F : InRange room
  F = store_facts room s

  abbrev given : List ℕ
  given = fed w.week T w.satellite w.band w.bytes room

  -- the slot chosen in the ring as it is settled is the one that the word went to
  chosen_settled : chosen f w.satellite (slots (settled w.week T room)) (row_of (current (settled w.week T room)) (settled w.week T room))
      ≡ chosen f w.satellite (slots room) (row_taken w.week T room)
  chosen_settled =
      rw (settled_current w.week T room F, settled_here w.week T room F, settled_header w.week T room F slots_at (omega arith) (omega arith))
      (chosen_same f w.satellite (slots room) (marked_at w.week T (row_taken w.week T room)) (row_taken w.week T room)
      (λ j q. marked_at_record w.week T (row_taken w.week T room) f j))

  abbrev row_from : ℕ → List ℕ
  row_from r = row_of (cond (moves w.week T room && eqb r (row_ahead room)) (current room) r) room

  abbrev goes_on : ℕ → ℕ → ℕ → Origin
  goes_on r c n =
      cond (eqb r c && eqb i n && owns_age k (owned_by f w)) (fed_as w)
      (held_by (satellite (record_of f i (row_of r given))) (satellite (record_of f i (row_from r))) x)

  fed_stands_at : (r : ℕ) → Stands timed k f (row_from r) (record_of f i (row_from r)) x
      → Stands timed k f (row_of r given) (record_of f i (row_of r given))
      (goes_on r (current (settled w.week T room))
      (chosen f w.satellite (slots (settled w.week T room)) (row_of (current (settled w.week T room)) (settled w.week T room))))
  fed_stands_at r stands = rw (chosen_settled, settled_current w.week T room F) (go (ℕ_discrete r (row_settled w.week T room)))
    where
      here : (b : Bool) → r ≡ cond b (row_ahead room) (current room) → cond (b && eqb r (row_ahead room)) (current room) r ≡ current room
      here true q = rw (eq-eqb r (row_ahead room) q)
      here false q = q

      there : (b : Bool) → r ≢ cond b (row_ahead room) (current room) → cond (b && eqb r (row_ahead room)) (current room) r ≡ r
      there true q = rw (ne_eqb r (row_ahead room) q)
      there false q = refl

      go : Dec (r ≡ row_settled w.week T room)
          → Stands timed k f (row_of r given) (record_of f i (row_of r given))
          (goes_on r (row_settled w.week T room) (chosen f w.satellite (slots room) (row_taken w.week T room)))
      go (yes q) =
          rw (here (moves w.week T room) q, eq-eqb r (row_settled w.week T room) q, q)
          (word_stands w room s e timed ruled k f h i g x (rw (here (moves w.week T room) q) at stands))
      go (no q) =
          rw (there (moves w.week T room) q, ne_eqb r (row_settled w.week T room) q)
          (same_stands timed k f (row_of r room) (row_of r given) (record_of f i (row_of r room)) (record_of f i (row_of r given)) x
          (rw (fed_there w.week T w.satellite w.band w.bytes room F r q) (as_it_is f (row_of r room) (record_of f i (row_of r room))))
          (rw (there (moves w.week T room) q) at stands))

-- ---- one call more
module _ (timed : Bool) (k : ℕ) (room : List ℕ) (s : is_store room ≡ true) (words : Place → Origin)
    (all-stand : Ruled timed room → (place : Place) → Inside room place → k < ages place.family
    → Stands timed k place.family (row_of place.row room) (at room place) (words place)) where
  -- the word at a place after a call, with the line followed through it
  abbrev pub then : Call → Place → Origin
  then call place =
      cond (begins call room) no_word
      (cond (brings k call room place) (word_of call)
      (held_by (satellite (at (room_after call room) place)) (satellite (at room (past call room place))) (words (past call room place))))

  abbrev pub After : Call → Place → Type 0
  After call place =
      Ruled timed (room_after call room) → Inside (room_after call room) place → k < ages place.family
      → Stands timed k place.family (row_of place.row (room_after call room)) (at (room_after call room) place) (then call place)

  stands_past : (call : Call) (place : Place) → Ruled timed room → Inside room place → k < ages place.family
      → Stands timed k place.family (row_of (past call room place).row room) (at room (past call room place)) (words (past call room place))
  stands_past call place ruled i h = all-stand ruled (past call room place) (inside_past room s call place i) h

  -- a call that leaves the room as it is
  pub unchanged : (place : Place) → Ruled timed room → Inside room place → k < ages place.family
      → Stands timed k place.family (row_of place.row room) (at room place) (held_by (satellite (at room place)) (satellite (at room place)) (words place))
  unchanged place ruled i h =
      same_stands timed k place.family (row_of place.row room) (row_of place.row room) (at room place) (at room place) (words place)
      (as_it_is place.family (row_of place.row room) (at room place)) (all-stand ruled place i h)

  pub more_fresh : (d n rule : ℕ) (place : Place) → After (fresh_call d n rule) place
  unfolding begins brings fills
  more_fresh d n rule place ruled i h =
      rw (fresh_after d n rule room)
      (go (succeeds (fresh_call d n rule) room) refl (rw (fresh_after d n rule room) at ruled) (rw (fresh_after d n rule room) at i))
    where
      left : Bool → List ℕ
      left b = cond b (fresh d n rule room) room

      go : (b : Bool) → succeeds (fresh_call d n rule) room ≡ b → Ruled timed (left b) → Inside (left b) place
          → Stands timed k place.family (row_of place.row (left b)) (at (left b) place)
          (cond b no_word (held_by (satellite (at (left b) place)) (satellite (at room place)) (words place)))
      go true e ruled i = fresh_stands timed k d n rule room e place i h
      go false e ruled i = unchanged place ruled i h

  pub more_feed : (w : Fed) (place : Place) → After (feed_call w.bytes w.satellite w.week w.time w.band) place
  unfolding begins brings fills
  more_feed w place ruled i h =
      let was = kept (accepted w room) (rw after at ruled) in
      let j = inside (accepted w room) (rw after at i) in
      rw after (go was j (accepted w room) refl (stands_past call place was j h))
    where
      f : Family
      f = place.family

      T : ℕ
      T = start_of w.time

      call : Call
      call = feed_call w.bytes w.satellite w.week w.time w.band

      x : Origin
      x = words (past call room place)

      given : List ℕ
      given = fed w.week T w.satellite w.band w.bytes room

      after : room_after call room ≡ cond (accepted w room) given room
      after = feed_after w.bytes w.satellite w.week w.time w.band room

      S : List ℕ
      S = settled w.week T room

      -- the row of the record's past, where the word succeeds and where not
      from : Bool → List ℕ
      from b = row_of (cond (b && moves w.week T room && eqb place.row (row_ahead room)) (current room) place.row) room

      kept : (b : Bool) → Ruled timed (cond b given room) → Ruled timed room
      kept true r =
          rule_kept timed room given
          (fed_header w.week T w.satellite w.band w.bytes room (store_facts room s) rule_at (omega arith) (omega arith)) r
      kept false r = r

      inside : (b : Bool) → Inside (cond b given room) place → Inside room place
      inside true j = fed_inside w.week T w.satellite w.band w.bytes room s place j
      inside false j = j

      go : Ruled timed room → Inside room place → (b : Bool) → accepted w room ≡ b
          → Stands timed k f (from b) (record_of f place.slot (from b)) x
          → Stands timed k f (row_of place.row (cond b given room)) (at (cond b given room) place)
          (cond (b && eqb place.row (current S) && eqb place.slot (chosen f w.satellite (slots S) (row_of (current S) S)) && owns_age k (owned_by f w))
          (fed_as w)
          (held_by (satellite (at (cond b given room) place)) (satellite (record_of f place.slot (from b))) x))
      go ruled j true e stands = fed_stands_at timed k w room s ruled e f h place.slot j.slot x place.row stands
      go ruled j false e stands =
          same_stands timed k f (row_of place.row room) (row_of place.row room) (at room place) (at room place) x
          (as_it_is f (row_of place.row room) (at room place)) stands

  pub more_tag : (sat kind cop l status w t : ℕ) (given : List ℕ) (verdict : Bool) (place : Place) → After (tag_call sat kind cop l status w t given verdict) place
  unfolding begins brings fills
  more_tag sat kind cop l status w t given verdict place ruled i h =
      rw after (go (succeeds (tag_call sat kind cop l status w t given verdict) room) (rw after at ruled) (rw after at i))
    where
      g : Family
      g = family_of kind

      candidate : List ℕ
      candidate = candidate_record g sat w t room

      left : Bool → List ℕ
      left b = cond b (tagged g candidate l room) room

      after : room_after (tag_call sat kind cop l status w t given verdict) room ≡ left (succeeds (tag_call sat kind cop l status w t given verdict) room)
      after = tag_after sat kind cop l status w t given verdict room

      go : (b : Bool) → Ruled timed (left b) → Inside (left b) place
          → Stands timed k place.family (row_of place.row (left b)) (at (left b) place)
          (held_by (satellite (at (left b) place)) (satellite (at room place)) (words place))
      go true r i =
          let j = tagged_inside g candidate l room s place i in
          let was = rule_kept timed room (tagged g candidate l room) (tagged_header g candidate l room (store_facts room s) rule_at (omega arith)) r in
          same_stands timed k place.family (row_of place.row room) (row_of place.row (left true)) (at room place) (at (left true) place) (words place)
          (tagged_same g candidate l room s place j) (all-stand was place j h)
      go false r i = unchanged place r i h

  pub more_reset : (place : Place) → After reset_call place
  unfolding begins brings fills
  more_reset place ruled i h =
      let after : room_after reset_call room ≡ reset room = rw (reset_after room, reset_succeeds room s) in
      let j = reset_inside room s place (rw after at i) in
      let was = rule_kept timed room (reset room) (reset_header room (store_facts room s) rule_at (omega arith)) (rw after at ruled) in
      rw after
      (same_stands timed k place.family (row_of place.row room) (row_of place.row (reset room)) (at room place) (at (reset room) place) (words place)
      (reset_same room s place j) (all-stand was place j h))
