-- One call more, kind by kind: each record of the room after it has the count that the tags on its line earned. Assumes nothing.
use mathlib.Core.Bool.{Bool, true, false, cond, not, ◌&&◌, ◌||◌}
use mathlib.Core.List.{List, [], ◌∷◌, ◌++◌}
use mathlib.Core.Path.{◌≡◌, refl}
use Prim.Native.Nat.{ℕ}
use borrow.Author.Tests.{not-false}
use Rattle.paper.specs.Record.{Family, same_family}
use Rattle.paper.specs.Store.{is_store}
use Rattle.paper.specs.Fresh.{fresh}
use Rattle.paper.specs.Tag.{family_of, candidate_record, tagged}
use Rattle.paper.specs.Call.{Call, fresh_call, feed_call, tag_call, reset_call, room_after}
use Rattle.history.specs.Line.{Place, Inside, at, succeeds, fills, past, resets, same, broken, begins, Tag, counted}
use Rattle.history.specs.Demand.{Earned}
use Rattle.history.proofs.Agree.{true_same}
use Rattle.history.proofs.Grows.{no_count, kept_step, grown, tag_step, tag_each, feed_inside, feed_kept}
use Rattle.history.proofs.Calls.{inside_past, fresh_after, tag_after, reset_after, fresh_none}
use Rattle.history.proofs.Calls.{tagged_at, tagged_inside, tag_accepted_lem, reset_succeeds, reset_none, reset_inside}

-- ---- one call more
module _ (room : List ℕ) (s : is_store room ≡ true) (ts : Place → List Tag) (earned : (q : Place) → Inside room q → Earned q.family (at room q) (ts q)) where
  abbrev pub Next : Call → Place → Type 0
  Next call place =
      Earned place.family (at (room_after call room) place)
      (cond (begins call room || broken call room place) [] (counted call room (past call room place) ++ ts (past call room place)))

  pub earned_past : (call : Call) (place : Place) → Inside room place → Earned place.family (at room (past call room place)) (ts (past call room place))
  earned_past call place i = earned (past call room place) (inside_past room s call place i)

  -- a call that leaves the room as it is
  pub unchanged : (f : Family) (rec : List ℕ) (before : List Tag) → Earned f rec before → Earned f rec (cond (not (same f rec rec)) [] before)
  unchanged f rec before e = rw (true_same f rec rec refl refl) e

  pub more_fresh : (d n rule : ℕ) (place : Place) → Inside (room_after (fresh_call d n rule) room) place → Next (fresh_call d n rule) place
  unfolding begins broken resets counted fills
  more_fresh d n rule place i = rw (fresh_after d n rule room) (go (succeeds (fresh_call d n rule) room) refl (rw (fresh_after d n rule room) at i))
    where
      before : List Tag
      before = ts (past (fresh_call d n rule) room place)

      go : (b : Bool) → succeeds (fresh_call d n rule) room ≡ b → Inside (cond b (fresh d n rule room) room) place
          → Earned place.family (at (cond b (fresh d n rule room) room) place)
          (cond (b || not (same place.family (at (cond b (fresh d n rule room) room) place) (at room place))) [] before)
      go true e i = no_count place.family (at (fresh d n rule room) place) (fresh_none d n rule room e place i)
      go false e i = unchanged place.family (at room place) before (earned_past (fresh_call d n rule) place i)

  module _ (word : List ℕ) (sat w t band : ℕ) (place : Place) where
    abbrev the_feed : Call
    the_feed = feed_call word sat w t band

    pub more_feed : Inside (room_after the_feed room) place → Next the_feed place
    unfolding begins broken resets counted
    more_feed i =
        let f : Family = place.family in
        let x : List ℕ = at room (past the_feed room place) in
        let y : List ℕ = at (room_after the_feed room) place in
        grown f x y [] (ts (past the_feed room place)) (not (same f y x)) (kept_step f x y (feed_kept room s word sat w t band place (feed_inside room s word sat w t band place i))) (not-false (same f y x)) tt
        (earned_past the_feed place (feed_inside room s word sat w t band place i))

  module _ (sat kind cop l status w t : ℕ) (given : List ℕ) (verdict : Bool) (place : Place) where
    abbrev the_tag_call : Call
    the_tag_call = tag_call sat kind cop l status w t given verdict

    abbrev candidate : List ℕ
    candidate = candidate_record (family_of kind) sat w t room

    abbrev on_line : Tag
    on_line = record { satellite = sat; given = given; verdict = verdict; length = l }

    pub more_tag : Inside (room_after the_tag_call room) place → Next the_tag_call place
    unfolding begins broken resets counted fills
    more_tag i = rw (tag_after sat kind cop l status w t given verdict room) (go (succeeds the_tag_call room) refl (rw (tag_after sat kind cop l status w t given verdict room) at i))
      where
        f : Family
        f = place.family

        x : List ℕ
        x = at room place

        before : List Tag
        before = ts (past the_tag_call room place)

        here : Bool
        here = same_family (family_of kind) f && same f x candidate

        go : (b : Bool) → succeeds the_tag_call room ≡ b → Inside (cond b (tagged (family_of kind) candidate l room) room) place
            → Earned f (at (cond b (tagged (family_of kind) candidate l room) room) place)
            (cond (not (same f (at (cond b (tagged (family_of kind) candidate l room) room) place) x)) []
            (cond (b && same_family (family_of kind) f && same f x candidate) (on_line ∷ []) [] ++ before))
        go true e j =
            let y : List ℕ = at (tagged (family_of kind) candidate l room) place in
            let k = tagged_inside (family_of kind) candidate l room s place j in
            grown f x y (cond here (on_line ∷ []) []) before (not (same f y x))
            (tag_step f x y on_line here (tagged_at (family_of kind) candidate l room s place.row place.slot k.row k.slot f))
            (not-false (same f y x))
            (tag_each (family_of kind) f sat l given verdict candidate x (tag_accepted_lem sat kind cop l status w t given verdict room e) here refl)
            (earned_past the_tag_call place k)
        go false e j = unchanged f x before (earned_past the_tag_call place j)

  pub more_reset : (place : Place) → Inside (room_after reset_call room) place → Next reset_call place
  unfolding begins broken resets counted
  more_reset place i =
      rw (reset_succeeds room s)
      (no_count place.family (at (room_after reset_call room) place)
      (rw (reset_after room, reset_succeeds room s) (reset_none room s place (reset_inside room s place (rw (reset_after room, reset_succeeds room s) at i)))))
