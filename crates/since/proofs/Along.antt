-- One induction along every line: after a fresh call and any calls behind it each record is made of the words that were brought to it, and
-- under rule 1 each age says when its word came. Assumes nothing.
use mathlib.Core.Bool.{Bool, true}
use mathlib.Core.List.{List, [], ◌∷◌}
use mathlib.Core.Path.{◌≡◌}
use Prim.Native.Nat.{ℕ, ◌<◌}
use borrow.Author.Tests.{eq-eqb}
use Rattle.paper.specs.Number.{number}
use Rattle.paper.specs.Record.{ages}
use Rattle.paper.specs.Room.{rule, row_of}
use Rattle.paper.specs.Store.{is_store}
use Rattle.paper.specs.Call.{Call, fresh_call, feed_call, tag_call, candidate_call, ask_call, reset_call, answer_to, room_after, run}
use Rattle.stays.proofs.Stays.{calls_stay}
use Rattle.history.specs.Line.{Place, Inside, at, fills, begins}
use Rattle.history.proofs.Calls.{fresh_after}
use Rattle.since.specs.Brought.{Origin, no_word, brings, brought_along}
use Rattle.since.proofs.Changes.{Stands}
use Rattle.since.proofs.More.{After, unchanged, more_fresh, more_feed, more_tag, more_reset, fresh_stands}
use Rattle.since.proofs.Word.{Ruled}

-- ---- one call more
module _ (timed : Bool) (k : ℕ) (room : List ℕ) (s : is_store room ≡ true) (words : Place → Origin)
    (all-stand : Ruled timed room → (place : Place) → Inside room place → k < ages place.family
    → Stands timed k place.family (row_of place.row room) (at room place) (words place)) where
  -- whatever the call
  one_more : (call : Call) (place : Place) → After timed k room s words all-stand call place
  unfolding begins brings fills room_after
  one_more (fresh_call d n rule) place ruled i h = more_fresh timed k room s words all-stand d n rule place ruled i h
  one_more (feed_call word sat w t band) place ruled i h =
      more_feed timed k room s words all-stand (record { bytes = word; satellite = sat; week = w; time = t; band = band }) place ruled i h
  one_more (tag_call sat kind cop l status w t given verdict) place ruled i h =
      more_tag timed k room s words all-stand sat kind cop l status w t given verdict place ruled i h
  one_more (candidate_call sat kind cop w t) place ruled i h = unchanged timed k room s words all-stand place ruled i h
  one_more (ask_call f sat) place ruled i h = unchanged timed k room s words all-stand place ruled i h
  one_more reset_call place ruled i h = more_reset timed k room s words all-stand place ruled i h

-- ---- all calls, from any store of which it holds
pub stands_along : (timed : Bool) (k : ℕ) (start : List ℕ) → is_store start ≡ true → (sofar : Place → Origin)
    → (Ruled timed start → (place : Place) → Inside start place → k < ages place.family
    → Stands timed k place.family (row_of place.row start) (at start place) (sofar place))
    → (calls : List Call) → Ruled timed (run start calls) → (place : Place) → Inside (run start calls) place → k < ages place.family
    → Stands timed k place.family (row_of place.row (run start calls)) (at (run start calls) place) (brought_along sofar k start calls place)
unfolding run brought_along
stands_along timed k start s sofar held [] ruled place i h = held ruled place i h
stands_along timed k start s sofar held (call ∷ before) ruled place i h =
    one_more timed k (run start before) (calls_stay before start s) (brought_along sofar k start before) (stands_along timed k start s sofar held before)
    call place ruled i h

-- and so from a fresh one
pub stands_after_fresh : (timed : Bool) (k : ℕ) (room : List ℕ) (d n rule : ℕ) → number (answer_to (fresh_call d n rule) room) ≡ 0
    → let start = room_after (fresh_call d n rule) room in
    Ruled timed start → (place : Place) → Inside start place → k < ages place.family
    → Stands timed k place.family (row_of place.row start) (at start place) no_word
stands_after_fresh timed k room d n rule made ruled place i h =
    let e = eq-eqb (number (answer_to (fresh_call d n rule) room)) 0 made in
    rw (fresh_after d n rule room, e) (fresh_stands timed k d n rule room e place (rw (fresh_after d n rule room, e) at i) h)
