-- One call more: where each record of a store has the count that the tags on its line earned, each record has it after any one call,
-- with the line followed through that call. Assumes nothing.
use mathlib.Core.Bool.{true}
use mathlib.Core.List.{List, []}
use mathlib.Core.Path.{◌≡◌}
use Prim.Native.Nat.{ℕ}
use Rattle.paper.specs.Store.{is_store}
use Rattle.paper.specs.Fresh.{fresh}
use Rattle.paper.specs.Call.{Call, fresh_call, feed_call, tag_call, candidate_call, ask_call, reset_call, room_after}
use Rattle.history.specs.Line.{Place, Inside, at, succeeds, fills, past, resets, broken, begins, Tag, counted}
use Rattle.history.specs.Demand.{Earned}
use Rattle.history.proofs.Grows.{no_count}
use Rattle.history.proofs.More.{Next, earned_past, unchanged, more_fresh, more_feed, more_tag, more_reset}
use Rattle.history.proofs.Calls.{fresh_after, fresh_none}

-- ---- the first record of a line: a fresh store's
pub at_first : (d n rule : ℕ) (room : List ℕ) → succeeds (fresh_call d n rule) room ≡ true → (place : Place) → Inside (room_after (fresh_call d n rule) room) place
    → Earned place.family (at (room_after (fresh_call d n rule) room) place) []
at_first d n rule room e place i =
    rw (fresh_after d n rule room, e)
    (no_count place.family (at (fresh d n rule room) place) (fresh_none d n rule room e place (rw (fresh_after d n rule room, e) at i)))

-- ---- one call more
module _ (room : List ℕ) (s : is_store room ≡ true) (ts : Place → List Tag) (earned : (q : Place) → Inside room q → Earned q.family (at room q) (ts q)) where
  -- whatever the call
  pub one_more : (call : Call) (place : Place) → Inside (room_after call room) place → Next room s ts earned call place
  unfolding begins broken resets counted fills room_after
  one_more (fresh_call d n rule) place i = more_fresh room s ts earned d n rule place i
  one_more (feed_call word sat w t band) place i = more_feed room s ts earned word sat w t band place i
  one_more (tag_call sat kind cop l status w t given verdict) place i = more_tag room s ts earned sat kind cop l status w t given verdict place i
  one_more (candidate_call sat kind cop w t) place i =
      unchanged room s ts earned place.family (at room place) (ts (past (candidate_call sat kind cop w t) room place))
      (earned_past room s ts earned (candidate_call sat kind cop w t) place i)
  one_more (ask_call f sat) place i =
      unchanged room s ts earned place.family (at room place) (ts (past (ask_call f sat) room place)) (earned_past room s ts earned (ask_call f sat) place i)
  one_more reset_call place i = more_reset room s ts earned place i
