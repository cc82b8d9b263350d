-- Demand 3 holds: a fresh store has no counts, and one call more leaves each record the count that its line earned. What asking hands
-- out is such a record's. Assumes nothing.
use mathlib.Core.Bool.{true}
use mathlib.Core.List.{List, [], ◌∷◌}
use mathlib.Core.Path.{◌≡◌, refl, ◌∙◌}
use Prim.Native.Nat.{ℕ}
use native.Mathlib.Omega.{arith}
use borrow.Author.Tests.{eq-eqb}
use lib.ListN.{get_or}
use Rattle.paper.specs.Number.{number, values}
use Rattle.paper.specs.Record.{Family}
use Rattle.paper.specs.Store.{is_store}
use Rattle.paper.specs.Call.{Call, fresh_call, ask_call, answer_to, part_to, room_after, run}
use Rattle.stays.proofs.Stays.{calls_stay, run_stays, run_never_3}
use Rattle.history.specs.Line.{Place, Inside, at, Tag, tags_along}
use Rattle.history.specs.Demand.{Earned, Demand3, Never3, answering_place, Behind, AskEarned}
use Rattle.history.proofs.OneMore.{at_first, one_more}
use Rattle.history.proofs.Asked.{answering_inside, answering_satellite, answering_enough, answering_count, answering_data}

-- calls on any store whose counts were earned, by whatever counted before
pub earned_along :
    (start : List ℕ) → is_store start ≡ true
    → (sofar : Place → List Tag) → ((place : Place) → Inside start place → Earned place.family (at start place) (sofar place))
    → (calls : List Call) (place : Place) → Inside (run start calls) place
    → Earned place.family (at (run start calls) place) (tags_along sofar start calls place)
unfolding run tags_along
earned_along start s sofar e [] place i = e place i
earned_along start s sofar e (call ∷ before) place i =
    one_more (run start before) (calls_stay before start s) (tags_along sofar start before) (earned_along start s sofar e before) call place i

pub demand_3 : Demand3
unfolding run
demand_3 room d n rule made =
    earned_along (room_after (fresh_call d n rule) room) (run_stays d n rule room made []) (λ _. [])
    (at_first d n rule room (eq-eqb (number (answer_to (fresh_call d n rule) room)) 0 made))

pub never_3 : Never3
never_3 room d n rule made calls call = run_never_3 d n rule room made calls call

-- what asking hands out of a room whose counts were earned
pub asked_behind :
    (now : List ℕ) (tags : Place → List Tag) → ((place : Place) → Inside now place → Earned place.family (at now place) (tags place))
    → (f : Family) (sat : ℕ) → number (answer_to (ask_call f sat) now) ≡ 0
    → (counted : ℕ) (bytes : List ℕ)
    → counted ≡ get_or (values (answer_to (ask_call f sat) now)) 0 0
    → bytes ≡ part_to (ask_call f sat) now
    → let place = answering_place f sat now in
    Behind now place (tags place) sat counted bytes
asked_behind now tags earned f sat e counted bytes c b =
    let place : Place = answering_place f sat now in
    let was = earned place (answering_inside f sat now e) in
    record {
      inside = answering_inside f sat now e;
      asked = answering_satellite f sat now e;
      counts = c ∙ answering_count f sat now e;
      holds = b ∙ answering_data f sat now e;
      enough = omega (arith, was.counts, answering_enough f sat now e);
      earned = was;
    }

pub ask_earned : AskEarned
ask_earned room d n rule made calls f sat e =
    asked_behind _ _ (demand_3 room d n rule made calls) f sat e _ _ refl refl
