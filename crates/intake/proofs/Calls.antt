-- The room after the items of an input is that after their calls. Assumes nothing.
use mathlib.Core.Path.{◌≡◌, refl, ap, ◌∙◌}
use mathlib.Core.List.{List, [], ◌∷◌, ◌++◌}
use Prim.Native.Nat.{ℕ}
use Rattle.paper.specs.Call.{Call, run}
use Rattle.benchlines.specs.Items.{Deed, calls, says, calls_in}
use Rattle.intake.specs.Input.{Item, deed_for, room_of, calls_from}

one_deed : (room : List ℕ) (earlier : List Call) (deed : Deed) → run (run room earlier) (calls_in deed) ≡ run room (calls_in deed ++ earlier)
unfolding run
one_deed room earlier (calls c) = refl
one_deed room earlier (says k) = refl

pub room_of_calls : (room : List ℕ) (earlier : List Call) (l : List Item) → room_of (run room earlier) l ≡ run room (calls_from room earlier l)
unfolding room_of calls_from
room_of_calls room earlier [] = refl
room_of_calls room earlier (item ∷ l) =
    let deed : Deed = deed_for item (run room earlier) in
    ap (λ (x : List ℕ). room_of x l) (one_deed room earlier deed) ∙ room_of_calls room (calls_in deed ++ earlier) l
