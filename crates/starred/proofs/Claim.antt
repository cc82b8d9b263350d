-- The starred examples as one claim: every row of the table gives what STORE 18 says. The checker computes the test over each
-- section of the table, and one law turns the test into the rows.
use mathlib.Core.Path.{◌≡◌, refl}
use mathlib.Core.Bool.{true}
use mathlib.Core.List.{List, [], ◌∷◌, ◌++◌}
use Rattle.paper.proofs.StoreFacts.{both_true}
use Rattle.paper.proofs.Opens.{calls_open}
use Rattle.paper.proofs.Same.{list_true}
use Rattle.paper.specs.Record.{same_list}
use Rattle.starred.specs.Row.{Example, EveryExample, every_example, last_answer, after, record_in, satellites, word}
use Rattle.starred.specs.Table.{starred_table, ced_data, five_fed, tag, tag_accepted, word_later, later_refused, later_accepted, first_again}
use Rattle.starred.specs.Table.{times, places, tag_examples, gap, came_back, not_latest, timed, earlier_first, near_misses}

each : (rows : List Example) → every_example rows ≡ true → EveryExample rows
unfolding every_example
each [] t = tt
each (r ∷ rs) t =
    let both = both_true (same_list r.given r.said) (every_example rs) t in
    (list_true r.given r.said both.0, each rs both.1)

-- what the checker opens to compute a row
unfoldable rows_open : Unit {0}
unfolding last_answer after record_in satellites word
rows_open = tt

unfoldable tables_open : Unit {0}
unfolding ced_data five_fed tag tag_accepted word_later later_refused later_accepted first_again times places tag_examples gap came_back not_latest timed earlier_first near_misses
tables_open = tt

-- ---- the sections of the table, each computed by itself, so that a wrong row is refused by its own
times_hold : every_example times ≡ true
unfolding every_example tables_open rows_open calls_open
times_hold = refl

places_hold : every_example places ≡ true
unfolding every_example tables_open rows_open calls_open
places_hold = refl

tags_hold : every_example tag_examples ≡ true
unfolding every_example tables_open rows_open calls_open
tags_hold = refl

timed_hold : every_example timed ≡ true
unfolding every_example tables_open rows_open calls_open
timed_hold = refl

near_misses_hold : every_example near_misses ≡ true
unfolding every_example tables_open rows_open calls_open
near_misses_hold = refl

both_hold : (a b : List Example) → every_example a ≡ true → every_example b ≡ true → every_example (a ++ b) ≡ true
unfolding every_example
both_hold [] b x y = y
both_hold (r ∷ a) b x y =
    let both = both_true (same_list r.given r.said) (every_example a) x in
    rw both.0 (both_hold a b both.1 y)

computed : every_example starred_table ≡ true
unfolding starred_table
computed =
    both_hold times _ times_hold (both_hold places _ places_hold (both_hold tag_examples _ tags_hold (both_hold timed near_misses timed_hold near_misses_hold)))

-- every starred example of STORE 18, and every near miss of 16.6, comes out as it says
pub examples : EveryExample starred_table
examples = each starred_table computed
