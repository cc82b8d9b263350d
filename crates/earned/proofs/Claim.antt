-- The examples as one claim: in every row the count and the sum are what is said. The checker computes the test over the whole table,
-- and one law turns the test into the rows.
use mathlib.Core.Bool.{Bool, true, ◌&&◌}
use mathlib.Core.List.{List, [], ◌∷◌, ◌++◌}
use mathlib.Core.Path.{◌≡◌, refl}
use borrow.Author.Tests.{eqb-true}
use lib.Dec.{eqb}
use Rattle.paper.specs.Record.{count}
use Rattle.paper.specs.Call.{run}
use Rattle.paper.proofs.Opens.{calls_open}
use Rattle.paper.proofs.StoreFacts.{both_true}
use Rattle.history.specs.Line.{at, fills, resets, same, broken, begins, counted, tags, tags_along, total}
use Rattle.earned.specs.Examples.{Row, Every, every, fresh_on, word, two, five, clock, new_clock, orbit, new_orbit, forty, sums, copies}
use Rattle.earned.specs.Examples.{sevens, breaks, apart, tag_first, change_first, next_tag, question, earned_table, printed, page_begins, tags_before, tags_after, one_row, six_done, page}

each : (rows : List Row) → every rows ≡ true → Every rows
unfolding every
each [] e = tt
each (r ∷ rs) e =
    let c : Bool = eqb (count (at (run r.start r.calls) r.place)) r.counted in
    let s : Bool = eqb (total (tags r.start r.calls r.place)) r.sum in
    let p = both_true (c && s) (every rs) e in
    let q = both_true c s p.0 in
    (eqb-true _ _ q.0, eqb-true _ _ q.1, each rs p.1)

-- what the checker opens: the rows, and the line of a record
unfoldable pub rows_open : Unit {0}
unfolding every earned_table fresh_on word two five clock new_clock orbit new_orbit forty sums copies breaks apart tag_first change_first next_tag question
rows_open = tt

unfoldable pub line_open : Unit {0}
unfolding fills resets same broken begins counted tags_along total
line_open = tt

computed : every earned_table ≡ true
unfolding rows_open line_open calls_open
computed = refl

pub examples : Every earned_table
examples = each earned_table computed

-- the bench input of docs/ANSWER.md gives the lines of that page
pub answer_page : printed sevens (tags_before ++ (tags_after ++ one_row)) ≡ page
unfolding printed page_begins tags_before tags_after one_row six_done page word orbit new_orbit calls_open
answer_page = refl
