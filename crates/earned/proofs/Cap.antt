-- The cap is reached: k tags of 40 on one record leave it the count min 65535 (40 k), whatever k, and all of them count on its line.
-- A tag changes the two bytes of the count alone, so one tag is computed with the count left open. Assumes nothing.
use mathlib.Core.List.{List, [], ◌∷◌}
use mathlib.Core.Path.{◌≡◌, refl, ap, ◌∙◌}
use mathlib.Core.Bool.{true, false}
use Prim.Native.Nat.{ℕ, zero, suc, ◌+◌, ◌*◌, min}
use native.Mathlib.Nat.{div-add-mod'}
use native.Mathlib.Omega.{arith}
use Rattle.paper.specs.Big.{put16}
use Rattle.paper.specs.Record.{count, most_count, Timing, count_at}
use Rattle.paper.specs.Call.{Call, tag_call, room_after, run}
use Rattle.paper.proofs.Opens.{calls_open}
use Rattle.history.specs.Line.{at, Tag, fills, resets, same, broken, begins, counted, tags, tags_along, total}
use Rattle.earned.specs.Examples.{fresh_on, word, two, clock, timing, many}
use Rattle.paper.specs.Room.{row_at, record_at}

-- the room after the words, with the count x
with_tags : ℕ → List ℕ
with_tags x = put16 (run (fresh_on 1 1) (two 1)) (row_at 1 0 + record_at Timing 0 + count_at) x

abbrev the_call : Call
the_call = tag_call 1 4 1 40 2 1177 175770 clock true

abbrev the_tag : Tag
the_tag = record { satellite = 1; given = clock; verdict = true; length = 40 }

-- one tag more, computed for any x: the room, the line unbroken, the tag counted, and the count itself
one : (x : ℕ)
    → (room_after the_call (with_tags x) ≡ with_tags (min most_count (x + 40)))
    × (broken the_call (with_tags x) (timing 0 0) ≡ false)
    × (counted the_call (with_tags x) (timing 0 0) ≡ the_tag ∷ [])
    × (count (at (with_tags x) (timing 0 0)) ≡ x)
unfolding with_tags fresh_on word two clock fills resets same broken begins counted tags_along total calls_open
one x = (rw (div-add-mod' x 256), refl, refl, div-add-mod' x 256)

none : (run (fresh_on 1 1) (two 1) ≡ with_tags 0) × (total (tags (fresh_on 1 1) (two 1) (timing 0 0)) ≡ 0)
unfolding with_tags fresh_on word two clock fills resets same broken begins counted tags_along total calls_open
none = (refl, refl)

-- ---- k tags
room_after_lem : (k : ℕ) → run (fresh_on 1 1) (many k) ≡ with_tags (min most_count (40 * k))
unfolding run many
room_after_lem zero = none.0
room_after_lem (suc k) =
    let e : min most_count (min most_count (40 * k) + 40) ≡ min most_count (40 * suc k) = omega arith in
    ap (room_after the_call) (room_after_lem k) ∙ (one (min most_count (40 * k))).0 ∙ ap with_tags e

line_after : (k : ℕ) → total (tags (fresh_on 1 1) (many k) (timing 0 0)) ≡ 40 * k
unfolding tags_along total many begins fills
line_after zero = none.1
line_after (suc k) =
    rw (room_after_lem k, (one (min most_count (40 * k))).1, (one (min most_count (40 * k))).2) (omega (arith, line_after k))

count_after : (k : ℕ) → count (at (run (fresh_on 1 1) (many k)) (timing 0 0)) ≡ min most_count (40 * k)
count_after k = ap (λ (room : List ℕ). count (at room (timing 0 0))) (room_after_lem k) ∙ (one (min most_count (40 * k))).3

-- 1638 tags of 40 are 65,520; one more is past the cap
pub at_the_cap :
    (count (at (run (fresh_on 1 1) (many 1638)) (timing 0 0)) ≡ 65520)
    × (total (tags (fresh_on 1 1) (many 1638) (timing 0 0)) ≡ 65520)
    × (count (at (run (fresh_on 1 1) (many 1639)) (timing 0 0)) ≡ 65535)
    × (total (tags (fresh_on 1 1) (many 1639) (timing 0 0)) ≡ 65560)
at_the_cap = (count_after 1638, line_after 1638, count_after 1639, line_after 1639)
