-- Demand 3 is not empty: lists of calls, with the count of a record after them and the sum of the lengths of the tags on its line.
use Rattle.std.specs.Prelude.{ℕ, zero, suc, ◌+◌, ◌*◌, Bool, true, false, ◌&&◌, List, [], ◌∷◌, ◌++◌, ◌≡◌, replicate, eqb}
use Rattle.paper.specs.Record.{CED, Timing, count}
use Rattle.paper.specs.Number.{number, values}
use Rattle.paper.specs.Room.{room_size}
use Rattle.paper.specs.Call.{Call, fresh_call, feed_call, tag_call, ask_call, reset_call, answer_to, part_to, room_after, run}
use Rattle.history.specs.Line.{Place, at, tags, total}

-- the calls after a fresh store of D rows and N slots was made, the latest first; a place; its count, and the sum of its tags
pub record Row : Type 0 where
  pub start : List ℕ
  pub calls : List Call
  pub place : Place
  pub counted : ℕ
  pub sum : ℕ

abbrev pub Every : List Row → Type 0
Every [] = Unit {0}
Every (r ∷ rs) =
    (count (at (run r.start r.calls) r.place) ≡ r.counted)
    × (total (tags r.start r.calls r.place) ≡ r.sum)
    × Every rs

-- the test that the checker computes over the whole table
unfoldable pub every : List Row → Bool
every [] = true
every (r ∷ rs) =
    let rest = every rs in
    eqb (count (at (run r.start r.calls) r.place)) r.counted
    && eqb (total (tags r.start r.calls r.place)) r.sum
    && rest

-- a lent room of sevens, a few bytes longer than two rows of one slot take
abbrev pub sevens : List ℕ
sevens = replicate (room_size 2 1 + 6) 7

-- a fresh store of D rows and N slots on it
unfoldable pub fresh_on : ℕ → ℕ → List ℕ
fresh_on d n = room_after (fresh_call d n 0) sevens

abbrev row : List ℕ → List Call → Place → ℕ → ℕ → Row
row start calls place counted sum = record { start = start; calls = calls; place = place; counted = counted; sum = sum }

abbrev pub ced : ℕ → ℕ → Place
ced r i = record { family = CED; row = r; slot = i }

abbrev pub timing : ℕ → ℕ → Place
timing r i = record { family = Timing; row = r; slot = i }

-- ---- calls
-- a word: its type in the first six bits, and then the byte b throughout
unfoldable pub word : ℕ → ℕ → List ℕ
word type b = (type * 4) ∷ replicate 15 b

-- a word of a satellite at week 1177, time t, on E1B
abbrev feed : ℕ → ℕ → ℕ → ℕ → Call
feed sat type b t = feed_call (word type b) sat 1177 t 0

-- the subframe T and the two after it
abbrev T : ℕ
T = 175740

abbrev T30 : ℕ
T30 = 175770

abbrev T60 : ℕ
T60 = 175800

-- the two timing words of a satellite at T
unfoldable pub two : ℕ → List Call
two sat = feed sat 10 0 T ∷ feed sat 6 0 T ∷ []

-- the five words of its orbit, the fifth with bytes 170
unfoldable pub five : ℕ → List Call
five sat = feed sat 5 170 T ∷ feed sat 4 0 T ∷ feed sat 3 0 T ∷ feed sat 2 0 T ∷ feed sat 1 0 T ∷ []

-- a tag of E01, accepted for these data: kind, COP, length, MACK time
abbrev tag : ℕ → ℕ → ℕ → ℕ → List ℕ → Call
tag kind cop l t given = tag_call 1 kind cop l 2 1177 t given true

-- the data of the timing record after its two words, and after the word 10 with bytes 255
unfoldable pub clock : List ℕ
clock = replicate 18 0

unfoldable pub new_clock : List ℕ
new_clock = replicate 12 0 ++ (31 ∷ (replicate 4 255 ++ (248 ∷ [])))

-- the data of the CED record after its five words, and after the fifth changed to bytes 255
unfoldable pub orbit : List ℕ
orbit = replicate 60 0 ++ (10 ∷ (replicate 7 170 ++ (168 ∷ [])))

unfoldable pub new_orbit : List ℕ
new_orbit = replicate 60 0 ++ (15 ∷ (replicate 7 255 ++ (248 ∷ [])))

-- D 2, N 1: the timing words of E01 at T, and a tag of 40 on them, COP 1
unfoldable pub forty : List Call
forty = tag 4 1 40 T30 clock ∷ two 1

-- D 1, N 1: the timing words of E01 at T, and k tags of 40 on them
unfoldable pub many : ℕ → List Call
many zero = two 1
many (suc k) = tag 4 1 40 T30 clock ∷ many k

-- ---- the rows
-- counts of 0, 20, 40 and 60
unfoldable pub sums : List Row
sums =
    row (fresh_on 2 1) [] (timing 0 0) 0 0
    ∷ row (fresh_on 2 1) (two 1) (timing 0 0) 0 0
    ∷ row (fresh_on 2 1) (tag 4 1 20 T30 clock ∷ two 1) (timing 0 0) 20 20
    ∷ row (fresh_on 2 1) (tag 4 1 20 T30 clock ∷ tag 4 1 20 T30 clock ∷ two 1) (timing 0 0) 40 40
    ∷ row (fresh_on 2 1) (tag 4 1 20 T30 clock ∷ forty) (timing 0 0) 60 60
    ∷ []

-- a line through copied rows: to row 1, and on to row 0, whose own past is gone; a tag in between counts in both rows
unfoldable pub copies : List Row
copies =
    row (fresh_on 2 1) (feed 1 0 0 T30 ∷ forty) (timing 1 0) 40 40
    ∷ row (fresh_on 2 1) (tag 4 2 20 T60 clock ∷ feed 1 0 0 T30 ∷ forty) (timing 0 0) 60 60
    ∷ row (fresh_on 2 1) (tag 4 2 20 T60 clock ∷ feed 1 0 0 T30 ∷ forty) (timing 1 0) 60 60
    ∷ row (fresh_on 2 1) (feed 1 0 0 T60 ∷ feed 1 0 0 T30 ∷ forty) (timing 0 0) 40 40
    ∷ row (fresh_on 2 1) (feed 1 0 0 T60 ∷ feed 1 10 255 T30 ∷ forty) (timing 0 0) 0 0
    -- D 1: the one row is copied to itself
    ∷ row (fresh_on 1 1) (feed 1 0 0 T30 ∷ forty) (timing 0 0) 40 40
    ∷ []

-- breaks
unfoldable pub breaks : List Row
breaks =
    -- a takeover: E02 takes the record with the bits of E01; then E01 takes it back
    row (fresh_on 2 1) (feed 2 0 0 T ∷ forty) (timing 0 0) 0 0
    ∷ row (fresh_on 2 1) (feed 1 0 0 T ∷ feed 2 0 0 T ∷ forty) (timing 0 0) 0 0
    -- the same word again is none; a changed bit is one, and the tags begin anew; so is a bit changed and changed back
    ∷ row (fresh_on 2 1) (feed 1 10 0 T ∷ forty) (timing 0 0) 40 40
    ∷ row (fresh_on 2 1) (feed 1 10 255 T ∷ forty) (timing 0 0) 0 0
    ∷ row (fresh_on 2 1) (tag 4 1 20 T30 new_clock ∷ feed 1 10 255 T ∷ forty) (timing 0 0) 20 20
    ∷ row (fresh_on 2 1) (feed 1 10 0 T ∷ feed 1 10 255 T ∷ forty) (timing 0 0) 0 0
    -- a reset, and a tag after it
    ∷ row (fresh_on 2 1) (reset_call ∷ forty) (timing 0 0) 0 0
    ∷ row (fresh_on 2 1) (tag 4 1 20 T30 clock ∷ reset_call ∷ forty) (timing 0 0) 20 20
    -- a second fresh, of another D and N; one that is refused
    ∷ row (fresh_on 2 1) (two 1 ++ (fresh_call 1 2 0 ∷ forty)) (timing 0 1) 0 0
    ∷ row (fresh_on 2 1) (fresh_call 0 1 0 ∷ forty) (timing 0 0) 40 40
    ∷ []

-- a tag counts where satellite, family and bits are its own, and there alone
unfoldable pub apart : List Row
apart =
    -- E01 and E02 with the same bits
    row (fresh_on 1 2) (two 2 ++ forty) (timing 0 1) 40 40
    ∷ row (fresh_on 1 2) (two 2 ++ forty) (timing 0 0) 0 0
    ∷ row (fresh_on 1 2) (tag 4 1 40 T30 clock ∷ (two 2 ++ two 1)) (timing 0 0) 0 0
    -- a timing tag and a CED tag, each on its own record; a tag of no verdict on none
    ∷ row (fresh_on 2 1) (tag 0 1 32 T30 orbit ∷ (five 1 ++ forty)) (timing 0 0) 40 40
    ∷ row (fresh_on 2 1) (tag 0 1 32 T30 orbit ∷ (five 1 ++ forty)) (ced 0 0) 32 32
    ∷ row (fresh_on 2 1) (tag_call 1 4 1 40 2 1177 T30 clock false ∷ forty) (timing 0 0) 40 40
    ∷ []

-- the question of docs/ANSWER.md: the five words of an orbit at T, the fifth changed at T + 30 s, and a tag of 40
-- for T, before the change
unfoldable pub tag_first : ℕ → List Call
tag_first cop = feed 1 5 255 T30 ∷ tag 0 cop 40 T30 orbit ∷ five 1

-- and after it
unfoldable pub change_first : ℕ → List Call
change_first cop = tag 0 cop 40 T30 orbit ∷ feed 1 5 255 T30 ∷ five 1

-- and a tag of 20 for T + 30 s, when the other four words are old
unfoldable pub next_tag : ℕ → List Call
next_tag cop = tag 0 cop 20 T60 new_orbit ∷ change_first 1

unfoldable pub question : List Row
question =
    -- the old bits keep their tag in row 0, the new bits in row 1 have none; COP 1 and 2 alike
    row (fresh_on 2 1) (tag_first 1) (ced 0 0) 40 40
    ∷ row (fresh_on 2 1) (tag_first 1) (ced 1 0) 0 0
    ∷ row (fresh_on 2 1) (tag_first 2) (ced 0 0) 40 40
    ∷ row (fresh_on 2 1) (tag_first 2) (ced 1 0) 0 0
    ∷ row (fresh_on 2 1) (change_first 1) (ced 0 0) 40 40
    ∷ row (fresh_on 2 1) (change_first 1) (ced 1 0) 0 0
    ∷ row (fresh_on 2 1) (change_first 2) (ced 0 0) 40 40
    ∷ row (fresh_on 2 1) (change_first 2) (ced 1 0) 0 0
    -- the tag for the new bits: with COP 1 there is no candidate, with COP 2 it counts on the new bits and not on the old ones
    ∷ row (fresh_on 2 1) (next_tag 1) (ced 1 0) 0 0
    ∷ row (fresh_on 2 1) (next_tag 2) (ced 0 0) 40 40
    ∷ row (fresh_on 2 1) (next_tag 2) (ced 1 0) 20 20
    -- D 1: the changed word takes the one row on; a tag for T comes before it, or finds no candidate
    ∷ row (fresh_on 1 1) (tag_first 1) (ced 0 0) 0 0
    ∷ row (fresh_on 1 1) (change_first 1) (ced 0 0) 0 0
    ∷ []

-- the table
unfoldable pub earned_table : List Row
earned_table = sums ++ (copies ++ (breaks ++ (apart ++ question)))

-- ---- the bench input of docs/ANSWER.md
-- what calls print, the first first: the number, the values and the bytes handed out, of each
unfoldable pub printed : List ℕ → List Call → List (List ℕ)
printed room [] = []
printed room (call ∷ rest) =
    let after = room_after call room in
    let line = number (answer_to call room) ∷ (values (answer_to call room) ++ part_to call room) in
    line ∷ printed after rest

-- a fresh store under rule 1 and the five words
unfoldable pub page_begins : ℕ → List Call
page_begins d = fresh_call d 1 1 ∷ feed 1 1 0 T ∷ feed 1 2 0 T ∷ feed 1 3 0 T ∷ feed 1 4 0 T ∷ feed 1 5 170 T ∷ []

unfoldable pub tags_before : List Call
tags_before =
    page_begins 2
    ++ (tag 0 1 20 T30 orbit
    ∷ tag 0 2 20 T30 orbit
    ∷ ask_call CED 1
    ∷ feed 1 5 255 T30
    ∷ ask_call CED 1
    ∷ [])

unfoldable pub tags_after : List Call
tags_after =
    page_begins 2
    ++ (feed 1 5 255 T30
    ∷ tag 0 1 20 T30 orbit
    ∷ tag 0 2 20 T30 orbit
    ∷ ask_call CED 1
    ∷ tag 0 1 40 T60 new_orbit
    ∷ tag 0 2 40 T60 new_orbit
    ∷ ask_call CED 1
    ∷ [])

unfoldable pub one_row : List Call
one_row =
    page_begins 1 ++ (tag 0 1 40 T30 orbit ∷ feed 1 5 255 T30 ∷ ask_call CED 1 ∷ tag 0 2 40 T30 orbit ∷ [])

abbrev ok : List ℕ
ok = 0 ∷ []

-- f 0 and five times w 0
unfoldable pub six_done : List (List ℕ)
six_done = ok ∷ ok ∷ ok ∷ ok ∷ ok ∷ ok ∷ []

unfoldable pub page : List (List ℕ)
page =
    (six_done
    ++ ((0 ∷ 1 ∷ [])
    ∷ (0 ∷ 1 ∷ [])
    ∷ (0 ∷ 40 ∷ 1177 ∷ 175740 ∷ orbit)
    ∷ ok
    ∷ (0 ∷ 40 ∷ 1177 ∷ 175740 ∷ orbit)
    ∷ []))
    ++ (six_done
    ++ (ok
    ∷ (0 ∷ 1 ∷ [])
    ∷ (0 ∷ 1 ∷ [])
    ∷ (0 ∷ 40 ∷ 1177 ∷ 175740 ∷ orbit)
    ∷ (10 ∷ [])
    ∷ (0 ∷ 1 ∷ [])
    ∷ (0 ∷ 40 ∷ 1177 ∷ 175770 ∷ new_orbit)
    ∷ []))
    ++ (six_done ++ ((0 ∷ 1 ∷ []) ∷ ok ∷ (12 ∷ []) ∷ (10 ∷ []) ∷ []))
