-- STORE 18, the examples with a star, and the near misses of STORE 16.6, as rows of one table.
use Rattle.std.specs.Prelude.{ℕ, ◌+◌, ◌*◌, true, List, [], ◌∷◌, ◌++◌, replicate, take, set, pos, negsuc}
use Rattle.paper.specs.Parts.{on_part}
use Rattle.paper.specs.Time.{add_seconds, subframe_of, difference, gone_by}
use Rattle.paper.specs.Record.{CED, Timing, size, count, ages_of, data_of, with_count}
use Rattle.paper.specs.Room.{rule_at, time_rule, row_at, record_at}
use Rattle.paper.specs.Call.{Call, fresh_call, feed_call, tag_call, ask_call, room_after, answer_to}
use Rattle.starred.specs.Row.{Example, example, flat, flat_difference, last_answer, after, record_in, satellites, word}

-- a word at week 1177
abbrev feed : ℕ → ℕ → ℕ → ℕ → Call
feed sat type t band = feed_call (word type 170) sat 1177 t band

-- the data of a CED record after its five words of bytes 170
unfoldable pub ced_data : List ℕ → List ℕ
ced_data room = data_of CED (record_in CED 0 0 room)

-- D 2, N 1, under a rule: all five words of E01 at T = 175740
abbrev five_under : ℕ → List Call
five_under rule = feed 1 5 175748 0 ∷ feed 1 4 175746 0 ∷ feed 1 3 175744 0 ∷ feed 1 2 175742 0 ∷ feed 1 1 175740 0 ∷ fresh_call 2 1 rule ∷ []

unfoldable pub five_fed : List Call
five_fed = five_under 0

-- a CED tag of E01 for the data that stands in row 0, at a MACK time, with a COP and a length
unfoldable pub tag : ℕ → ℕ → ℕ → List Call → Call
tag t cop l before = tag_call 1 0 cop l 2 1177 t (ced_data (after before)) true

-- the tag at T + 30 s with COP 1
unfoldable pub tag_accepted : List Call
tag_accepted = tag 175770 1 40 five_fed ∷ five_fed

-- then its type 0 word at T + 30 s
unfoldable pub word_later : List Call
word_later = feed 1 0 175770 0 ∷ tag_accepted

-- then the tag at T + 60 s with COP 1
unfoldable pub later_refused : List Call
later_refused = tag 175800 1 40 word_later ∷ word_later

-- and with COP 2
unfoldable pub later_accepted : List Call
later_accepted = tag 175800 2 40 word_later ∷ later_refused

-- the two timing words of E01, of zeros, and a timing tag over them
abbrev clock : ℕ → ℕ → List Call → List Call
clock w t before = feed_call (word 10 0) 1 w t 0 ∷ feed_call (word 6 0) 1 w t 0 ∷ before

abbrev clock_tag : ℕ → ℕ → Call
clock_tag w t = tag_call 1 4 1 40 2 w t (replicate 18 0) true

-- the first subframe of all, tagged; the next; and the first again, when the words are two subframes old
unfoldable pub first_again : List Call
first_again =
    feed_call (word 0 0) 1 0 0 0 ∷ feed_call (word 0 0) 1 0 30 0 ∷ clock_tag 0 30 ∷ clock 0 0 (fresh_call 2 1 0 ∷ [])

-- times
unfoldable pub times : List Example
times =
    -- 18.1: 2 s on; the subframe of the sum
    example (flat (add_seconds 1177 175767 (pos 2))) (0 ∷ 1177 ∷ 175769 ∷ [])
    ∷ example (flat (subframe_of 1177 175769)) (0 ∷ 1177 ∷ 175740 ∷ [])
    -- 18.2: 30 s before the start of week 0, and of week 1
    ∷ example (flat (add_seconds 0 0 (negsuc 29))) (7 ∷ [])
    ∷ example (flat (add_seconds 1 0 (negsuc 29))) (0 ∷ 0 ∷ 604770 ∷ [])
    -- 18.3: behind the last second of the last week
    ∷ example (flat (add_seconds 65535 604799 (pos 1))) (7 ∷ [])
    -- 18.4: a second less than a week back, and a week back
    ∷ example (flat (add_seconds 5 0 (negsuc 604798))) (0 ∷ 4 ∷ 1 ∷ [])
    ∷ example (flat (add_seconds 5 0 (negsuc 604799))) (7 ∷ [])
    -- 18.5: a second over the end of a week counts a subframe
    ∷ example (flat_difference (difference 1 0 0 604799)) (0 ∷ 1 ∷ [])
    ∷ []

-- slots
unfoldable pub places : List Example
places =
    -- 18.6: N 3, fresh: E11 is in slot 2, and then E12 in slot 1
    example (satellites CED 0 3 (after (feed 11 1 175740 0 ∷ fresh_call 1 3 0 ∷ []))) (0 ∷ 0 ∷ 11 ∷ [])
    ∷ example (satellites CED 0 3 (after (feed 12 1 175740 0 ∷ feed 11 1 175740 0 ∷ fresh_call 1 3 0 ∷ []))) (0 ∷ 12 ∷ 11 ∷ [])
    ∷ example (satellites Timing 0 3 (after (feed 12 1 175740 0 ∷ feed 11 1 175740 0 ∷ fresh_call 1 3 0 ∷ []))) (0 ∷ 12 ∷ 11 ∷ [])
    -- 18.7: N 2: of E01, E02 and E03 the last takes the slot of the first
    ∷ example
    (satellites CED 0 2 (after (feed 3 1 175740 0 ∷ feed 2 1 175740 0 ∷ feed 1 1 175740 0 ∷ fresh_call 1 2 0 ∷ [])))
    (2 ∷ 3 ∷ [])
    -- 18.8: type 6 on E5B takes the satellite and leaves the ages
    ∷ example (satellites Timing 0 1 (after (feed 1 6 175740 1 ∷ fresh_call 1 1 0 ∷ []))) (1 ∷ [])
    ∷ example (ages_of Timing (record_in Timing 0 0 (after (feed 1 6 175740 1 ∷ fresh_call 1 1 0 ∷ [])))) (255 ∷ 255 ∷ [])
    ∷ []

-- tags
unfoldable pub tag_examples : List Example
tag_examples =
    -- 18.9: D 2, the five words at T, a CED tag at T + 30 s with COP 1
    example (last_answer (tag 175770 1 40 five_fed) five_fed) (0 ∷ 1 ∷ [])
    -- 18.10: after a type 0 word at T + 30 s, a tag at T + 60 s with COP 1, and with COP 2
    ∷ example (last_answer (feed 1 0 175770 0) tag_accepted) (0 ∷ [])
    ∷ example (last_answer (tag 175800 1 40 word_later) word_later) (10 ∷ [])
    -- 18.11: both rows hold the bits, so that two records take it
    ∷ example (last_answer (tag 175800 2 40 word_later) later_refused) (0 ∷ 2 ∷ [])
    ∷ example (ages_of CED (record_in CED 1 0 (after word_later))) (1 ∷ 1 ∷ 1 ∷ 1 ∷ 1 ∷ [])
    -- given data that differs from the candidate's, or is short: 11
    ∷ example (last_answer (tag_call 1 0 1 40 2 1177 175770 (replicate 69 0) true) five_fed) (11 ∷ [])
    ∷ example (last_answer (tag_call 1 0 1 40 2 1177 175770 (take 68 (ced_data (after five_fed))) true) five_fed) (11 ∷ [])
    -- a MACK in the first subframe of all, and data older than it: 7
    ∷ example (last_answer (tag_call 1 0 1 40 2 0 0 [] true) five_fed) (7 ∷ [])
    ∷ example (last_answer (ask_call Timing 1) first_again) (7 ∷ [])
    -- 18.12: asking after one tag of 20, and after two
    ∷ example (last_answer (ask_call CED 1) (tag 175770 1 20 five_fed ∷ five_fed)) (12 ∷ [])
    ∷ example
    (last_answer (ask_call CED 1) (tag 175770 1 20 five_fed ∷ tag 175770 1 20 five_fed ∷ five_fed))
    (0 ∷ 40 ∷ 1177 ∷ 175740 ∷ [])
    -- 18.13: 40 more than 65,520 is held at 65,535, and the record counts in the total
    ∷ example
    (count
    (record_in CED 0 0
    (room_after (tag 175770 1 40 five_fed) (on_part (with_count 65520) (row_at 1 0 + record_at CED 0) (size CED) (after five_fed))))
    ∷ [])
    (65535 ∷ [])
    ∷ example
    (flat
    (answer_to (tag 175770 1 40 five_fed) (on_part (with_count 65520) (row_at 1 0 + record_at CED 0) (size CED) (after five_fed))))
    (0 ∷ 1 ∷ [])
    ∷ []

-- under rule 1 the five words at T, and then its type 0 word so many subframes later
unfoldable pub gap : ℕ → List Call
gap k = feed 1 0 (175740 + 30 * k) 0 ∷ five_under time_rule

-- D 3, N 1, under a rule: the timing words of E01 at 30 s, E02 at 60 s, E01 back at 90 s, and a tag for 30 s: the bits stand at 90 s
-- too, where their ages are 255
unfoldable pub came_back : ℕ → List Call
came_back rule =
    clock_tag 1177 60 ∷ feed_call (word 0 0) 1 1177 90 0 ∷ feed_call (word 0 0) 2 1177 60 0 ∷ clock 1177 30 (fresh_call 3 1 rule ∷ [])

-- D 3: rows of 30 s, 90 s and 30 s, the last current, and rule 1 written over rule 0: the current row is not the latest
unfoldable pub not_latest : List ℕ
not_latest =
    set (after (feed_call (word 0 0) 1 1177 30 0 ∷ feed_call (word 0 0) 1 1177 90 0 ∷ clock 1177 30 (fresh_call 3 1 0 ∷ []))) rule_at time_rule

-- rule 1
unfoldable pub timed : List Example
timed =
    -- 18.16: twenty subframes gone by; COP 2 and COP 15 find nothing, and the tag for T itself goes to both rows with its bits
    example (ages_of CED (record_in CED 1 0 (after (gap 20)))) (20 ∷ 20 ∷ 20 ∷ 20 ∷ 20 ∷ [])
    ∷ example (last_answer (tag 176370 2 40 (gap 20)) (gap 20)) (10 ∷ [])
    ∷ example (last_answer (tag 176370 15 40 (gap 20)) (gap 20)) (10 ∷ [])
    ∷ example (last_answer (tag 175770 1 40 (gap 20)) (gap 20)) (0 ∷ 2 ∷ [])
    -- 18.17: fourteen gone by, COP 14 and COP 15
    ∷ example (last_answer (tag 176190 14 40 (gap 14)) (gap 14)) (10 ∷ [])
    ∷ example (last_answer (tag 176190 15 40 (gap 14)) (gap 14)) (0 ∷ 2 ∷ [])
    -- 18.18: from (5, 604770) to (7, 0), and the greatest gap; 256 gone by is held at 255
    ∷ example (gone_by 7 0 5 604770 ∷ gone_by 65535 604770 0 0 ∷ []) (20161 ∷ 1321205759 ∷ [])
    ∷ example (ages_of CED (record_in CED 1 0 (after (gap 256)))) (255 ∷ 255 ∷ 255 ∷ 255 ∷ 255 ∷ [])
    -- 18.19: a word of the subframe before is 15 and leaves the room; one of the same subframe is taken
    ∷ example (last_answer (feed 1 0 175739 0) (five_under time_rule)) (15 ∷ [])
    ∷ example (after (feed 1 0 175739 0 ∷ five_under time_rule)) (after (five_under time_rule))
    ∷ example (last_answer (feed 1 0 175740 0) (five_under time_rule)) (0 ∷ [])
    -- 18.20: the current row decides, not the latest
    ∷ example (flat (answer_to (feed_call (word 0 0) 1 1177 60 0) not_latest)) (0 ∷ [])
    ∷ example (flat (answer_to (feed_call (word 0 0) 1 1177 0 0) not_latest)) (15 ∷ [])
    -- 18.21: the record found has ages 255: 24, though an older row could answer; under rule 0 it answers, 255 subframes before its row
    ∷ example (last_answer (ask_call Timing 1) (came_back time_rule)) (24 ∷ [])
    ∷ example (last_answer (ask_call Timing 1) (came_back 0)) (0 ∷ 40 ∷ 1176 ∷ 597240 ∷ [])
    -- 18.22: an unknown rule is 1
    ∷ example (last_answer (fresh_call 2 1 2) five_fed) (1 ∷ [])
    ∷ []

-- D 3: the timing words of E01 at 60 s, then, earlier, at 30 s, a tag on both, and at 90 s a changed word, which has no tag
unfoldable pub earlier_first : List Call
earlier_first =
    feed_call (word 10 255) 1 1177 90 0 ∷ clock_tag 1177 60 ∷ clock 1177 30 (clock 1177 60 (fresh_call 3 1 0 ∷ []))

-- STORE 16.6, near misses: at each input the near miss would give something else
unfoldable pub near_misses : List Example
near_misses =
    -- the data cleared at a takeover: E02 takes E01's slot, and its data stays
    example
    (take 3 (data_of CED (record_in CED 0 0 (after (feed 2 0 175740 0 ∷ feed 1 1 175740 0 ∷ fresh_call 1 1 0 ∷ [])))))
    (42 ∷ 170 ∷ 170 ∷ [])
    ∷ example
    (ages_of CED (record_in CED 0 0 (after (feed 2 0 175740 0 ∷ feed 1 1 175740 0 ∷ fresh_call 1 1 0 ∷ []))))
    (255 ∷ 255 ∷ 255 ∷ 255 ∷ 255 ∷ [])
    -- the first of equal keys chosen: E03 would take slot 0
    ∷ example
    (satellites Timing 0 2 (after (feed 3 1 175740 0 ∷ feed 2 1 175740 0 ∷ feed 1 1 175740 0 ∷ fresh_call 1 2 0 ∷ [])))
    (2 ∷ 3 ∷ [])
    -- words 6 and 10 kept from E5B
    ∷ example
    (data_of Timing (record_in Timing 0 0 (after (feed 1 10 175740 1 ∷ feed 1 6 175740 1 ∷ fresh_call 1 1 0 ∷ []))))
    (replicate 18 0)
    -- types 0 and 63 skipped: they take slots
    ∷ example
    (satellites CED 0 2 (after (feed 6 63 175740 1 ∷ feed 5 0 175740 0 ∷ fresh_call 1 2 0 ∷ [])))
    (6 ∷ 5 ∷ [])
    -- the candidate alone credited: the row copied from has the count too
    ∷ example
    (count (record_in CED 0 0 (after later_accepted)) ∷ count (record_in CED 1 0 (after later_accepted)) ∷ [])
    (80 ∷ 80 ∷ [])
    -- the greatest subframe answering: backward from 90 s comes 30 s, forward 60 s, which is greater too
    ∷ example (last_answer (ask_call Timing 1) earlier_first) (0 ∷ 40 ∷ 1177 ∷ 30 ∷ [])
    ∷ []

-- the table
unfoldable pub starred_table : List Example
starred_table = times ++ (places ++ (tag_examples ++ (timed ++ near_misses)))
