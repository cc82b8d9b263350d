-- STORE 17: the items of an input, heard byte by byte, so that it may come in parts; what they print, and the room after them.
use Rattle.std.specs.Prelude.{ℕ, ◌+◌, Bool, true, false, cond, List, [], ◌∷◌, ◌++◌, length, get_or, drop, replicate, ltb}
use Rattle.paper.specs.Number.{Answer}
use Rattle.paper.specs.Room.{room_size, most_rows, most_slots}
use Rattle.paper.specs.Call.{Call, run}
use Rattle.text.specs.Text.{hex32}
use Rattle.adler.specs.Adler.{adler_of}
use Rattle.lines.specs.declared.Kind.{Kind}
use Rattle.lines.specs.declared.Kind.TheVariants.{Word, Tag, Reset, Ced, Timing, Fresh, FreshRuled, Unknown}
use Rattle.lines.specs.Kinds.{kind_of, body_length}
use Rattle.lines.specs.Lines.{line_of, longest_line}
use Rattle.benchlines.specs.Items.{Deed, says, deed_of, calls_in, answer_on, unknown_kind, whole_line}

-- ---- what stands in an input
-- STORE 17.1, 17.4: a whole item, by its kind and its body; or the end of the input inside an item
pub data Item : Type 0 where
  whole : Kind → List ℕ → Item
  cut : Item

-- STORE 17.1, 17.4: where a reader stands: it goes on, with these bytes of an unfinished item; or it has ended, with this number
pub data Stage : Type 0 where
  going : List ℕ → Stage
  ended : ℕ → Stage

-- STORE 17.1: the kind byte says how many bytes an item has: these are fewer
abbrev pub unfinished : List ℕ → Bool
unfinished bytes = ltb (length bytes) (1 + body_length (kind_of (get_or bytes 0 0)))

-- STORE 17.4: behind a whole item the next one begins; an unknown kind ends the input
abbrev pub behind : Kind → Stage
behind Word = going []
behind Tag = going []
behind Reset = going []
behind Ced = going []
behind Timing = going []
behind Fresh = going []
behind FreshRuled = going []
behind Unknown = ended unknown_kind

-- one byte more
abbrev pub stage_with : List ℕ → Stage
stage_with bytes = cond (unfinished bytes) (going bytes) (behind (kind_of (get_or bytes 0 0)))

unfoldable pub stage_after : Stage → ℕ → Stage
stage_after (going bytes) b = stage_with (bytes ++ (b ∷ []))
stage_after (ended k) b = ended k

-- the item that it makes whole, if it does
abbrev pub items_in : List ℕ → List Item
items_in bytes = cond (unfinished bytes) [] (whole (kind_of (get_or bytes 0 0)) (drop 1 bytes) ∷ [])

unfoldable pub items_with : Stage → ℕ → List Item
items_with (going bytes) b = items_in (bytes ++ (b ∷ []))
items_with (ended k) b = []

-- bytes one after the other
unfoldable pub stage_of : Stage → List ℕ → Stage
stage_of s [] = s
stage_of s (b ∷ l) = let t = stage_after s b in stage_of t l

unfoldable pub items_of : Stage → List ℕ → List Item
items_of s [] = []
items_of s (b ∷ l) = let later = items_of (stage_after s b) l in items_with s b ++ later

-- STORE 17.4: the end of the input; inside an item it is 14
abbrev pub cut_short : ℕ
cut_short = 14

unfoldable pub stage_at_end : Stage → Stage
stage_at_end (going []) = ended 0
stage_at_end (going (b ∷ l)) = ended cut_short
stage_at_end (ended k) = ended k

unfoldable pub items_at_end : Stage → List Item
items_at_end (going []) = []
items_at_end (going (b ∷ l)) = cut ∷ []
items_at_end (ended k) = []

-- the items of an input
abbrev pub at_start : Stage
at_start = going []

unfoldable pub input_items : List ℕ → List Item
input_items input =
    let heard = items_of at_start input in
    let last = items_at_end (stage_of at_start input) in
    heard ++ last

-- ---- what they come to
-- each is a call on the room, or a number without a call
abbrev pub deed_for : Item → List ℕ → Deed
deed_for (whole kind body) room = deed_of kind body room
deed_for cut room = says cut_short

abbrev pub item_room : Item → List ℕ → List ℕ
item_room item room = run room (calls_in (deed_for item room))

abbrev pub item_answer : Item → List ℕ → Answer
item_answer item room = answer_on (deed_for item room) room

-- STORE 17.3, 17.4: its line
abbrev pub item_line : Item → List ℕ → List ℕ
item_line (whole kind body) room = whole_line kind body room
item_line cut room = line_of Unknown 0 (item_answer cut room) []

-- STORE 17.6: the line that `trace` adds behind each: `# ` and the Adler-32 of the whole room
unfoldable pub trace_line : List ℕ → List ℕ
trace_line room = (35 ∷ 32 ∷ []) ++ (hex32 (adler_of room) ++ (10 ∷ []))

abbrev pub trace_of : Bool → List ℕ → List ℕ
trace_of true room = trace_line room
trace_of false room = []

unfoldable pub lines_for : Bool → Item → List ℕ → List ℕ
lines_for traced item room = item_line item room ++ trace_of traced (item_room item room)

-- how long what one of them prints can be
abbrev pub trace_bytes : ℕ
trace_bytes = 2 + 8 + 1

abbrev pub most_for : Bool → ℕ
most_for true = longest_line + trace_bytes
most_for false = longest_line

-- ---- one after the other, from a room on
unfoldable pub room_of : List ℕ → List Item → List ℕ
room_of room [] = room
room_of room (item ∷ l) = let after = item_room item room in room_of after l

unfoldable pub lines_of : Bool → List ℕ → List Item → List ℕ
lines_of traced room [] = []
lines_of traced room (item ∷ l) = let later = lines_of traced (item_room item room) l in lines_for traced item room ++ later

-- their answers, as values
unfoldable pub answers_of : List ℕ → List Item → List Answer
answers_of room [] = []
answers_of room (item ∷ l) = let later = answers_of (item_room item room) l in item_answer item room ∷ later

-- their calls, the latest first, before these the calls that came earlier
unfoldable pub calls_from : List ℕ → List Call → List Item → List Call
calls_from room earlier [] = earlier
calls_from room earlier (item ∷ l) = let calls = calls_in (deed_for item (run room earlier)) ++ earlier in calls_from room calls l

-- ---- the program
-- STORE 17.5: its room, as many bytes as a store of the largest sizes takes
abbrev pub bench_room : ℕ
bench_room = room_size most_rows most_slots

-- what is printed for an input
unfoldable pub output : Bool → List ℕ → List ℕ
output traced input = lines_of traced (replicate bench_room 0) (input_items input)
