-- STORE 17.8: a reader of an input in parts: its state as bytes, and how much of a part it takes where the output may be short.
use Rattle.std.specs.Prelude.{ℕ, suc, ◌+◌, ◌-◌, ◌≤◌, ◌≡◌, Bool, true, false, cond, not, ◌&&◌, List, [], ◌∷◌, ◌++◌, length, get_or, take, replicate, eqb, ltb, ⊤, Option, Some, None}
use Rattle.text.specs.Text.{Put}
use Rattle.lines.specs.Kinds.{kind_of, body_length, longest_item}
use Rattle.intake.specs.declared.Stand.{Stand}
use Rattle.intake.specs.declared.Stand.TheVariants.{Going, Ended}
use Rattle.intake.specs.declared.Step.{Step}
use Rattle.intake.specs.Input.{Item, Stage, going, ended, unfinished, stage_after, items_with, items_of, stage_at_end, items_at_end, most_for, room_of, lines_of}

-- ---- the state, as bytes: room for an item, how many bytes of it are kept, whether the input has ended (0 is no), and its number
abbrev pub have_at : ℕ
have_at = longest_item

abbrev pub ended_at : ℕ
ended_at = longest_item + 1

abbrev pub number_at : ℕ
number_at = longest_item + 2

abbrev pub reader_bytes : ℕ
reader_bytes = longest_item + 3

-- where bytes say that a reader stands; where what they keep is no unfinished item, nothing is kept
abbrev pub kept_in : List ℕ → List ℕ
kept_in bytes = cond (unfinished bytes) bytes []

unfoldable pub stage_in : List ℕ → Stage
stage_in reader =
    cond (eqb (get_or reader ended_at 0) 0)
    (going (kept_in (take (get_or reader have_at 0) reader)))
    (ended (get_or reader number_at 0))

-- the bytes of a reader that stands there
abbrev pub state_of : List ℕ → ℕ → ℕ → List ℕ
state_of kept end number = kept ++ (replicate (longest_item - length kept) 0 ++ (length kept ∷ end ∷ number ∷ []))

unfoldable pub reader_of : Stage → List ℕ
reader_of (going kept) = state_of kept 0 0
reader_of (ended k) = state_of [] 1 k

-- its number: 0 while it goes on
abbrev pub stage_number : Stage → ℕ
stage_number (going kept) = 0
stage_number (ended k) = k

-- ---- an output of so many bytes, of which so many are written
-- the byte makes an item whole, and what it prints might not fit
abbrev pub any : List Item → Bool
any [] = false
any (item ∷ l) = true

abbrev pub full : Bool → ℕ → ℕ → List Item → Bool
full traced limit said items = any items && ltb limit (said + most_for traced)

-- how many bytes of a part are taken: all of them, or those before the byte that would make such an item whole
unfoldable pub part_taken : Bool → ℕ → ℕ → List ℕ → Stage → List ℕ → ℕ
part_taken traced limit said room s [] = 0
part_taken traced limit said room s (b ∷ l) =
    let items = items_with s b in
    let later = part_taken traced limit (said + length (lines_of traced room items)) (room_of room items) (stage_after s b) l in
    cond (full traced limit said items) 0 (suc later)

-- what a part leaves: how many of its bytes were taken, the room, and the lines in the output
pub record Took (traced : Bool) (s : Stage) (bytes room out room' out' : List ℕ) (took said : ℕ) : Type 0 where
  pub count : took ≡ part_taken traced (length out) 0 room s bytes
  pub leaves : room' ≡ room_of room (items_of s (take took bytes))
  pub lines : Put out 0 (lines_of traced room (items_of s (take took bytes))) out' said

-- ---- the end of the input: it is taken, or its line might not fit
unfoldable pub end_fits : Bool → List ℕ → Stage → Bool
end_fits traced out s = not (full traced (length out) 0 (items_at_end s))

unfoldable pub stage_ended : Bool → List ℕ → Stage → Stage
stage_ended traced out s = cond (end_fits traced out s) (stage_at_end s) s

unfoldable pub items_ended : Bool → List ℕ → Stage → List Item
items_ended traced out s = cond (end_fits traced out s) (items_at_end s) []

-- its number, taken or not: that of where the reader stands at the end of the input
abbrev pub number_at_end : Stage → ℕ
number_at_end s = stage_number (stage_at_end s)

-- ---- while a part is taken: where the reader stands by its buffer, and that what is kept is not a whole item
abbrev pub standing : List ℕ → Stand → Stage
standing kept (Going have) = going (take have kept)
standing kept (Ended k) = ended k

abbrev pub number_at_stand : Stand → ℕ
number_at_stand (Going have) = 0
number_at_stand (Ended k) = k

-- what one byte leaves: nothing, where the output is full; else the reader, the room and the lines behind those that are written
pub record Stepped (traced : Bool) (s : Stage) (b : ℕ) (room out : List ℕ) (at : ℕ) (s' : Stage) (room' out' : List ℕ) (said : ℕ) (stop : Bool) : Type 0 where
  pub stops : stop ≡ full traced (length out) at (items_with s b)
  pub stands : s' ≡ cond stop s (stage_after s b)
  pub leaves : room' ≡ room_of room (cond stop [] (items_with s b))
  pub lines : Put out at (lines_of traced room (cond stop [] (items_with s b))) out' said

pub record NotWhole (kept : List ℕ) (have : ℕ) : Type 0 where
  pub size : length kept ≡ reader_bytes
  pub within : have ≤ body_length (kind_of (get_or kept 0 0))

abbrev pub StandsWithin : List ℕ → Stand → Type 0
StandsWithin kept (Going have) = NotWhole kept have
StandsWithin kept (Ended k) = ⊤

-- one byte, offered behind so many that are kept: not taken, or taken, and where the reader stands then
abbrev pub ByteTook : Bool → List ℕ → ℕ → ℕ → List ℕ → List ℕ → ℕ → List ℕ → List ℕ → List ℕ → Option Step → Type 0
ByteTook traced kept have b room out at kept' room' out' None =
    Stepped traced (going (take have kept)) b room out at (going (take have kept')) room' out' at true
ByteTook traced kept have b room out at kept' room' out' (Some step) =
    Stepped traced (going (take have kept)) b room out at (standing kept' step.stands) room' out' step.said false

abbrev pub ByteWithin : List ℕ → ℕ → Option Step → Type 0
ByteWithin kept have None = NotWhole kept have
ByteWithin kept have (Some step) = StandsWithin kept step.stands
