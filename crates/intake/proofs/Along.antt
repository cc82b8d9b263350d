-- Stages, items, rooms, lines and answers of bytes one behind the other: of two pieces of an input they are those of the whole. Behind the end of
-- an input nothing is heard. Assumes nothing.
use mathlib.Core.Path.{◌≡◌, refl, sym, ap, ◌∙◌}
use mathlib.Core.Bool.{Bool}
use mathlib.Core.List.{List, [], ◌∷◌, ◌++◌, append_assoc, append-nil}
use Prim.Native.Nat.{ℕ, suc, ◌+◌}
use lib.ListN.{length}
use Rattle.paper.specs.Number.{Answer}
use Rattle.intake.specs.Input.{Item, Stage, ended, stage_after, items_with, stage_of, items_of, item_room, item_answer, lines_for, room_of, lines_of, answers_of}
use Rattle.intake.specs.Reader.{part_taken}

-- ---- two pieces
pub stages : (s : Stage) (a b : List ℕ) → stage_of s (a ++ b) ≡ stage_of (stage_of s a) b
unfolding stage_of
stages s [] b = refl
stages s (x ∷ a) b = stages (stage_after s x) a b

pub items : (s : Stage) (a b : List ℕ) → items_of s (a ++ b) ≡ items_of s a ++ items_of (stage_of s a) b
unfolding items_of stage_of
items s [] b = refl
items s (x ∷ a) b =
    ap (λ (l : List Item). items_with s x ++ l) (items (stage_after s x) a b)
    ∙ sym (append_assoc (items_with s x) (items_of (stage_after s x) a) (items_of (stage_of (stage_after s x) a) b))

pub rooms : (room : List ℕ) (a b : List Item) → room_of room (a ++ b) ≡ room_of (room_of room a) b
unfolding room_of
rooms room [] b = refl
rooms room (i ∷ a) b = rooms (item_room i room) a b

pub texts : (traced : Bool) (room : List ℕ) (a b : List Item) → lines_of traced room (a ++ b) ≡ lines_of traced room a ++ lines_of traced (room_of room a) b
unfolding lines_of room_of
texts traced room [] b = refl
texts traced room (i ∷ a) b =
    ap (λ (l : List ℕ). lines_for traced i room ++ l) (texts traced (item_room i room) a b)
    ∙ sym (append_assoc (lines_for traced i room) (lines_of traced (item_room i room) a) (lines_of traced (room_of (item_room i room) a) b))

pub answers : (room : List ℕ) (a b : List Item) → answers_of room (a ++ b) ≡ answers_of room a ++ answers_of (room_of room a) b
unfolding answers_of room_of
answers room [] b = refl
answers room (i ∷ a) b = ap (λ (l : List Answer). item_answer i room ∷ l) (answers (item_room i room) a b)

-- ---- a byte behind others
pub stages_one : (s : Stage) (a : List ℕ) (b : ℕ) → stage_of s (a ++ (b ∷ [])) ≡ stage_after (stage_of s a) b
unfolding stage_of
stages_one s a b = stages s a (b ∷ [])

pub items_one : (s : Stage) (a : List ℕ) (b : ℕ) → items_of s (a ++ (b ∷ [])) ≡ items_of s a ++ items_with (stage_of s a) b
unfolding items_of
items_one s a b = items s a (b ∷ []) ∙ ap (λ (l : List Item). items_of s a ++ l) (append-nil (items_with (stage_of s a) b))

-- ---- behind the end of an input
pub stages_ended : (k : ℕ) (l : List ℕ) → stage_of (ended k) l ≡ ended k
unfolding stage_of stage_after
stages_ended k [] = refl
stages_ended k (b ∷ l) = stages_ended k l

pub items_ended_lem : (k : ℕ) (l : List ℕ) → items_of (ended k) l ≡ []
unfolding items_of items_with stage_after
items_ended_lem k [] = refl
items_ended_lem k (b ∷ l) = items_ended_lem k l

pub part_taken_ended : (traced : Bool) (limit said : ℕ) (room : List ℕ) (k : ℕ) (l : List ℕ) → part_taken traced limit said room (ended k) l ≡ length l
unfolding part_taken items_with stage_after room_of lines_of
part_taken_ended traced limit said room k [] = refl
part_taken_ended traced limit said room k (b ∷ l) = ap suc (part_taken_ended traced limit (said + 0) room k l)
