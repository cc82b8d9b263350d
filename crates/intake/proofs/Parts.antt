-- The bytes of a part so far: one more, and what a part leaves where it stops. Assumes nothing.
use native.Mathlib.Omega.{arith}
use native.Mathlib.Numerals.{add-one}
use mathlib.Core.Path.{◌≡◌, refl, sym, ap, ◌∙◌}
use mathlib.Core.Bool.{Bool, true, false}
use mathlib.Core.List.{List, [], ◌∷◌, ◌++◌, append-nil}
use Prim.Native.Nat.{ℕ, suc, ◌+◌, ◌≤◌, ◌<◌}
use lib.ListN.{length, get_or, take, drop, take-append-drop, drop_of_length-le, length-drop}
use lib.Seq.{take-suc, drop-cons, take-length}
use Rattle.text.specs.Text.{Put}
use Rattle.text.proofs.Puts.{length_put_text, put_then, put_none}
use Rattle.intake.specs.Input.{Item, Stage, ended, stage_after, items_with, stage_of, items_of, room_of, lines_of}
use Rattle.intake.specs.Reader.{part_taken, Took, Stepped}
use Rattle.intake.proofs.Along.{stages, items, rooms, texts, stages_one, items_one, stages_ended, items_ended_lem, part_taken_ended}

-- after i bytes of a part: what is still taken from here, where the reader stands, the room and the lines
pub record PartSofar (traced : Bool) (s : Stage) (bytes room out : List ℕ) (i : ℕ) (s' : Stage) (room' out' : List ℕ) (said : ℕ) : Type 0 where
  pub rest : part_taken traced (length out) 0 room s bytes ≡ i + part_taken traced (length out) said room' s' (drop i bytes)
  pub stands : s' ≡ stage_of s (take i bytes)
  pub leaves : room' ≡ room_of room (items_of s (take i bytes))
  pub lines : Put out 0 (lines_of traced room (items_of s (take i bytes))) out' said

pub part_begun : (traced : Bool) (s : Stage) (bytes room out : List ℕ) → PartSofar traced s bytes room out 0 s room out 0
unfolding stage_of items_of room_of lines_of
part_begun traced s bytes room out =
    record { rest = omega arith; stands = refl; leaves = refl; lines = put_none out 0 (omega arith) }

length_kept : {s s' t : List ℕ} {at r : ℕ} → Put s at t s' r → length s' ≡ length s
length_kept {s} {s'} {t} {at} {r} p = ap length p.bytes ∙ length_put_text s at t p.fits

-- a part behind the end of the input
pub took_ended : (traced : Bool) (k : ℕ) (bytes room out : List ℕ) → Took traced (ended k) bytes room out room out (length bytes) 0
unfolding room_of lines_of
took_ended traced k bytes room out =
    record {
      count = sym (part_taken_ended traced (length out) 0 room k bytes);
      leaves = rw (items_ended_lem k (take (length bytes) bytes)) refl;
      lines = rw (items_ended_lem k (take (length bytes) bytes)) (put_none out 0 (omega arith));
    }

module _ (traced : Bool) (s : Stage) (bytes room out : List ℕ) (i : ℕ) (s' : Stage) (room' out' : List ℕ) (said : ℕ)
    (before : PartSofar traced s bytes room out i s' room' out' said) where
  -- one byte more
  pub byte_more :
      (s'' : Stage) (room'' out'' : List ℕ) (said'' : ℕ) → i < length bytes
      → Stepped traced s' (get_or bytes i 0) room' out' said s'' room'' out'' said'' false
      → PartSofar traced s bytes room out (i + 1) s'' room'' out'' said''
  unfolding part_taken
  byte_more s'' room'' out'' said'' h t =
      record {
        rest = before.rest ∙ ap (λ (k : ℕ). i + k) (later) ∙ omega arith;
        stands = t.stands ∙ ap (λ (x : Stage). stage_after x b) before.stands ∙ sym (stages_one s (take i bytes) b) ∙ ap (stage_of s) front;
        leaves = t.leaves ∙ ap (λ (x : Stage). room_of room' (items_with x b)) before.stands ∙ there ∙ ap (λ (l : List ℕ). room_of room (items_of s l)) front;
        lines = rw (← front, printed) (put_then before.lines t.lines);
      }
    where
      b : ℕ
      b = get_or bytes i 0

      front : take i bytes ++ (b ∷ []) ≡ take (i + 1) bytes
      front = rw (add-one i) (sym (take-suc bytes i 0 h))

      printed : lines_of traced room (items_of s (take i bytes ++ (b ∷ []))) ≡ lines_of traced room (items_of s (take i bytes)) ++ lines_of traced room' (items_with s' b)
      printed =
          ap (lines_of traced room) (items_one s (take i bytes) b)
          ∙ texts traced room (items_of s (take i bytes)) (items_with (stage_of s (take i bytes)) b)
          ∙ rw (before.leaves, before.stands) refl

      there : room_of room' (items_with (stage_of s (take i bytes)) b) ≡ room_of room (items_of s (take i bytes ++ (b ∷ [])))
      there =
          ap (λ (x : List ℕ). room_of x (items_with (stage_of s (take i bytes)) b)) before.leaves
          ∙ sym (rooms room (items_of s (take i bytes)) (items_with (stage_of s (take i bytes)) b))
          ∙ ap (room_of room) (sym (items_one s (take i bytes) b))

      later : part_taken traced (length out) said room' s' (drop i bytes) ≡ suc (part_taken traced (length out) said'' room'' s'' (drop (i + 1) bytes))
      later =
          rw (add-one i, drop-cons bytes i 0 h, ← length_kept before.lines, ← t.stops, t.stands, t.leaves, t.lines.place)
          (ap
          (λ (n : ℕ). suc (part_taken traced n (said + length (lines_of traced room' (items_with s' b))) (room_of room' (items_with s' b)) (stage_after s' b) (drop (suc i) bytes)))
          (sym (length_kept before.lines)))

  -- the output is full
  pub stops_full :
      (s'' : Stage) (room'' out'' : List ℕ) (said'' : ℕ) → i < length bytes
      → Stepped traced s' (get_or bytes i 0) room' out' said s'' room'' out'' said'' true
      → Took traced s bytes room out room'' out'' i said'' × (s'' ≡ stage_of s (take i bytes))
  unfolding part_taken room_of lines_of
  stops_full s'' room'' out'' said'' h t = (
    record {
      count = sym (before.rest ∙ ap (λ (k : ℕ). i + k) none ∙ omega arith);
      leaves = t.leaves ∙ before.leaves;
      lines = rw (← append-nil (lines_of traced room (items_of s (take i bytes)))) (put_then before.lines t.lines);
    },
    t.stands ∙ before.stands,
  )
    where
      none : part_taken traced (length out) said room' s' (drop i bytes) ≡ 0
      none = rw (drop-cons bytes i 0 h, ← length_kept before.lines, ← t.stops) refl

  -- all bytes are taken
  pub stops_done : length bytes ≤ i → Took traced s bytes room out room' out' i said
  unfolding part_taken
  stops_done h =
      record {
        count = sym (before.rest ∙ ap (λ (k : ℕ). i + k) none ∙ omega arith);
        leaves = before.leaves;
        lines = before.lines;
      }
    where
      none : part_taken traced (length out) said room' s' (drop i bytes) ≡ 0
      none = rw (drop_of_length-le bytes {i = i} h) refl

  -- the input has ended
  module _ (k : ℕ) (e : s' ≡ ended k) (within : i ≤ length bytes) where
    same_stage : stage_of s (take (length bytes) bytes) ≡ s'
    same_stage =
        rw (take-length bytes, ← take-append-drop i bytes, stages s (take i bytes) (drop i bytes), ← before.stands, e) (stages_ended k (drop i bytes))

    same_items : items_of s (take (length bytes) bytes) ≡ items_of s (take i bytes)
    same_items =
        ap (items_of s) (take-length bytes ∙ sym (take-append-drop i bytes))
        ∙ items s (take i bytes) (drop i bytes)
        ∙ ap (λ (x : Stage). items_of s (take i bytes) ++ items_of x (drop i bytes)) (sym before.stands ∙ e)
        ∙ ap (λ (l : List Item). items_of s (take i bytes) ++ l) (items_ended_lem k (drop i bytes))
        ∙ append-nil (items_of s (take i bytes))

    pub stops_ended : Took traced s bytes room out room' out' (length bytes) said × (s' ≡ stage_of s (take (length bytes) bytes))
    stops_ended = (
      record {
        count =
            sym (before.rest ∙ ap (λ (x : Stage). i + part_taken traced (length out) said room' x (drop i bytes)) e
            ∙ ap (λ (n : ℕ). i + n) (part_taken_ended traced (length out) said room' k (drop i bytes) ∙ length-drop i bytes)
            ∙ omega arith);
        leaves = rw same_items before.leaves;
        lines = rw same_items before.lines;
      },
      sym same_stage,
    )
