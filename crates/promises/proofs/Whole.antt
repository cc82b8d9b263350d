-- An input that comes in parts gives the lines and the room that it gives in one piece: whatever the cutting, parts of no bytes among them,
-- and whatever the lengths of the outputs. Assumes nothing.
use mathlib.Core.Path.{◌≡◌, refl, sym, ap, subst, ◌∙◌}
use mathlib.Core.Bool.{Bool, true}
use mathlib.Core.List.{List, [], ◌∷◌, ◌++◌, append_assoc}
use Prim.Native.Nat.{ℕ, ◌≤◌}
use lib.ListN.{length, take, drop, replicate, take-append-drop}
use lib.Seq.{take-append-le}
use Rattle.paper.specs.Call.{run}
use Rattle.text.proofs.Puts.{take_put}
use Rattle.intake.specs.Input.{Item, Stage, going, ended, stage_of, items_of, items_at_end, at_start, input_items, room_of, lines_of, bench_room, output}
use Rattle.intake.specs.Reader.{stage_in, reader_of, reader_bytes, end_fits, items_ended}
use Rattle.intake.proofs.Along.{stages, items, rooms, texts, items_ended_lem, stages_ended}
use Rattle.intake.proofs.State.{Proper, none_unfinished, of_proper, stage_back}
use Rattle.intake.proofs.Taken.{part_taken_most}
use Rattle.promises.specs.Outcomes.{PartRan, EndRan}
use Rattle.promises.specs.Inputs.{part_bytes, PartLent, reader_left, room_left, part_said, EndLent, end_said, PartRead, Read}
use Rattle.promises.specs.Statements.{ReadInParts, PrintedIsOutput}

-- ---- what a run leaves
module _ (o : PartRan) (traced : Bool) (reader room bytes : List ℕ) (L : PartLent o traced reader room bytes) where
  -- what was taken of the part
  abbrev heard : List ℕ
  heard = take o.answer.took bytes

  took_most : o.answer.took ≤ length bytes
  took_most =
      subst (λ (b : List ℕ). o.answer.took ≤ length b) L.bytes_are
      (subst (λ (n : ℕ). n ≤ length (part_bytes o)) (sym o.permitted.0.count) (part_taken_most _ _ _ _ _ _))

  leaves_reader : reader_left o ≡ reader_of (stage_of (stage_in reader) heard)
  leaves_reader = rw (← L.bytes_are, ← L.reader_is) o.permitted.1.0

  leaves_room : room_left o ≡ room_of room (items_of (stage_in reader) heard)
  leaves_room = rw (← L.bytes_are, ← L.reader_is, ← L.room_is) o.permitted.0.leaves

  says : part_said o ≡ lines_of traced room (items_of (stage_in reader) heard)
  says = rw (← L.bytes_are, ← L.reader_is, ← L.room_is, ← L.traced_is) (take_put o.permitted.0.lines)

end_says : (o : EndRan) (traced : Bool) (reader room : List ℕ) → EndLent o traced reader room → end_said o ≡ lines_of traced room (items_at_end (stage_in reader))
unfolding items_ended
end_says o traced reader room L =
    let fits : end_fits o.arguments.1.1.1.0 o.arguments.1.1.0.now (stage_in o.arguments.0.now) ≡ true = sym o.permitted.1.0.1 ∙ L.taken in
    rw (← L.room_is, ← L.reader_is, ← L.traced_is) (rw fits at (take_put o.permitted.1.1))

-- ---- the rest of an input, from where a reader stands
abbrev rest : Stage → List ℕ → List Item
rest s input = items_of s input ++ items_at_end (stage_of s input)

rest_then : (s : Stage) (a b : List ℕ) → rest s (a ++ b) ≡ items_of s a ++ rest (stage_of s a) b
rest_then s a b =
    rw (items s a b, stages s a b) (append_assoc (items_of s a) (items_of (stage_of s a) b) (items_at_end (stage_of (stage_of s a) b)))

-- the end of an input changes no room
end_room_lem : (room : List ℕ) (s : Stage) → room_of room (items_at_end s) ≡ room
unfolding items_at_end room_of run
end_room_lem room (going []) = refl
end_room_lem room (going (b ∷ l)) = refl
end_room_lem room (ended k) = refl

-- a part, and what comes of the rest
module _ (traced : Bool) (bytes : List ℕ) (parts : List (List ℕ)) (input : List ℕ) (s : Stage) (room text now : List ℕ) (p : Proper s)
    (R : PartRead (Read traced parts) traced bytes input (reader_of s) room text now) where
  abbrev piece : List ℕ
  piece = take R.ran.answer.took bytes

  abbrev behind : List ℕ
  behind = drop R.ran.answer.took input

  back : stage_in (reader_of s) ≡ s
  back = stage_back s p

  cuts : input ≡ piece ++ behind
  cuts =
      sym (take-append-drop R.ran.answer.took input)
      ∙ ap (λ (x : List ℕ). take R.ran.answer.took x ++ behind) R.first
      ∙ ap (λ (x : List ℕ). x ++ behind)
      (take-append-le R.ran.answer.took bytes R.behind (took_most R.ran traced (reader_of s) room bytes R.lent))

  said : part_said R.ran ≡ lines_of traced room (items_of s piece)
  said = says R.ran traced (reader_of s) room bytes R.lent ∙ ap (λ (x : Stage). lines_of traced room (items_of x piece)) back

  then : room_left R.ran ≡ room_of room (items_of s piece)
  then = leaves_room R.ran traced (reader_of s) room bytes R.lent ∙ ap (λ (x : Stage). room_of room (items_of x piece)) back

  stands : reader_left R.ran ≡ reader_of (stage_of s piece)
  stands = leaves_reader R.ran traced (reader_of s) room bytes R.lent ∙ ap (λ (x : Stage). reader_of (stage_of x piece)) back

  goes_on : Read traced parts behind (reader_of (stage_of s piece)) (room_left R.ran) R.later now
  goes_on = subst (λ (x : List ℕ). Read traced parts behind x (room_left R.ran) R.later now) stands R.rest

  whole : rest s input ≡ items_of s piece ++ rest (stage_of s piece) behind
  whole = ap (rest s) cuts ∙ rest_then s piece behind

  together :
      (R.later ≡ lines_of traced (room_left R.ran) (rest (stage_of s piece) behind)) × (now ≡ room_of (room_left R.ran) (rest (stage_of s piece) behind))
      → (text ≡ lines_of traced room (rest s input)) × (now ≡ room_of room (rest s input))
  together later =
      let after : List Item = rest (stage_of s piece) behind in (
        R.lines ∙ rw (said, later.0, then) (sym (texts traced room (items_of s piece) after)) ∙ ap (lines_of traced room) (sym whole),
        later.1 ∙ rw then (sym (rooms room (items_of s piece) after)) ∙ ap (room_of room) (sym whole),
      )

read_from :
    (traced : Bool) (parts : List (List ℕ)) (input : List ℕ) (s : Stage) (room text now : List ℕ) → Proper s
    → Read traced parts input (reader_of s) room text now
    → (text ≡ lines_of traced room (rest s input)) × (now ≡ room_of room (rest s input))
unfolding items_of stage_of
read_from traced [] input s room text now p R =
    rw R.none (
      R.lines ∙ end_says R.ran traced (reader_of s) room R.lent ∙ ap (λ (x : Stage). lines_of traced room (items_at_end x)) (stage_back s p),
      R.same ∙ sym (end_room_lem room s),
    )
read_from traced (bytes ∷ parts) input s room text now p R =
    let piece : List ℕ = take R.ran.answer.took bytes in
    together traced bytes parts input s room text now p R
    (read_from traced parts (drop R.ran.answer.took input) (stage_of s piece) (room_left R.ran) R.later now (of_proper s piece p)
    (goes_on traced bytes parts input s room text now p R))

-- from the start of a reader on
pub read_in_parts : ReadInParts
unfolding input_items
read_in_parts traced parts input room text now R = read_from traced parts input at_start room text now none_unfinished R

-- what the program prints: its state and its room are all zero at the start
pub printed_is_output : PrintedIsOutput
unfolding output reader_of
printed_is_output traced parts input text now R = (read_in_parts traced parts input (replicate bench_room 0) text now R).0

-- what stands behind the end of an input changes nothing
pub behind_the_end : (a b : List ℕ) (k : ℕ) → stage_of at_start a ≡ ended k → input_items (a ++ b) ≡ input_items a
unfolding input_items items_at_end
behind_the_end a b k e = rest_then at_start a b ∙ rw (e, items_ended_lem k b, stages_ended k b) refl
