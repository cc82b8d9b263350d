-- What the answers of `answering` say of the paper's record that answers, and what is told of it. Assumes nothing.
use native.Mathlib.Omega.{arith}
use mathlib.Core.Path.{◌≡◌, refl, sym, ap, ◌∙◌}
use mathlib.Core.Bool.{Bool, true, false, cond, ◌&&◌}
use mathlib.Core.List.{List, [], ◌∷◌}
use Prim.Native.Nat.{ℕ, ◌+◌, ◌≤◌, ◌<◌}
use borrow.Author.Tests.{lt-ltb, ltb-true}
use lib.Dec.{ltb, eqb}
use lib.ListN.{length}
use Rattle.paper.specs.Number.{Answer, done, refused, number}
use Rattle.paper.specs.Parts.{part}
use Rattle.paper.specs.Big.{be16}
use Rattle.paper.specs.Record.{Family, count_at, size, count, ages_of, oldest, least}
use Rattle.paper.specs.Room.{head_size, row_size, depth, slots, current, by_time, row_at}
use Rattle.paper.specs.Ask.{steps_back, row_answering, slot_answering, answering_row, answering_record, some_enough, age_unknown, time_before}
use Rattle.paper.proofs.Big.{be16_part}
use Rattle.paper.proofs.First.{first_holds}
use Rattle.paper.proofs.Views.{row_inside}
use Rattle.paper.proofs.Views.{back_below}
use Rattle.lookup.specs.Candidate.{place_of}
use Rattle.lookup.proofs.Places.{place_inside, place_record}
use Rattle.std.specs.Prelude.{Option, Some, None}
use Rattle.ask.specs.declared.Place.{Place}
use Rattle.ask.specs.Backward.{here, place_back, answering_at}
use Rattle.ask.specs.Answered.{ask_place}
use Rattle.paper.specs.Answer.{ask_number, ask_answer}
use Rattle.paper.specs.Satellite.{is_satellite}
use Rattle.paper.specs.Store.{InRange, is_store}
use Rattle.ask.proofs.Heads.{answers_at, time_head}

-- what a place says, and 0 of none
abbrev row_told : Option Place → ℕ
row_told None = 0
row_told (Some p) = p.row

abbrev at_told : Option Place → ℕ
at_told None = 0
at_told (Some p) = p.at

module _ (f : Family) (sat : ℕ) (room : List ℕ) where
  -- no row answers
  pub answering_none : ltb (steps_back f sat room) (depth room) ≡ false → None ≡ answering_at f sat room
  unfolding answering_at some_enough
  answering_none e = rw e

  -- the row found answers, so one of its slots does
  pub answering_slot : steps_back f sat room < depth room → ltb (slot_answering f sat room) (slots room) ≡ true
  unfolding steps_back
  answering_slot h = first_holds (answers_at f sat room) (depth room) h

  pub answering_place_lem : steps_back f sat room < depth room → place_back f sat (steps_back f sat room) room ≡ answering_at f sat room
  unfolding place_back answering_at some_enough
  answering_place_lem h = rw (answering_slot h, lt-ltb (steps_back f sat room) (depth room) h)

  -- ---- nothing: no record has enough
  no_some : answering_at f sat room ≡ None → some_enough f sat room ≡ false
  unfolding answering_at
  no_some e = go (some_enough f sat room) refl e
    where
      go : (b : Bool) → some_enough f sat room ≡ b
          → cond b (here (row_at (slots room) (row_answering f sat room)) (place_of f (row_answering f sat room) (slot_answering f sat room) room)) None ≡ None
          → some_enough f sat room ≡ false
      go true h q = let z : ◌≡◌ {A = ℕ} 0 1 = cc in absurd (omega arith)
      go false h q = h

  pub ask_none : answering_at f sat room ≡ None → is_store room ≡ true → is_satellite sat ≡ true
      → (refused 12 ≡ ask_answer f sat room) × (0 ≡ ask_place f sat room)
  unfolding ask_answer ask_place ask_number
  ask_none e store known = let h = no_some e in (rw (store, known, h), rw (store, known, h))

  -- ---- a place: the row and the record that answer
  module _ (row at : ℕ) (e : answering_at f sat room ≡ here row at) where
    shown : (some_enough f sat room ≡ true) × ((row ≡ row_at (slots room) (row_answering f sat room)) × (at ≡ place_of f (row_answering f sat room) (slot_answering f sat room) room))
    unfolding answering_at
    shown = go (some_enough f sat room) refl e
      where
        go : (b : Bool) → some_enough f sat room ≡ b
            → cond b (here (row_at (slots room) (row_answering f sat room)) (place_of f (row_answering f sat room) (slot_answering f sat room) room)) None ≡ here row at
            → (some_enough f sat room ≡ true) × ((row ≡ row_at (slots room) (row_answering f sat room)) × (at ≡ place_of f (row_answering f sat room) (slot_answering f sat room) room))
        go true h q = (h, (sym (ap row_told q), sym (ap at_told q)))
        go false h q = let z : ◌≡◌ {A = ℕ} 0 1 = cc in absurd (omega arith)

    steps : steps_back f sat room < depth room
    unfolding some_enough
    steps = ltb-true (steps_back f sat room) (depth room) shown.0

    slot_lt : slot_answering f sat room < slots room
    slot_lt = ltb-true (slot_answering f sat room) (slots room) (answering_slot steps)

    -- it is the paper's record
    pub told_record : part at (size f) room ≡ answering_record f sat room
    unfolding answering_record answering_row
    told_record = rw shown.1.1 (place_record f (row_answering f sat room) (slot_answering f sat room) room slot_lt)

    -- and its row's subframe is the paper's
    told_time : time_before f (part row head_size room) (part at (size f) room) ≡ time_before f (answering_row f sat room) (answering_record f sat room)
    unfolding answering_row
    told_time = rw (told_record, shown.1.0) (time_head f (row_at (slots room) (row_answering f sat room)) (row_size (slots room)) room (answering_record f sat room) (omega arith))

    told_count : be16 room (at + count_at) ≡ count (answering_record f sat room)
    told_count = sym (be16_part at (size f) room count_at (omega arith)) ∙ ap count told_record

    module _ (F : InRange room) where
      row_lt : row_answering f sat room < depth room
      row_lt = back_below (depth room) (current room) (steps_back f sat room) F.in_ring steps

      pub told_inside : (row + head_size ≤ length room) × (at + size f ≤ length room)
      told_inside = (
        rw shown.1.0 (omega (arith, row_inside room F (row_answering f sat room) row_lt)),
        rw shown.1.1 (place_inside f (row_answering f sat room) (slot_answering f sat room) room slot_lt F row_lt),
      )

    -- whether its age is known is the paper's test
    told_unknown : (b : Bool) → b ≡ (by_time room && eqb (least (ages_of f (part at (size f) room))) oldest) → b ≡ age_unknown f sat room
    unfolding age_unknown
    told_unknown b eb = eb ∙ rw told_record

    -- the age not known; the time refused, and told
    module _ (store : is_store room ≡ true) (known : is_satellite sat ≡ true) where
      pub ask_unknown : true ≡ (by_time room && eqb (least (ages_of f (part at (size f) room))) oldest)
          → (refused 24 ≡ ask_answer f sat room) × (0 ≡ ask_place f sat room)
      unfolding ask_answer ask_place ask_number
      ask_unknown eu =
          let unknown = sym (told_unknown true eu) in
          (rw (store, known, shown.0, unknown), rw (store, known, shown.0, unknown))

      pub ask_late : false ≡ (by_time room && eqb (least (ages_of f (part at (size f) room))) oldest)
          → (t : Answer) → t ≡ time_before f (part row head_size room) (part at (size f) room) → eqb (number t) 0 ≡ false
          → (refused 7 ≡ ask_answer f sat room) × (0 ≡ ask_place f sat room)
      unfolding ask_answer ask_place ask_number
      ask_late eu t et k =
          let unknown = sym (told_unknown false eu) in
          let late : eqb (number (time_before f (answering_row f sat room) (answering_record f sat room))) 0 ≡ false =
          ap (λ (x : Answer). eqb (number x) 0) (sym (et ∙ told_time)) ∙ k in
          (rw (store, known, shown.0, unknown, late), rw (store, known, shown.0, unknown, late))

      pub ask_told : false ≡ (by_time room && eqb (least (ages_of f (part at (size f) room))) oldest)
          → (n w t : ℕ) → n ≡ be16 room (at + count_at) → done (w ∷ t ∷ []) ≡ time_before f (part row head_size room) (part at (size f) room)
          → (done (n ∷ w ∷ t ∷ []) ≡ ask_answer f sat room) × (at ≡ ask_place f sat room)
      unfolding ask_answer ask_place ask_number
      ask_told eu n w t en et =
          let unknown = sym (told_unknown false eu) in
          let time = et ∙ told_time in
          (rw (store, known, shown.0, unknown, ← time, en, told_count), rw (store, known, shown.0, unknown, ← time) shown.1.1)
