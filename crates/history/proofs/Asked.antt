-- What asking hands out is the satellite, the count and the data of one record of the store, with a count of at least 40. Assumes nothing.
use mathlib.Core.Bool.{Bool, true, false, cond, ◌&&◌}
use mathlib.Core.List.{List, ◌∷◌}
use mathlib.Core.Path.{◌≡◌, refl, sym, ap, ◌∙◌}
use Prim.Native.Nat.{ℕ, ◌+◌, ◌-◌, ◌<◌, ◌≤◌}
use native.Mathlib.Omega.{arith}
use lib.Dec.{eqb, leb, ltb}
use borrow.Author.Tests.{ltb-true, leb-true, eqb-true, leb-false}
use lib.ListN.{get_or}
use Rattle.paper.specs.Number.{number, values}
use Rattle.paper.specs.Satellite.{is_satellite}
use Rattle.paper.specs.Record.{Family, satellite, count, data_of}
use Rattle.paper.specs.Room.{depth, slots, current, row_of, record_of}
use Rattle.paper.specs.Store.{is_store}
use Rattle.paper.specs.Ask.{least_count, has_enough, enough_slot, row_back, steps_back, row_answering, slot_answering, answering_row, answering_record, some_enough, time_before}
use Rattle.paper.specs.Answer.{ask_number, ask_answer, ask_data}
use Rattle.paper.specs.Call.{ask_call, answer_to, part_to}
use Rattle.paper.proofs.First.{first_holds}
use Rattle.paper.proofs.StoreFacts.{both_true, store_facts}
use Rattle.paper.proofs.Order.{unless_zero}
use Rattle.stays.proofs.Stays.{number_answer}
use Rattle.history.specs.Line.{Place, Inside, at}
use Rattle.history.specs.Demand.{answering_place}

module _ (f : Family) (sat : ℕ) (room : List ℕ) (e : number (answer_to (ask_call f sat) room) ≡ 0) where
  abbrev answering : Place
  answering = answering_place f sat room

  number_zero : ask_number f sat room ≡ 0
  unfolding answer_to ask_answer
  number_zero = sym (number_answer (ask_number f sat room) (count (answering_record f sat room) ∷ values (time_before f (answering_row f sat room) (answering_record f sat room)))) ∙ e

  allowed : (is_store room ≡ true) × (some_enough f sat room ≡ true)
  unfolding ask_number
  allowed =
      let a = unless_zero (is_store room) 3 _ (omega arith) number_zero in
      let b = unless_zero (is_satellite sat) 4 _ (omega arith) a.1 in
      let c = unless_zero (some_enough f sat room) 12 _ (omega arith) b.1 in
      (a.0, c.0)

  steps_in : steps_back f sat room < depth room
  unfolding some_enough
  steps_in = ltb-true (steps_back f sat room) (depth room) allowed.1

  slot_in : slot_answering f sat room < slots room
  unfolding steps_back
  slot_in =
      ltb-true (slot_answering f sat room) (slots room)
      (first_holds
      (λ (j : ℕ). ltb (enough_slot f sat (slots room) (row_of (row_back (depth room) (current room) j) room)) (slots room))
      (depth room) steps_in)

  row_in : row_answering f sat room < depth room
  unfolding row_back
  row_in = go (leb (steps_back f sat room) (current room)) refl
    where
      go : (b : Bool) → leb (steps_back f sat room) (current room) ≡ b
          → cond b (current room - steps_back f sat room) (depth room + current room - steps_back f sat room) < depth room
      go true l = omega (arith, (store_facts room allowed.0).in_ring)
      go false l = omega (arith, steps_in, leb-false (steps_back f sat room) (current room) l)

  pub answering_inside : Inside room answering
  answering_inside = record { row = row_in; slot = slot_in }

  answering_is : answering_record f sat room ≡ at room answering
  unfolding answering_record answering_row
  answering_is = refl

  enough : (satellite (at room answering) ≡ sat) × (least_count ≤ count (at room answering))
  unfolding enough_slot has_enough answering_row
  enough =
      let h = first_holds (λ (i : ℕ). eqb (satellite (record_of f i (answering_row f sat room))) sat && leb least_count (count (record_of f i (answering_row f sat room)))) (slots room) slot_in in
      let p = both_true (eqb (satellite (at room answering)) sat) (leb least_count (count (at room answering))) h in
      (eqb-true _ sat p.0, leb-true least_count _ p.1)

  pub answering_satellite : satellite (at room answering) ≡ sat
  answering_satellite = enough.0

  pub answering_enough : least_count ≤ count (at room answering)
  answering_enough = enough.1

  -- the first of the values beside the number is its count, and the part handed out is its data
  pub answering_count : get_or (values (answer_to (ask_call f sat) room)) 0 0 ≡ count (at room answering)
  unfolding answer_to ask_answer
  answering_count = rw number_zero (ap count answering_is)

  pub answering_data : part_to (ask_call f sat) room ≡ data_of f (at room answering)
  unfolding part_to ask_data
  answering_data = rw number_zero (ap (data_of f) answering_is)
