-- The place that `ask` answers has the paper's data, and beside a refusal there is no data. Assumes nothing.
use mathlib.Core.Path.{◌≡◌, sym, ◌∙◌}
use mathlib.Core.Bool.{true}
use mathlib.Core.List.{List, []}
use native.Mathlib.Omega.{arith}
use Prim.Native.Nat.{ℕ, ◌+◌, ◌≤◌, ◌<◌}
use borrow.Author.Tests.{ltb-true}
use lib.ListN.{length}
use Rattle.paper.specs.Number.{done, refused}
use Rattle.paper.specs.Parts.{part}
use Rattle.paper.specs.Record.{Family, data_bytes, data_at, size}
use Rattle.paper.specs.Room.{depth, slots, current}
use Rattle.paper.specs.Satellite.{is_satellite}
use Rattle.paper.specs.Store.{InRange, is_store}
use Rattle.paper.specs.Ask.{steps_back, row_answering, slot_answering, answering_row, answering_record, some_enough}
use Rattle.paper.specs.Answer.{ask_number, ask_answer, ask_data}
use Rattle.paper.proofs.Order.{unless_zero}
use Rattle.paper.proofs.StoreFacts.{store_facts}
use Rattle.paper.proofs.Views.{back_below}
use Rattle.lookup.specs.Candidate.{place_of}
use Rattle.lookup.proofs.Places.{place_inside, place_data}
use Rattle.refusals.proofs.Answers.{done_number, refused_part}
use Rattle.ask.specs.Answered.{ask_place}
use Rattle.ask.proofs.Enough.{answering_slot}

-- what a caller learns of the place that is answered
pub record AnswerThere (f : Family) (sat : ℕ) (room : List ℕ) (place : ℕ) : Type 0 where
  pub inside : place + size f ≤ length room
  pub bytes : part (place + data_at f) (data_bytes f) room ≡ ask_data f sat room

module _ (f : Family) (sat : ℕ) (room : List ℕ) where
  -- beside a refusal, the empty slice
  pub no_data : (k : ℕ) → refused k ≡ ask_answer f sat room → [] ≡ ask_data f sat room
  unfolding ask_data ask_answer
  no_data k e = refused_part k (ask_number f sat room) _ _ e

  -- what an asking that is answered 0 has passed
  record Passed : Type 0 where
    facts : InRange room
    some : some_enough f sat room ≡ true

  passed : ask_number f sat room ≡ 0 → Passed
  unfolding ask_number
  passed e =
      let a = unless_zero (is_store room) 3 _ (omega arith) e in
      let b = unless_zero (is_satellite sat) 4 _ (omega arith) a.1 in
      let c = unless_zero (some_enough f sat room) 12 _ (omega arith) b.1 in
      record { facts = store_facts room a.0; some = c.0 }

  -- a record
  module _ (v : List ℕ) (place : ℕ) (e : done v ≡ ask_answer f sat room) (p : place ≡ ask_place f sat room) where
    number_0 : ask_number f sat room ≡ 0
    unfolding ask_answer
    number_0 = done_number (ask_number f sat room) _ v e

    P : Passed
    P = passed number_0

    steps : steps_back f sat room < depth room
    unfolding some_enough
    steps = ltb-true (steps_back f sat room) (depth room) P.some

    slot_lt : slot_answering f sat room < slots room
    slot_lt = ltb-true (slot_answering f sat room) (slots room) (answering_slot f sat room steps)

    row_lt : row_answering f sat room < depth room
    row_lt = back_below (depth room) (current room) (steps_back f sat room) P.facts.in_ring steps

    is_place : place ≡ place_of f (row_answering f sat room) (slot_answering f sat room) room
    unfolding ask_place
    is_place = p ∙ rw number_0

    is_data : part (place_of f (row_answering f sat room) (slot_answering f sat room) room + data_at f) (data_bytes f) room ≡ ask_data f sat room
    unfolding ask_data answering_record answering_row
    is_data = rw number_0 (place_data f (row_answering f sat room) (slot_answering f sat room) room slot_lt)

    pub answer_there : AnswerThere f sat room place
    answer_there =
        record {
          inside = rw is_place (place_inside f (row_answering f sat room) (slot_answering f sat room) room slot_lt P.facts row_lt);
          bytes = rw is_place is_data;
        }
