-- Laws of a candidate's place: what it says of the room and of the record there, and what showing the candidate answers and hands out.
-- Assumes nothing.
use native.Mathlib.Omega.{arith}
use mathlib.Core.Path.{◌≡◌, sym, ap, ◌∙◌, subst}
use mathlib.Core.Bool.{Bool}
use mathlib.Core.List.{List, []}
use lib.ListN.{length}
use Prim.Native.Nat.{ℕ, ◌+◌, ◌≤◌}
use Rattle.paper.specs.Number.{done, refused, answer}
use Rattle.paper.specs.Parts.{part}
use Rattle.paper.specs.Record.{size, data_at, data_bytes, satellite, data_of}
use Rattle.paper.specs.Store.{InRange, is_store}
use Rattle.paper.specs.Tag.{family_of, cop_allowed, kind_known, candidate_record}
use Rattle.paper.specs.Answer.{part_for, until_candidate, candidate_number, candidate_answer, candidate_data}
use Rattle.paper.proofs.Order.{unless_zero}
use Rattle.paper.proofs.StoreFacts.{store_facts}
use Rattle.refusals.specs.Reply.{refusal_number}
use Rattle.refusals.specs.declared.Refusal.{Refusal}
use Rattle.refusals.proofs.Answers.{above_zero, answer_refused, refused_part}
use Rattle.stays.proofs.Rooms.{candidate_satellite}
use Rattle.tags.specs.Candidates.{Placed}
use Rattle.std.specs.Prelude.{Result, Ok, Err}

module _ (allowed known : Bool) (sat kind cop w t : ℕ) (room : List ℕ) (r : Result ℕ Refusal) (p : Placed r allowed known sat kind cop w t room) where
  -- what was found, once it is known to be a place or a refusal
  pub placed_as : (r' : Result ℕ Refusal) → r ≡ r' → Placed r' allowed known sat kind cop w t room
  placed_as r' q = subst (λ (y : Result ℕ Refusal). Placed y allowed known sat kind cop w t room) q p

  -- a place: the room is a store, and the record there is the candidate's
  pub placed_range : (x : ℕ) → r ≡ Ok x → InRange room
  unfolding until_candidate
  placed_range x q = store_facts room (unless_zero (is_store room) 3 _ (omega arith) ((placed_as (Ok x) q).0 0)).0

  pub placed_inside : (x : ℕ) → r ≡ Ok x → (x + size (family_of kind) ≤ length room) × (satellite (part x (size (family_of kind)) room) ≡ sat)
  placed_inside x q =
      let there = (placed_as (Ok x) q).1 in
      (there.inside, ap satellite there.here ∙ candidate_satellite (family_of kind) sat cop w t room there.has)

-- what showing the candidate answers and hands out
module _ (sat kind cop w t : ℕ) (room : List ℕ) (r : Result ℕ Refusal) (p : Placed r (cop_allowed cop) (kind_known kind) sat kind cop w t room) where
  known_as : (r' : Result ℕ Refusal) → r ≡ r' → Placed r' (cop_allowed cop) (kind_known kind) sat kind cop w t room
  known_as = placed_as (cop_allowed cop) (kind_known kind) sat kind cop w t room r p

  pub shown_refused : (why : Refusal) → r ≡ Err why
      → (refused (refusal_number why) ≡ candidate_answer sat kind cop w t room) × ([] ≡ candidate_data sat kind cop w t room)
  unfolding candidate_data candidate_number
  shown_refused why q =
      let e : refused (refusal_number why) ≡ candidate_answer sat kind cop w t room =
      sym (ap (λ (k : ℕ). answer k []) (known_as (Err why) q 0) ∙ answer_refused (refusal_number why) [] (above_zero why)) in
      (e, refused_part (refusal_number why) (candidate_number sat kind cop w t room) [] _ e)

  pub shown_at : (x : ℕ) → r ≡ Ok x
      → (done [] ≡ candidate_answer sat kind cop w t room)
      × (part (x + data_at (family_of kind)) (data_bytes (family_of kind)) room ≡ candidate_data sat kind cop w t room)
  unfolding candidate_data candidate_number
  shown_at x q =
      let there = known_as (Ok x) q in
      (sym (ap (λ (k : ℕ). answer k []) (there.0 0)), there.1.bytes ∙ rw (there.0 0))
