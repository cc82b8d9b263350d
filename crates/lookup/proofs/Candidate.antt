-- The place that `candidate_at` answers is that of the paper's candidate, for the MACK time w, t whose time less 30 s is w', t'.
-- Assumes nothing.
use native.Mathlib.Omega.{arith}
use mathlib.Core.Path.{◌≡◌, refl, sym, ◌∙◌}
use mathlib.Core.Bool.{Bool, true, false, cond, ◌&&◌}
use mathlib.Core.List.{List, [], ◌∷◌}
use Prim.Native.Nat.{ℕ, ◌<◌}
use borrow.Author.Tests.{ltb-true}
use lib.Dec.{ltb}
use Rattle.paper.specs.Number.{values}
use Rattle.paper.specs.Record.{Family}
use Rattle.paper.specs.Room.{depth, slots}
use Rattle.paper.specs.Tag.{thirty_before, first_row, candidate_row, candidate_slot, candidate_record, fits_cop, has_candidate}
use Rattle.paper.specs.Store.{InRange}
use Rattle.paper.proofs.StoreFacts.{both_true}
use Rattle.std.specs.Prelude.{Option, Some, None}
use Rattle.lookup.specs.Candidate.{place_of, candidate_in, candidate_at, CandidateThere}
use Rattle.lookup.proofs.Places.{place_inside, place_record, place_data}

three : (a b c : Bool) (x y : Option ℕ) → cond a (cond b (cond c x y) y) y ≡ cond (a && b && c) x y
three true true c x y = refl
three true false c x y = refl
three false b c x y = refl

module _ (f : Family) (sat cop w t w' t' : ℕ) (room : List ℕ) (before : values (thirty_before w t) ≡ w' ∷ t' ∷ []) where
  abbrev place : ℕ
  place = place_of f (candidate_row w t room) (candidate_slot f sat w t room) room

  same_row : candidate_row w t room ≡ first_row w' t' room
  unfolding candidate_row
  same_row = rw before

  candidate_is : candidate_at f sat cop w' t' room ≡ cond (has_candidate f sat cop w t room) (Some place) None
  unfolding candidate_at candidate_in has_candidate candidate_slot candidate_record
  candidate_is =
      rw (← same_row)
      (three (ltb (candidate_row w t room) (depth room)) (ltb (candidate_slot f sat w t room) (slots room)) (fits_cop f cop (candidate_record f sat w t room))
      (Some place) None)

  -- nothing: there is no candidate
  pub candidate_none : candidate_at f sat cop w' t' room ≡ None → has_candidate f sat cop w t room ≡ false
  candidate_none e = go (has_candidate f sat cop w t room) refl (sym candidate_is ∙ e)
    where
      go : (b : Bool) → has_candidate f sat cop w t room ≡ b → cond b (Some place) None ≡ None → has_candidate f sat cop w t room ≡ false
      go true h q = let z : ◌≡◌ {A = ℕ} 0 1 = cc in absurd (omega arith)
      go false h q = h

  in_rows : has_candidate f sat cop w t room ≡ true → (candidate_row w t room < depth room) × (candidate_slot f sat w t room < slots room)
  unfolding has_candidate
  in_rows h =
      let two = (both_true _ _ h).0 in
      let rows = both_true _ _ two in
      (ltb-true _ _ rows.0, ltb-true _ _ rows.1)

  found_place : (x : ℕ) → candidate_at f sat cop w' t' room ≡ Some x → (has_candidate f sat cop w t room ≡ true) × (x ≡ place)
  found_place x e = go (has_candidate f sat cop w t room) refl (sym candidate_is ∙ e)
    where
      go : (b : Bool) → has_candidate f sat cop w t room ≡ b → cond b (Some place) None ≡ Some x → (has_candidate f sat cop w t room ≡ true) × (x ≡ place)
      go true h q = (h, cc)
      go false h q = let z : ◌≡◌ {A = ℕ} 0 1 = cc in absurd (omega arith)

  -- a place: the candidate is there
  pub candidate_shown : (x : ℕ) → InRange room → candidate_at f sat cop w' t' room ≡ Some x → CandidateThere f sat cop w t room x
  unfolding candidate_record
  candidate_shown x F e =
      let p = found_place x e in
      let l = in_rows p.0 in
      record {
        has = p.0;
        place = p.1;
        inside = rw p.1 (place_inside f (candidate_row w t room) (candidate_slot f sat w t room) room l.1 F l.0);
        here = rw p.1 (place_record f (candidate_row w t room) (candidate_slot f sat w t room) room l.1);
        bytes = rw p.1 (place_data f (candidate_row w t room) (candidate_slot f sat w t room) room l.1);
      }
