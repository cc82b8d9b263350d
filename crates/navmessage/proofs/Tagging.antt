-- Laws of a tag: from its candidate's place to the paper's answer and room. Assumes nothing.
use mathlib.Core.Path.{◌≡◌, sym, ap, ◌∙◌}
use mathlib.Core.Bool.{Bool, ◌&&◌}
use mathlib.Core.List.{List, [], ◌∷◌}
use Prim.Native.Nat.{ℕ}
use Rattle.paper.specs.Number.{Answer, refused, answer}
use Rattle.paper.specs.Parts.{part}
use Rattle.paper.specs.Record.{Family, size}
use Rattle.paper.specs.Tag.{family_of, cop_allowed, length_allowed, kind_known, status_known, candidate_record, tagged, taken_by}
use Rattle.paper.specs.Answer.{room_for, until_candidate, from_candidate, tag_number, tag_answer, tag_room}
use Rattle.refusals.specs.Reply.{refusal_number}
use Rattle.refusals.specs.declared.Refusal.{Refusal}
use Rattle.refusals.proofs.Answers.{above_zero, answer_refused, refused_room}
use Rattle.tags.specs.Candidates.{Placed, accepted_answer, accepted_room}
use Rattle.std.specs.Prelude.{Result, Ok, Err}
use Rattle.tags.proofs.Shown.{placed_as}

module _ (allowed known : Bool) (sat kind cop l status w t : ℕ) (given : List ℕ) (verdict : Bool) (room : List ℕ)
    (ea : allowed ≡ (cop_allowed cop && length_allowed l)) (ek : known ≡ (kind_known kind && status_known status))
    (r : Result ℕ Refusal) (p : Placed r allowed known sat kind cop w t room) where
  f : Family
  f = family_of kind

  rec : List ℕ
  rec = candidate_record f sat w t room

  known_as : (r' : Result ℕ Refusal) → r ≡ r' → Placed r' allowed known sat kind cop w t room
  known_as = placed_as allowed known sat kind cop w t room r p

  -- the number of a tag, from what its candidate says of any later number
  number_is : (g : ℕ → ℕ) → ((later : ℕ) → until_candidate allowed known sat kind cop w t room later ≡ g later)
      → tag_number sat kind cop l status w t given verdict room ≡ g (from_candidate f given rec verdict status)
  unfolding tag_number f rec
  number_is g u = rw (← ea, ← ek) (u (from_candidate f given rec verdict status))

  pub tag_refused : (why : Refusal) → r ≡ Err why
      → (refused (refusal_number why) ≡ tag_answer sat kind cop l status w t given verdict room)
      × (room ≡ tag_room sat kind cop l status w t given verdict room)
  unfolding tag_answer tag_room
  tag_refused why q =
      let n = number_is (λ (later : ℕ). refusal_number why) (known_as (Err why) q) in
      let v : List ℕ = taken_by (family_of kind) (candidate_record (family_of kind) sat w t room) room ∷ [] in
      let e : refused (refusal_number why) ≡ answer (tag_number sat kind cop l status w t given verdict room) v =
      sym (ap (λ (k : ℕ). answer k v) n ∙ answer_refused (refusal_number why) v (above_zero why)) in
      (e, refused_room (refusal_number why) (tag_number sat kind cop l status w t given verdict room) v _ room e)

  pub tag_at_candidate : (x : ℕ) (a : Answer) (out : List ℕ) → r ≡ Ok x
      → a ≡ accepted_answer (family_of kind) given (part x (size (family_of kind)) room) verdict status room
      → out ≡ accepted_room (family_of kind) given (part x (size (family_of kind)) room) verdict status l room
      → (a ≡ tag_answer sat kind cop l status w t given verdict room) × (out ≡ tag_room sat kind cop l status w t given verdict room)
  unfolding tag_answer tag_room f rec
  tag_at_candidate x a out q e o =
      let there = known_as (Ok x) q in
      let n = number_is (λ (later : ℕ). later) there.0 in (
        e ∙ ap (λ (c : List ℕ). accepted_answer f given c verdict status room) there.1.here ∙ rw n,
        o ∙ ap (λ (c : List ℕ). accepted_room f given c verdict status l room) there.1.here ∙ rw n,
      )
