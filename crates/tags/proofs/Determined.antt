-- Two outcomes that a contract of this crate permits are equal: what each says of the paper's numbers, and of the room. Assumes nothing.
use borrow.Fn.Kinds.{res_t, ended_of, Dens}
use denote.Triple.Clauses.{AtExit}
use contract.Lifetimes.{Lfts}
use mathlib.Core.Path.{◌≡◌, sym, ◌∙◌}
use native.Mathlib.Omega.{arith}
use mathlib.Core.Path.{ap}
use mathlib.Core.Bool.{Bool}
use mathlib.Core.List.{List}
use Prim.Native.Nat.{ℕ}
use Rattle.refusals.proofs.Answers.{same_refusal, above_zero}
use Rattle.tags.specs.Candidates.{Placed, tagged_answer}
use Rattle.std.specs.Prelude.{Result, Ok, Err}
use Rattle.refusals.specs.declared.Refusal.{Refusal}
use Rattle.tags.proofs.candidate_of.Reads as place
use Rattle.tags.proofs.candidate_of.Kinds as place_kinds
use Rattle.tags.proofs.candidate_shown.Reads as shown
use Rattle.tags.proofs.candidate_shown.Kinds as shown_kinds
use Rattle.tags.proofs.accept.Reads as accept
use Rattle.tags.proofs.accept.Kinds as accept_kinds

pub accept_determined :
    (κs : Lfts 2) (a : Dens κs accept_kinds.ps) (r r' : (res_t accept_kinds.r κs).Denot)
    (e e' : AtExit (ended_of 2 accept_kinds.ps accept_kinds.r) κs) → accept.Post κs a r e → accept.Post κs a r' e'
    → (tagged_answer r ≡ tagged_answer r') × (e.0.now ≡ e'.0.now)
accept_determined κs a r r' e e' p q = (p.0 ∙ sym q.0, p.1 ∙ sym q.1)

-- one place, or one refusal
same_place : (allowed known : Bool) (sat kind cop w t : ℕ) (room : List ℕ) (x y : Result ℕ Refusal)
    → Placed x allowed known sat kind cop w t room → Placed y allowed known sat kind cop w t room → x ≡ y
same_place allowed known sat kind cop w t room (Ok x) (Ok y) p q = ap Ok (p.1.place ∙ sym q.1.place)
same_place allowed known sat kind cop w t room (Ok x) (Err v) p q = absurd (omega (arith, p.0 0, q 0, above_zero v))
same_place allowed known sat kind cop w t room (Err v) (Ok y) p q = absurd (omega (arith, q.0 0, p 0, above_zero v))
same_place allowed known sat kind cop w t room (Err v) (Err u) p q = ap Err (same_refusal v u (sym (p 0) ∙ q 0))

pub candidate_of_determined :
    (κs : Lfts 1) (a : Dens κs place_kinds.ps) (r r' : (res_t place_kinds.r κs).Denot)
    (e e' : AtExit (ended_of 1 place_kinds.ps place_kinds.r) κs) → place.Post κs a r e → place.Post κs a r' e' → r ≡ r'
candidate_of_determined κs a r r' e e' p q = same_place _ _ _ _ _ _ _ _ r r' p q

pub candidate_shown_determined :
    (κs : Lfts 1) (a : Dens κs shown_kinds.ps) (r r' : (res_t shown_kinds.r κs).Denot)
    (e e' : AtExit (ended_of 1 shown_kinds.ps shown_kinds.r) κs) → shown.Post κs a r e → shown.Post κs a r' e' → r ≡ r'
candidate_shown_determined κs a r r' e e' p q = same_place _ _ _ _ _ _ _ _ r r' p q
