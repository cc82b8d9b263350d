-- What the tests of a call hand out: where all of them hold, the form of the number that was given. Assumes nothing.
use mathlib.Core.List.{[], ◌∷◌}
use mathlib.Core.Path.{◌≡◌}
use Prim.Native.Nat.{ℕ}
use Rattle.paper.specs.Number.{done, answer}
use Rattle.refusals.proofs.Answers.{done_number}

module _ (f n form : ℕ) (said : done (f ∷ []) ≡ answer n (form ∷ [])) where
  pub passed : n ≡ 0
  passed = done_number n (form ∷ []) (f ∷ []) said

  pub same_form : f ≡ form
  same_form = let all : done (f ∷ []) ≡ done (form ∷ []) = rw passed at said in cc
