-- An answer of `svn` is known by the paper's number and value: no two answers have the same.
use mathlib.Core.Path.{◌≡◌, ap}
use Prim.Native.Nat.{ℕ}
use Rattle.std.specs.Prelude.{List, [], ◌∷◌, Result}
use Rattle.refusals.specs.declared.Refusal.{Refusal}
use Rattle.refusals.proofs.Answers.{same_answer}
use Rattle.svn.specs.Answer.{satellite_answer}
use Rattle.svn.specs.declared.Svn.{Svn}

abbrev svn_of : ℕ → Svn
svn_of k = record { 0 = k }

svn_one : (s s' : Svn) → ◌≡◌ {A = List ℕ} (s.0 ∷ []) (s'.0 ∷ []) → s ≡ s'
svn_one s s' e = let n : s.0 ≡ s'.0 = cc in ap svn_of n

pub satellite_one : (r r' : Result Svn Refusal) → satellite_answer r ≡ satellite_answer r' → r ≡ r'
satellite_one = same_answer (λ s. s.0 ∷ []) svn_one
