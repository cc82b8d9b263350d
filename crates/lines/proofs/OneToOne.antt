-- What is told is known by the paper's number and values: no two have the same. Assumes nothing.
use native.Mathlib.Omega.{arith}
use mathlib.Core.Path.{◌≡◌, refl, sym, ap, ◌∙◌}
use mathlib.Core.List.{List, [], ◌∷◌}
use Prim.Native.Nat.{ℕ}
use Rattle.std.specs.Prelude.{Result, Ok, Err}
use Rattle.lines.specs.declared.Said.{Said}
use Rattle.lines.specs.declared.Said.TheVariants.{Done, Total, Reading}
use Rattle.lines.specs.Lines.{said_values, outcome_answer}

-- what is said, from its values
said_from : List ℕ → Said
said_from [] = Done
said_from (n ∷ []) = Total n
said_from (x ∷ y ∷ []) = Done
said_from (count ∷ w ∷ t ∷ l) = Reading count (record { wn = record { 0 = w }; tow = record { 0 = t } })

back : (s : Said) → said_from (said_values s) ≡ s
unfolding said_from
back Done = refl
back (Total n) = refl
back (Reading count gst) = refl

said_one : (s s' : Said) → said_values s ≡ said_values s' → s ≡ s'
said_one s s' e = sym (back s) ∙ ap said_from e ∙ back s'

pub outcome_one : (r r' : Result Said ℕ) → outcome_answer r ≡ outcome_answer r' → r ≡ r'
outcome_one (Ok s) (Ok s') e = ap Ok (said_one s s' cc)
outcome_one (Ok s) (Err k) e = absurd (let z : ◌≡◌ {A = ℕ} 0 1 = cc in omega arith)
outcome_one (Err k) (Ok s) e = absurd (let z : ◌≡◌ {A = ℕ} 0 1 = cc in omega arith)
outcome_one (Err k) (Err m) e = let n : k ≡ m = cc in ap Err n
