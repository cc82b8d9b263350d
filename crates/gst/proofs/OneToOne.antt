-- An answer of `gst` is known by the paper's number and values: no two answers have the same.
use native.Mathlib.Omega.{arith}
use mathlib.Core.Path.{◌≡◌, refl, ap}
use Prim.Native.Nat.{ℕ}
use lib.IntN.{ℤ}
use Rattle.std.specs.Prelude.{Bool, true, false, cond, List, [], ◌∷◌, Result, Ok, Err}
use Rattle.paper.specs.Time.{Difference, subframes, no_difference}
use Rattle.refusals.specs.Reply.{refusal_number}
use Rattle.refusals.specs.declared.Refusal.{Refusal}
use Rattle.refusals.proofs.Answers.{same_answer, same_refusal}
use Rattle.gst.specs.Answer.{time_answer, start_answer, apart_answer}
use Rattle.gst.specs.declared.Gst.{Gst}

-- the time from its numbers
abbrev time_from : List ℕ → Gst
time_from [] = record { wn = record { 0 = 0 }; tow = record { 0 = 0 } }
time_from (w ∷ []) = record { wn = record { 0 = w }; tow = record { 0 = 0 } }
time_from (w ∷ t ∷ l) = record { wn = record { 0 = w }; tow = record { 0 = t } }

-- a time is known by its week and its time of week
pub same_time : (g g' : Gst) → g.wn.0 ≡ g'.wn.0 → g.tow.0 ≡ g'.tow.0 → g ≡ g'
same_time g g' week time =
    let numbers : ◌≡◌ {A = List ℕ} (g.wn.0 ∷ g.tow.0 ∷ []) (g'.wn.0 ∷ g'.tow.0 ∷ []) = cc in
    ap time_from numbers

pub new_time_one : (r r' : Result Gst Refusal) → time_answer r ≡ time_answer r' → r ≡ r'
new_time_one = same_answer (λ g. g.wn.0 ∷ g.tow.0 ∷ []) (λ g g' e. ap time_from e)

-- a yes or a no from its number
yes_one : (b b' : Bool) → ◌≡◌ {A = List ℕ} (cond b 1 0 ∷ []) (cond b' 1 0 ∷ []) → b ≡ b'
yes_one true true e = refl
yes_one true false e = absurd (let z : ◌≡◌ {A = ℕ} 1 0 = cc in omega arith)
yes_one false true e = absurd (let z : ◌≡◌ {A = ℕ} 0 1 = cc in omega arith)
yes_one false false e = refl

pub start_one : (r r' : Result Bool Refusal) → start_answer r ≡ start_answer r' → r ≡ r'
start_one = same_answer (λ yes. cond yes 1 0 ∷ []) yes_one

-- a difference and a refusal are told apart by their case
is_apart : Difference → ℕ
is_apart (subframes n) = 1
is_apart (no_difference k) = 0

pub apart_one : (r r' : Result ℤ Refusal) → apart_answer r ≡ apart_answer r' → r ≡ r'
unfolding is_apart
apart_one (Ok n) (Ok m) e = let same : n ≡ m = cc in ap Ok same
apart_one (Ok n) (Err w) e = absurd (let z : ◌≡◌ {A = ℕ} 1 0 = ap is_apart e in omega arith)
apart_one (Err v) (Ok m) e = absurd (let z : ◌≡◌ {A = ℕ} 0 1 = ap is_apart e in omega arith)
apart_one (Err v) (Err w) e = let same : refusal_number v ≡ refusal_number w = cc in ap Err (same_refusal v w same)
