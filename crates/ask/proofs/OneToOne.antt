-- What asking came to is known by the paper's number and values and by the place: no two outcomes have the same. Assumes nothing.
use native.Mathlib.Omega.{arith}
use mathlib.Core.Path.{◌≡◌, ap, ◌∙◌}
use Prim.Native.Nat.{ℕ}
use Rattle.std.specs.Prelude.{Result, Ok, Err}
use Rattle.refusals.specs.Reply.{refusal_number}
use Rattle.refusals.specs.declared.Refusal.{Refusal}
use Rattle.refusals.proofs.Answers.{same_refusal}
use Rattle.ask.specs.declared.Answering.{Answering}
use Rattle.ask.specs.Answered.{answered_answer, place_answered}

-- a record put together again
answered : ℕ → ℕ → ℕ → ℕ → Result Answering Refusal
answered place n w t = Ok (record { at = place; authbits = n; gst = record { wn = record { 0 = w }; tow = record { 0 = t } } })

pub answered_one : (r r' : Result Answering Refusal) → answered_answer r ≡ answered_answer r' → place_answered r ≡ place_answered r' → r ≡ r'
unfolding answered
answered_one (Ok x) (Ok y) e p =
    let counts : x.authbits ≡ y.authbits = cc in
    let weeks : x.gst.wn.0 ≡ y.gst.wn.0 = cc in
    let times : x.gst.tow.0 ≡ y.gst.tow.0 = cc in
    ap (λ (i : ℕ). answered i x.authbits x.gst.wn.0 x.gst.tow.0) p
    ∙ ap (λ (i : ℕ). answered y.at i x.gst.wn.0 x.gst.tow.0) counts
    ∙ ap (λ (w : ℕ). answered y.at y.authbits w x.gst.tow.0) weeks
    ∙ ap (answered y.at y.authbits y.gst.wn.0) times
answered_one (Ok x) (Err w) e p = absurd (let z : ◌≡◌ {A = ℕ} 0 1 = cc in omega arith)
answered_one (Err v) (Ok y) e p = absurd (let z : ◌≡◌ {A = ℕ} 0 1 = cc in omega arith)
answered_one (Err v) (Err w) e p = let n : refusal_number v ≡ refusal_number w = cc in ap Err (same_refusal v w n)
