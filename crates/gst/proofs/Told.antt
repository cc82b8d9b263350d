-- What an answer tells the caller of `gst`, arm by arm of a match on it.
use native.Mathlib.Omega.{arith}
use mathlib.Core.Path.{◌≡◌, refl, sym, ap, ◌∙◌}
use mathlib.Core.Bool.{Bool, true, false, cond}
use mathlib.Core.List.{[], ◌∷◌}
use Prim.Native.Nat.{ℕ, ◌/◌, ◌%◌, ◌≤◌, ◌<◌}
use borrow.Author.Tests.{leb-true}
use lib.Dec.{eqb, leb}
use lib.IntN.{ℤ, pos, negsuc, ◌+ℤ◌}
use lib.Signed.{le_z}
use Rattle.paper.specs.Number.{Answer, done, refused, number}
use Rattle.paper.specs.Time.{is_time, is_start, start_of, week_seconds, last_week, seconds_of, time_of_seconds, sum_of, add_seconds, subframe_of, is_subframe}
use Rattle.gst.specs.Answer.{time_answer, start_answer}
use Rattle.gst.specs.declared.Gst.{Gst}
use Rattle.std.specs.Prelude.{Result, Ok, Err}
use Rattle.refusals.specs.declared.Refusal.{Refusal}
use Rattle.refusals.specs.declared.Refusal.TheVariants.{TowTooLarge}
use Rattle.refusals.proofs.Answers.{not_zero}

-- the arm of `let Ok(..) = .. else`: the number is not 0
pub refuses_time : (r : Result Gst Refusal) → ((g : Gst) → r ≡ Ok g → ⊥) → eqb (number (time_answer r)) 0 ≡ false
refuses_time (Ok g) k = absurd (k g refl)
refuses_time (Err why) k = not_zero why

-- a cut time: the time asked is one, and this is the start of its subframe
pub cut_time :
    (w t : ℕ) (g : Gst) →
    time_answer (Ok g) ≡ subframe_of w t → (is_time t ≡ true) × ((g.wn.0 ≡ w) × (g.tow.0 ≡ start_of t))
unfolding subframe_of
cut_time w t g e = go (is_time t) e
  where
    go :
        (b : Bool) →
        time_answer (Ok g) ≡ cond b (done (w ∷ start_of t ∷ [])) (refused 5) →
        (b ≡ true) × ((g.wn.0 ≡ w) × (g.tow.0 ≡ start_of t))
    go true h = (refl, (cc, cc))
    go false h = absurd (let z : ◌≡◌ {A = ℕ} 0 1 = cc in omega arith)

-- none: the time asked is none
pub cut_none :
    (w t : ℕ) (r : Result Gst Refusal) → time_answer r ≡ subframe_of w t → eqb (number (time_answer r)) 0 ≡ false → is_time t ≡ false
unfolding subframe_of
cut_none w t r e n = go (is_time t) (ap (λ (a : Answer). eqb (number a) 0) (sym e) ∙ n)
  where
    go : (b : Bool) → eqb (number (cond b (done (w ∷ start_of t ∷ [])) (refused 5))) 0 ≡ false → b ≡ false
    go true h = h
    go false h = refl

-- is it a start: the time asked is one and is a start, is one and is none, or is no time
pub start_yes : (w t : ℕ) → start_answer (Ok true) ≡ is_subframe w t → (is_time t ≡ true) × (is_start t ≡ true)
unfolding is_subframe
start_yes w t e = go (is_time t) (is_start t) e
  where
    go :
        (b s : Bool) → start_answer (Ok true) ≡ cond b (done (cond s 1 0 ∷ [])) (refused 5) → (b ≡ true) × (s ≡ true)
    go true true h = (refl, refl)
    go true false h = absurd (let z : ◌≡◌ {A = ℕ} 0 1 = cc in omega arith)
    go false s h = absurd (let z : ◌≡◌ {A = ℕ} 0 1 = cc in omega arith)

pub start_no : (w t : ℕ) → start_answer (Ok false) ≡ is_subframe w t → (is_time t ≡ true) × (is_start t ≡ false)
unfolding is_subframe
start_no w t e = go (is_time t) (is_start t) e
  where
    go :
        (b s : Bool) → start_answer (Ok false) ≡ cond b (done (cond s 1 0 ∷ [])) (refused 5) → (b ≡ true) × (s ≡ false)
    go true true h = absurd (let z : ◌≡◌ {A = ℕ} 0 1 = cc in omega arith)
    go true false h = (refl, refl)
    go false s h = absurd (let z : ◌≡◌ {A = ℕ} 0 1 = cc in omega arith)

pub start_none : (w t : ℕ) → start_answer (Err TowTooLarge) ≡ is_subframe w t → is_time t ≡ false
unfolding is_subframe
start_none w t e = go (is_time t) (is_start t) e
  where
    go : (b s : Bool) → start_answer (Err TowTooLarge) ≡ cond b (done (cond s 1 0 ∷ [])) (refused 5) → b ≡ false
    go true s h = absurd (let z : ◌≡◌ {A = ℕ} 0 1 = cc in omega arith)
    go false s h = refl

-- of a time, adding seconds is the exact sum
pub sum_of_time : (w t : ℕ) (s : ℤ) → is_time t ≡ true → add_seconds w t s ≡ sum_of w t s
unfolding add_seconds
sum_of_time w t s h = simp h

-- a sum is a time again
at_within :
    (z : ℤ) (w t : ℕ) → done (w ∷ t ∷ []) ≡ time_of_seconds z → (w ≤ last_week) × (t < week_seconds)
unfolding time_of_seconds
at_within (pos s) w t e = go (leb (s / week_seconds) last_week) refl e
  where
    go :
        (b : Bool) →
        leb (s / week_seconds) last_week ≡ b →
        done (w ∷ t ∷ []) ≡ cond b (done (s / week_seconds ∷ s % week_seconds ∷ [])) (refused 7) →
        (w ≤ last_week) × (t < week_seconds)
    go true h e =
        let p : w ≡ s / week_seconds = cc in
        let q : t ≡ s % week_seconds = cc in
        (omega (arith, leb-true (s / week_seconds) last_week h), omega arith)
    go false h e = absurd (let z : ◌≡◌ {A = ℕ} 0 1 = cc in omega arith)
at_within (negsuc s) w t e = absurd (let z : ◌≡◌ {A = ℕ} 0 1 = cc in omega arith)

pub told_within :
    (w t : ℕ) (s : ℤ) (w' t' : ℕ) → done (w' ∷ t' ∷ []) ≡ sum_of w t s → (w' ≤ last_week) × (t' < week_seconds)
unfolding sum_of
told_within w t s w' t' e = go (le_z s (negsuc 604799)) e
  where
    go :
        (b : Bool) →
        done (w' ∷ t' ∷ []) ≡ cond b (refused 7) (time_of_seconds (pos (seconds_of w t) +ℤ s)) →
        (w' ≤ last_week) × (t' < week_seconds)
    go true h = absurd (let z : ◌≡◌ {A = ℕ} 0 1 = cc in omega arith)
    go false h = at_within (pos (seconds_of w t) +ℤ s) w' t' h
