-- The search from the end, one step and its end, and what its answer says.
use native.Mathlib.Omega.{arith}
use native.Mathlib.Decide.{ℕ_discrete}
use mathlib.Core.Path.{◌≡◌, refl, sym, ap, ◌∙◌}
use mathlib.Core.Bool.{Bool, true, false, cond}
use Prim.Native.Nat.{ℕ, zero, suc, ◌+◌, ◌-◌, ◌≤◌, ◌<◌}
use Rattle.choice.specs.Last.{last_of}
use Rattle.std.specs.Prelude.{Option, Some, None}

-- ---- a turn, and the end
step : (p : ℕ → Bool) (left : ℕ) → 0 < left → last_of p left ≡ cond (p (left - 1)) (Some (left - 1)) (last_of p (left - 1))
unfolding last_of
step p zero h = absurd (omega arith)
step p (suc n) h = let q : suc n - 1 ≡ n = omega arith in rw q

-- ---- what an answer says
pub last_none : (p : ℕ → Bool) (n : ℕ) → last_of p n ≡ None → (i : ℕ) → i < n → p i ≡ false
unfolding last_of
last_none p zero e i h = absurd (omega arith)
last_none p (suc n) e i h = go (λ q g. last_none p n q i g) (p n) refl e (ℕ_discrete i n)
  where
    go : (last_of p n ≡ None → i < n → p i ≡ false)
        → (b : Bool) → p n ≡ b → cond b (Some n) (last_of p n) ≡ None → Dec (i ≡ n) → p i ≡ false
    go before true t q d = let z : ◌≡◌ {A = ℕ} 0 1 = cc in absurd (omega arith)
    go before false t q (yes d) = rw d t
    go before false t q (no d) = before q (omega arith)

nowhere : (p : ℕ → Bool) (n : ℕ) → ((j : ℕ) → j < n → p j ≡ false) → last_of p n ≡ None
unfolding last_of
nowhere p zero none = refl
nowhere p (suc n) none = rw (none n (omega arith)) (nowhere p n (λ j g. none j (omega arith)))

-- place i is the last of the first n with p
pub record LastAt (p : ℕ → Bool) (n i : ℕ) : Type 0 where
  pub inside : i < n
  pub has : p i ≡ true
  pub none_behind : (j : ℕ) → i < j → j < n → p j ≡ false

still_last : (p : ℕ → Bool) (n i : ℕ) → p n ≡ false → LastAt p n i → LastAt p (suc n) i
still_last p n i t r = record { inside = omega (arith, r.inside); has = r.has; none_behind = λ j g l. behind j g l (ℕ_discrete j n) }
  where
    behind : (j : ℕ) → i < j → j < suc n → Dec (j ≡ n) → p j ≡ false
    behind j g l (yes d) = rw d t
    behind j g l (no d) = r.none_behind j g (omega arith)

pub last_says : (p : ℕ → Bool) (n i : ℕ) → last_of p n ≡ Some i → LastAt p n i
unfolding last_of
last_says p zero i e = let z : ◌≡◌ {A = ℕ} 0 1 = cc in absurd (omega arith)
last_says p (suc n) i e = go (last_says p n i) (p n) refl e
  where
    go : (last_of p n ≡ Some i → LastAt p n i) → (b : Bool) → p n ≡ b → cond b (Some n) (last_of p n) ≡ Some i → LastAt p (suc n) i
    go before true t q =
        let d : n ≡ i = cc in
        record { inside = omega arith; has = rw (← d) t; none_behind = λ j g l. absurd (omega arith) }
    go before false t q = still_last p n i t (before q)

pub last_is : (p : ℕ → Bool) (n i : ℕ) → LastAt p n i → last_of p n ≡ Some i
unfolding last_of
last_is p zero i l = absurd (omega (arith, l.inside))
last_is p (suc n) i l = go (last_is p n i) (ℕ_discrete i n)
  where
    go : (LastAt p n i → last_of p n ≡ Some i) → Dec (i ≡ n) → cond (p n) (Some n) (last_of p n) ≡ Some i
    go before (yes d) = let t : p n ≡ true = rw (← d) l.has in rw (t, d)
    go before (no d) =
        let inside : i < n = omega (arith, l.inside) in
        rw (l.none_behind n inside (omega arith)) (before (record { inside = inside; has = l.has; none_behind = λ j g q. l.none_behind j g (omega arith) }))

-- ---- the search's two ends: what was answered so far was no, by the test too
module _ (answered : ℕ → Bool → Type 0) (n : ℕ) (p : ℕ → Bool) (says : (i : ℕ) (b : Bool) → i < n → answered i b → b ≡ p i) where
  no_behind : (k : ℕ) → ((j : ℕ) → k ≤ j → j < n → answered j false) → (j : ℕ) → k ≤ j → j < n → p j ≡ false
  no_behind k before j h g = sym (says j false g (before j h g))

  pub found_none : ((j : ℕ) → 0 ≤ j → j < n → answered j false) → None ≡ last_of p n
  found_none before = sym (nowhere p n (λ j g. no_behind 0 before j (omega arith) g))

  pub found_here : (k : ℕ) → k < n → ((j : ℕ) → k + 1 ≤ j → j < n → answered j false) → answered k true → Some k ≡ last_of p n
  found_here k h before here =
      sym (last_is p n k (record { inside = h; has = sym (says k true h here); none_behind = λ j g l. no_behind (k + 1) before j (omega arith) l }))

-- ---- one property for another
pub last_same : (p q : ℕ → Bool) → ((i : ℕ) → p i ≡ q i) → (n : ℕ) → last_of p n ≡ last_of q n
unfolding last_of
last_same p q same zero = refl
last_same p q same (suc n) = rw (same n, last_same p q same n)
