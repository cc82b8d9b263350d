-- The laws of the first place at which a test holds: a turn of the search and its end, and what the place found says. Assumes nothing.
use native.Mathlib.Omega.{arith}
use mathlib.Core.Path.{◌≡◌, refl, sym, ap, ◌∙◌}
use mathlib.Core.Bool.{Bool, true, false, cond}
use Prim.Native.Nat.{ℕ, zero, suc, ◌+◌, ◌-◌, ◌≤◌, ◌<◌}
use native.Mathlib.Decide.{dec_lt, ℕ_discrete}
use Rattle.paper.specs.Parts.{first_from, first}

-- ---- the loop that counts k up to n: it stops here, it goes on, it has found none
step : (p : ℕ → Bool) (n k : ℕ) → k < n → first_from p (n - k) k ≡ cond (p k) k (first_from p (n - (k + 1)) (k + 1))
unfolding first_from
step p n k h = let e : n - k ≡ suc (n - (k + 1)) = omega arith in rw e

pub first_here : (p : ℕ → Bool) (n k r : ℕ) → r ≡ first_from p (n - k) k → k < n → p k ≡ true → k ≡ r
first_here p n k r e h t = sym (e ∙ step p n k h ∙ ap (λ (b : Bool). cond b k (first_from p (n - (k + 1)) (k + 1))) t)

pub first_on : (p : ℕ → Bool) (n k r : ℕ) → r ≡ first_from p (n - k) k → k < n → p k ≡ false → r ≡ first_from p (n - (k + 1)) (k + 1)
first_on p n k r e h t = e ∙ step p n k h ∙ ap (λ (b : Bool). cond b k (first_from p (n - (k + 1)) (k + 1))) t

pub first_none : (p : ℕ → Bool) (n k r : ℕ) → r ≡ first_from p (n - k) k → n ≤ k → k ≡ r
unfolding first_from
first_none p n k r e h = let z : n - k ≡ zero = omega arith in sym (rw z at e)

-- ---- what the place found says
pub first_from_most : (p : ℕ → Bool) (m k : ℕ) → first_from p m k ≤ k + m
unfolding first_from
first_from_most p zero k = omega arith
first_from_most p (suc m) k = go (p k) (first_from_most p m (k + 1))
  where
    go : (b : Bool) → first_from p m (k + 1) ≤ k + 1 + m → cond b k (first_from p m (k + 1)) ≤ k + suc m
    go true h = omega arith
    go false h = omega arith

pub first_from_least : (p : ℕ → Bool) (m k : ℕ) → k ≤ first_from p m k
unfolding first_from
first_from_least p zero k = omega arith
first_from_least p (suc m) k = go (p k) (first_from_least p m (k + 1))
  where
    go : (b : Bool) → k + 1 ≤ first_from p m (k + 1) → k ≤ cond b k (first_from p m (k + 1))
    go true h = omega arith
    go false h = omega arith

-- short of the end, the test holds there
pub first_from_holds : (p : ℕ → Bool) (m k : ℕ) → first_from p m k < k + m → p (first_from p m k) ≡ true
unfolding first_from
first_from_holds p zero k h = absurd (omega arith)
first_from_holds p (suc m) k h = go (p k) refl (λ g. first_from_holds p m (k + 1) g) h
  where
    r : ℕ
    r = first_from p m (k + 1)

    go : (b : Bool) → p k ≡ b → (r < k + 1 + m → p r ≡ true) → cond b k r < k + suc m → p (cond b k r) ≡ true
    go true e rest g = e
    go false e rest g = rest (omega arith)

-- and at none before
pub first_from_before : (p : ℕ → Bool) (m k j : ℕ) → k ≤ j → j < first_from p m k → p j ≡ false
unfolding first_from
first_from_before p zero k j h g = absurd (omega arith)
first_from_before p (suc m) k j h g = go (p k) refl (λ i d. first_from_before p m (k + 1) j i d) g
  where
    r : ℕ
    r = first_from p m (k + 1)

    next : p k ≡ false → (k + 1 ≤ j → j < r → p j ≡ false) → Dec (j ≡ k) → j < r → p j ≡ false
    next e rest (yes d) i = rw d e
    next e rest (no d) i = rest (omega arith) i

    go : (b : Bool) → p k ≡ b → (k + 1 ≤ j → j < r → p j ≡ false) → j < cond b k r → p j ≡ false
    go true e rest i = absurd (omega arith)
    go false e rest i = next e rest (ℕ_discrete j k) i

pub first_from_same : (p q : ℕ → Bool) (m k : ℕ) → ((j : ℕ) → k ≤ j → j < k + m → p j ≡ q j) → first_from p m k ≡ first_from q m k
unfolding first_from
first_from_same p q zero k e = refl
first_from_same p q (suc m) k e =
    let here : p k ≡ q k = e k (omega arith) (omega arith) in
    let rest : first_from p m (k + 1) ≡ first_from q m (k + 1) = first_from_same p q m (k + 1) (λ j h g. e j (omega arith) (omega arith)) in
    rw (here, rest)

-- ---- the same for the numbers below n
module _ (p : ℕ → Bool) (n : ℕ) where
  pub first_most : first p n ≤ n
  first_most = omega (arith, first_from_most p n 0)

  pub first_holds : first p n < n → p (first p n) ≡ true
  first_holds h = first_from_holds p n 0 (omega arith)

  pub first_before : (j : ℕ) → j < first p n → p j ≡ false
  first_before j h = first_from_before p n 0 j (omega arith) h

  -- found at none: it holds at none
  pub first_nowhere : n ≤ first p n → (j : ℕ) → j < n → p j ≡ false
  first_nowhere h j g = first_before j (omega arith)

pub first_same : (p q : ℕ → Bool) (n : ℕ) → ((j : ℕ) → j < n → p j ≡ q j) → first p n ≡ first q n
first_same p q n e = first_from_same p q n 0 (λ j h g. e j (omega arith))

true_false : (b : Bool) → b ≡ true → b ≡ false → ⊥
true_false b t f = let z : ◌≡◌ {A = ℕ} 0 1 = cc in omega arith

-- a place at which the test holds, and at none before, is the first
pub first_is : (p : ℕ → Bool) (n r : ℕ) → r < n → p r ≡ true → ((j : ℕ) → j < r → p j ≡ false) → first p n ≡ r
first_is p n r h t e = go (dec_lt (first p n) r) (dec_lt r (first p n))
  where
    go : Dec (first p n < r) → Dec (r < first p n) → first p n ≡ r
    go (yes g) d = absurd (true_false (p (first p n)) (first_holds p n (omega arith)) (e (first p n) g))
    go (no g) (yes d) = absurd (true_false (p r) t (first_before p n r d))
    go (no g) (no d) = omega arith

-- a test that holds at none below n
pub first_end : (p : ℕ → Bool) (n : ℕ) → ((j : ℕ) → j < n → p j ≡ false) → first p n ≡ n
first_end p n e = go (dec_lt (first p n) n)
  where
    go : Dec (first p n < n) → first p n ≡ n
    go (yes g) = absurd (true_false (p (first p n)) (first_holds p n g) (e (first p n) g))
    go (no g) = omega (arith, first_most p n)
