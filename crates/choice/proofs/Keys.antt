-- "The place of the greatest key, the last of equals": where a property holds just of the greatest keys, it is the last place that has it.
-- And the three keys of a record.
use native.Mathlib.Omega.{arith}
use native.Mathlib.Decide.{ℕ_discrete}
use mathlib.Core.Path.{◌≡◌, refl, ◌∙◌}
use mathlib.Core.Logic.{◌≢◌}
use mathlib.Core.Bool.{Bool, true, false, cond}
use mathlib.Core.List.{List, [], ◌∷◌}
use Prim.Native.Nat.{ℕ, zero, suc, ◌≤◌, ◌<◌}
use borrow.Author.Tests.{le-leb, lt-leb, eq-eqb, ne_eqb}
use Rattle.paper.specs.Parts.{Bytes}
use Rattle.paper.specs.Record.{Family, ages_at, size, satellite, ages, ages_of, greatest}
use Rattle.paper.specs.Room.{record_at, record_of}
use Rattle.paper.specs.Feed.{unclaimed_key, own_key, key, last_greatest}
use Rattle.paper.proofs.Bytes.{bytes_part}
use Rattle.paper.proofs.Lengths.{last_greatest_lt}
use Rattle.choice.specs.Last.{last_of}
use Rattle.std.specs.Prelude.{Some}

-- "the last of equals": a key that is no less takes the place of the best before it
next_new : (k : ℕ → ℕ) (n : ℕ) → k (last_greatest k n) ≤ k n → last_greatest k (suc n) ≡ n
unfolding last_greatest
next_new k n h = rw (le-leb _ _ h)

next_kept : (k : ℕ → ℕ) (n : ℕ) → k n < k (last_greatest k n) → last_greatest k (suc n) ≡ last_greatest k n
unfolding last_greatest
next_kept k n h = rw (lt-leb _ _ h)

-- ---- the last of the greatest
last_inside : (k : ℕ → ℕ) (n : ℕ) → last_greatest k n ≤ n
unfolding last_greatest
last_inside k zero = omega arith
last_inside k (suc n) = omega (arith, last_greatest_lt k (suc n) (omega arith))

-- of the first `most` places the keys are at most m, and m just where p holds: the last place with p has the greatest key, and is the last that has
module _ (p : ℕ → Bool) (k : ℕ → ℕ) (m most : ℕ)
    (yes-key : (i : ℕ) → i < most → p i ≡ true → k i ≡ m) (no_key : (i : ℕ) → i < most → p i ≡ false → k i < m) where
  at_most : (i : ℕ) → i < most → k i ≤ m
  at_most i h = go (p i) refl
    where
      go : (b : Bool) → p i ≡ b → k i ≤ m
      go true e = omega (arith, yes-key i h e)
      go false e = omega (arith, no_key i h e)

  pub last_is_greatest : (n j : ℕ) → n ≤ most → last_of p n ≡ Some j → (last_greatest k n ≡ j) × ((j < n) × (k j ≡ m))
  unfolding last_of
  last_is_greatest zero j h e = let z : ◌≡◌ {A = ℕ} 0 1 = cc in absurd (omega arith)
  last_is_greatest (suc n) j h e = go (last_is_greatest n j (omega arith)) (p n) refl e
    where
      go : (last_of p n ≡ Some j → (last_greatest k n ≡ j) × ((j < n) × (k j ≡ m)))
          → (b : Bool) → p n ≡ b → cond b (Some n) (last_of p n) ≡ Some j → (last_greatest k (suc n) ≡ j) × ((j < suc n) × (k j ≡ m))
      go before true t f =
          let q : n ≡ j = cc in
          let g : k n ≡ m = yes-key n (omega arith) t in
          let l : k (last_greatest k n) ≤ m = at_most (last_greatest k n) (omega (arith, last_inside k n)) in
          (next_new k n (omega arith) ∙ q, (omega arith, rw (← q) g))
      go before false t f =
          let r = before f in
          let l : k (last_greatest k n) ≡ m = rw r.0 r.1.1 in
          (next_kept k n (omega (arith, no_key n (omega arith) t)) ∙ r.0, (omega (arith, r.1.0), r.1.1))

-- ---- keys of records
greatest_byte : (l : List ℕ) → Bytes l → greatest l < 256
unfolding greatest
greatest_byte [] b = omega arith
greatest_byte (x ∷ l) b = omega (arith, b 0, greatest_byte l (λ i. b (suc i)))

module _ (f : Family) (sat : ℕ) (rec : List ℕ) where
  pub key_same : satellite rec ≡ sat → key f sat rec ≡ own_key
  unfolding key
  key_same e = rw (eq-eqb (satellite rec) sat e)

  pub key_none : satellite rec ≢ sat → satellite rec ≡ 0 → key f sat rec ≡ unclaimed_key
  unfolding key
  key_none n e = rw (ne_eqb (satellite rec) sat n, eq-eqb (satellite rec) 0 e)

  pub key_age : satellite rec ≢ sat → satellite rec ≢ 0 → key f sat rec ≡ greatest (ages_of f rec)
  unfolding key
  key_age n m = rw (ne_eqb (satellite rec) sat n, ne_eqb (satellite rec) 0 m)

-- ages are bytes, and so below both keys
pub age_below : (f : Family) (i : ℕ) (row : List ℕ) → Bytes row → greatest (ages_of f (record_of f i row)) < unclaimed_key
age_below f i row b =
    let rec = bytes_part (record_at f i) (size f) row b in
    greatest_byte (ages_of f (record_of f i row)) (bytes_part ages_at (ages f) (record_of f i row) rec)

-- the keys of the records of a row
abbrev pub keys_of : Family → ℕ → List ℕ → ℕ → ℕ
keys_of f sat row i = key f sat (record_of f i row)

pub key_other : (f : Family) (sat i : ℕ) (row : List ℕ) → Bytes row → satellite (record_of f i row) ≢ sat → keys_of f sat row i < own_key
key_other f sat i row b n = go (ℕ_discrete (satellite (record_of f i row)) 0)
  where
    go : Dec (satellite (record_of f i row) ≡ 0) → keys_of f sat row i < own_key
    go (yes e) = omega (arith, key_none f sat (record_of f i row) n e)
    go (no m) = omega (arith, key_age f sat (record_of f i row) n m, age_below f i row b)
