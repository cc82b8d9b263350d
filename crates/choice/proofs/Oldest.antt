-- The oldest records of a row: none is older, and one is so old. And a search that goes on to an older one before it as long as there is one
-- ends at the last of them. Assumes nothing.
use native.Mathlib.Omega.{arith}
use native.Mathlib.Decide.{ℕ_discrete}
use mathlib.Core.Path.{◌≡◌, refl, sym, ◌∙◌}
use mathlib.Core.Logic.{◌≢◌}
use mathlib.Core.Bool.{Bool, true, false}
use mathlib.Core.List.{List}
use Prim.Native.Nat.{ℕ, zero, suc, ◌-◌, ◌≤◌, ◌<◌, max}
use borrow.Author.Tests.{eqb-false, eq-eqb, ne_eqb, ltb-true, ltb-false}
use lib.Dec.{ltb}
use Rattle.paper.specs.Record.{Family}
use Rattle.choice.specs.Last.{last_of}
use Rattle.choice.specs.Cases.{slot_age, has_age, is_older, oldest_age, last_oldest}
use Rattle.std.specs.Prelude.{Option, Some, None}
use Rattle.choice.proofs.Search.{last_none, last_says, last_is}

module _ (f : Family) (row : List ℕ) where
  pub none_older : (n i : ℕ) → i < n → slot_age f row i ≤ oldest_age f n row
  unfolding oldest_age
  none_older zero i h = absurd (omega arith)
  none_older (suc n) i h = go (none_older n i) (ℕ_discrete i n)
    where
      go : (i < n → slot_age f row i ≤ oldest_age f n row) → Dec (i ≡ n) → slot_age f row i ≤ max (oldest_age f n row) (slot_age f row n)
      go before (yes e) = rw e (omega arith)
      go before (no d) = omega (arith, before (omega arith))

  oldest_most : (n age : ℕ) → ((i : ℕ) → i < n → slot_age f row i ≤ age) → oldest_age f n row ≤ age
  unfolding oldest_age
  oldest_most zero age most = omega arith
  oldest_most (suc n) age most = omega (arith, oldest_most n age (λ i g. most i (omega arith)), most n (omega arith))

  -- one of them is the oldest
  pub oldest_there : (n : ℕ) → 1 ≤ n → last_oldest f n row ≢ None
  oldest_there n h e =
      let age = oldest_age f n row in
      let below : (i : ℕ) → i < n → slot_age f row i < age = λ i g. omega (arith, none_older n i g, eqb-false (slot_age f row i) age (last_none _ n e i g)) in
      omega (arith, below 0 (omega arith), oldest_most n (age - 1) (λ i g. omega (arith, below i g)))

  -- all behind slot i are younger
  pub record Younger (n i : ℕ) : Type 0 where
    pub inside : i < n
    pub behind : (j : ℕ) → i < j → j < n → slot_age f row j < slot_age f row i

  pub at_the_end : (n : ℕ) → 1 ≤ n → Younger n (n - 1)
  at_the_end n h = record { inside = omega arith; behind = λ j g l. absurd (omega arith) }

  -- so a record is no older, if it is not where it stands before it
  no_older : (n i j : ℕ) → Younger n i → (j < i → slot_age f row j ≤ slot_age f row i) → j < n → slot_age f row j ≤ slot_age f row i
  no_older n i j y before l = go (ltb j i) refl (ℕ_discrete j i)
    where
      go : (b : Bool) → ltb j i ≡ b → Dec (j ≡ i) → slot_age f row j ≤ slot_age f row i
      go true t d = before (ltb-true j i t)
      go false t (yes d) = rw d (omega arith)
      go false t (no d) = let far = ltb-false j i t in omega (arith, y.behind j (omega arith) l)

  -- the search for an older one before slot i, and what it found
  module _ (n i : ℕ) (s : Option ℕ) (y : Younger n i) (q : s ≡ last_of (is_older f i row) i) where
    -- one: all behind that are younger too
    pub older_before : (o : ℕ) → s ≡ Some o → Younger n o × (o < i)
    older_before o t =
        let found = last_says _ i o (sym q ∙ t) in
        let older = ltb-true (slot_age f row i) (slot_age f row o) found.has in
        let passed : (j : ℕ) → o < j → j < i → slot_age f row j ≤ slot_age f row i = λ j g k. ltb-false _ _ (found.none_behind j g k) in
        let behind : (j : ℕ) → o < j → j < n → slot_age f row j < slot_age f row o = λ j g l. omega (arith, no_older n i j y (passed j g) l) in
        (record { inside = omega (arith, found.inside, y.inside); behind = behind }, found.inside)

    -- none: it is the last of the oldest
    pub none_before : s ≡ None → last_oldest f n row ≡ Some i
    none_before t =
        let passed : (j : ℕ) → j < i → slot_age f row j ≤ slot_age f row i = λ j g. ltb-false _ _ (last_none _ i (sym q ∙ t) j g) in
        let most : (j : ℕ) → j < n → slot_age f row j ≤ slot_age f row i = λ j l. no_older n i j y (passed j) l in
        let top : oldest_age f n row ≡ slot_age f row i = omega (arith, none_older n i y.inside, oldest_most n (slot_age f row i) most) in
        rw top (last_is _ n i (record { inside = y.inside; has = eq-eqb (slot_age f row i) (slot_age f row i) refl; none_behind = younger }))
      where
        younger : (j : ℕ) → i < j → j < n → has_age f (slot_age f row i) row j ≡ false
        younger j g l = ne_eqb (slot_age f row j) (slot_age f row i) (λ e. omega (arith, y.behind j g l))
