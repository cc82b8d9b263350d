-- A search that yields its index or refuses on the last, by the paper's `first`; and where a record's satellite stands in its row.
-- Assumes nothing.
use native.Mathlib.Omega.{arith}
use mathlib.Core.Path.{◌≡◌, refl, sym}
use mathlib.Core.Bool.{Bool, true, false, cond, ◌&&◌}
use mathlib.Core.List.{List}
use Prim.Native.Nat.{ℕ, ◌+◌, ◌-◌, ◌≤◌, ◌<◌}
use borrow.Author.Tests.{lt-ltb, le-ltb, ltb-true}
use lib.Dec.{eqb, ltb}
use lib.ListN.{get_or}
use Rattle.paper.specs.Parts.{first}
use Rattle.paper.specs.Record.{Family, satellite_at, size, satellite}
use Rattle.paper.specs.Room.{row_size, row_of, marked, is_at, record_at, record_of}
use Rattle.paper.proofs.Parts.{get_d_part}
use Rattle.paper.proofs.Views.{record_fits}
use Rattle.paper.proofs.First.{first_is, first_end}
use Rattle.std.specs.Prelude.{Option, Some, None}
use Rattle.lookup.specs.Found.{found}

-- ---- the tests of the two searches
abbrev pub is_marked : ℕ → ℕ → List ℕ → ℕ → Bool
is_marked w t room r = marked (row_of r room) && is_at w t (row_of r room)

abbrev pub is_of_satellite : Family → ℕ → List ℕ → ℕ → Bool
is_of_satellite f sat row i = eqb (satellite (record_of f i row)) sat

-- ---- the search's two ends: what was answered so far was no, by the test too
module _ (answered : ℕ → Bool → Type 0) (n : ℕ) (p : ℕ → Bool) (says : (i : ℕ) (b : Bool) → i < n → answered i b → b ≡ p i) where
  pub found_none : (k : ℕ) → n ≤ k → ((j : ℕ) → j < k → answered j false) → None ≡ found n (first p n)
  found_none k h before = rw (first_end p n (λ j g. sym (says j false g (before j (omega (arith, h, g))))), le-ltb n n (omega arith))

  pub found_here : (k : ℕ) → k < n → ((j : ℕ) → j < k → answered j false) → answered k true → Some k ≡ found n (first p n)
  found_here k h before here =
      let no : (j : ℕ) → j < k → p j ≡ false = λ j g. sym (says j false (omega (arith, h, g)) (before j g)) in
      rw (first_is p n k h (sym (says k true h here)) no, lt-ltb k n h)

-- ---- what an answer says
pub found_at : (n k x : ℕ) → found n k ≡ Some x → (x ≡ k) × (k < n)
found_at n k x e = go (ltb k n) refl e
  where
    go : (b : Bool) → ltb k n ≡ b → cond b (Some k) None ≡ Some x → (x ≡ k) × (k < n)
    go true t q = (cc, ltb-true k n t)
    go false t q = let z : ◌≡◌ {A = ℕ} 0 1 = cc in absurd (omega arith)

pub found_not : (n k : ℕ) → found n k ≡ None → ltb k n ≡ false
found_not n k e = go (ltb k n) refl e
  where
    go : (b : Bool) → ltb k n ≡ b → cond b (Some k) None ≡ None → ltb k n ≡ false
    go true t q = let z : ◌≡◌ {A = ℕ} 0 1 = cc in absurd (omega arith)
    go false t q = t

-- ---- a record in its row
pub satellite_at_lem : (f : Family) (i : ℕ) (row : List ℕ) → satellite (record_of f i row) ≡ get_or row (record_at f i + satellite_at) 0
satellite_at_lem f i row = get_d_part (record_at f i) (size f) row satellite_at (omega arith)

pub record_starts : (f : Family) (n i : ℕ) → i < n → record_at f i + satellite_at < row_size n
record_starts f n i h = omega (arith, record_fits f n i h)
