-- The three cases as the code goes: what each search found is the chosen slot, by `three_cases_lem`. Assumes nothing.
use native.Mathlib.Omega.{arith}
use mathlib.Core.Path.{◌≡◌, sym, ap, ◌∙◌}
use mathlib.Core.List.{List}
use Prim.Native.Nat.{ℕ, ◌+◌, ◌≤◌, ◌<◌}
use lib.Dec.{eqb}
use lib.ListN.{get_or}
use Rattle.paper.specs.Parts.{Bytes}
use Rattle.paper.specs.Record.{Family, satellite_at, size, satellite}
use Rattle.paper.specs.Room.{base, row_size, slot_at, record_at, record_of}
use Rattle.paper.specs.Feed.{chosen}
use Rattle.paper.proofs.Parts.{get_d_part}
use Rattle.paper.proofs.Views.{record_fits}
use Rattle.paper.proofs.Lengths.{chosen_lt}
use Rattle.choice.specs.Last.{is_of, last_of}
use Rattle.choice.specs.Cases.{has_satellite, last_own, last_unclaimed, last_oldest, three_cases}
use Rattle.std.specs.Prelude.{Option, Some, None}
use Rattle.choice.proofs.Search.{last_same}
use Rattle.choice.proofs.Cases.{three_cases_lem}

module _ (f : Family) (sat n : ℕ) (row : List ℕ) (b : Bytes row) (h : 1 ≤ n) where
  is_chosen : (i : ℕ) → three_cases f sat n row ≡ Some i → (i ≡ chosen f sat n row) × (i < n)
  is_chosen i e =
      let q : i ≡ chosen f sat n row = cc (three_cases_lem f sat n row b h) in
      (q, rw q (chosen_lt f sat n row h))

  pub found_own : (i : ℕ) → last_own f sat n row ≡ Some i → (i ≡ chosen f sat n row) × (i < n)
  unfolding three_cases
  found_own i e = is_chosen i (rw e)

  pub found_unclaimed : (i : ℕ) → last_own f sat n row ≡ None → last_unclaimed f n row ≡ Some i → (i ≡ chosen f sat n row) × (i < n)
  unfolding three_cases
  found_unclaimed i o e = is_chosen i (rw (o, e))

  pub found_oldest :
      (i : ℕ) → last_own f sat n row ≡ None → last_unclaimed f n row ≡ None → last_oldest f n row ≡ Some i → (i ≡ chosen f sat n row) × (i < n)
  unfolding three_cases
  found_oldest i o u e = is_chosen i (rw (o, u, e))

-- a search by the byte of a slot where the satellite stands is one by the record's satellite
pub by_satellite :
    (f : Family) (sat n at : ℕ) (row : List ℕ) (s found : Option ℕ)
    → at ≡ base f → s ≡ last_of (is_of row (at + satellite_at) sat) n → s ≡ found → last_of (has_satellite f sat row) n ≡ found
by_satellite f sat n at row s found a e t = last_same _ _ same n ∙ sym e ∙ t
  where
    satellite_at_lem : (i : ℕ) → satellite (record_of f i row) ≡ get_or row (slot_at i + (at + satellite_at)) 0
    satellite_at_lem i =
        let q : record_at f i + satellite_at ≡ slot_at i + (at + satellite_at) = omega arith in
        get_d_part (record_at f i) (size f) row satellite_at (omega arith) ∙ ap (λ (k : ℕ). get_or row k 0) q

    same : (i : ℕ) → has_satellite f sat row i ≡ is_of row (at + satellite_at) sat i
    same i = ap (λ (x : ℕ). eqb x sat) (satellite_at_lem i)

-- the record of slot i lies in a row that has that slot
pub record_inside : (f : Family) (i at bytes : ℕ) → at ≡ record_at f i → row_size (i + 1) ≤ bytes → at + size f ≤ bytes
record_inside f i at bytes e h = omega (arith, record_fits f (i + 1) i (omega arith))
