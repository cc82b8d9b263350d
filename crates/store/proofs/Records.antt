-- A record by the tests that the code makes: one that holds a satellite that it may, one that holds none, and its last byte.
-- Assumes nothing.
use native.Mathlib.Omega.{arith}
use mathlib.Core.Path.{◌≡◌, refl, sym}
use mathlib.Core.Bool.{Bool, true, false, ◌&&◌}
use mathlib.Core.List.{List}
use Prim.Native.Nat.{ℕ, ◌+◌, ◌-◌, ◌*◌, ◌%◌, ◌≤◌}
use borrow.Author.Tests.{le-leb, eq-eqb, ne_eqb, leb-true, eqb-true, eqb-false}
use lib.Dec.{leb, eqb}
use lib.ListN.{length, get_or}
use Rattle.paper.proofs.StoreFacts.{both_true}
use Rattle.paper.specs.Record.{Family, last_weight, size, satellite, count}
use Rattle.paper.specs.Store.{satellite_allowed, count_has_satellite, no_bit_past, record_allowed}

module _ (most : ℕ) (rec : List ℕ) where
  -- it may hold this satellite, and this count
  pub record Held : Type 0 where
    pub allowed : satellite_allowed most rec ≡ true
    pub counted : count_has_satellite rec ≡ true

  pub held_known : (leb 1 (satellite rec) && leb (satellite rec) most) ≡ true → Held
  unfolding satellite_allowed count_has_satellite
  held_known e =
      let k = both_true (leb 1 (satellite rec)) (leb (satellite rec) most) e in
      record { allowed = k.1; counted = simp (ne_eqb (satellite rec) 0 (λ z. omega (arith, leb-true 1 (satellite rec) k.0))) }

  pub held_none : satellite rec * 65536 + count rec ≡ 0 → Held
  unfolding satellite_allowed count_has_satellite
  held_none e =
      let s : satellite rec ≡ 0 = omega arith in
      let c : count rec ≡ 0 = omega arith in
      record { allowed = simp (le-leb (satellite rec) most (omega arith)); counted = simp (eq-eqb _ _ s, eq-eqb _ _ c) }

  -- with the last byte, all that is asked of it
  pub held_last : Held → (f : Family) → size f ≡ length rec → eqb (get_or rec (length rec - 1) 0 % last_weight) 0 ≡ record_allowed f most rec
  unfolding record_allowed no_bit_past
  held_last h f e = simp (h.allowed, h.counted, sym e)

  -- no satellite that it may hold, and not nothing: a satellite or a count too many
  pub not_held : (leb 1 (satellite rec) && leb (satellite rec) most) ≡ false → (satellite rec * 65536 + count rec ≡ 0 → ⊥)
      → (f : Family) → false ≡ record_allowed f most rec
  unfolding record_allowed satellite_allowed count_has_satellite
  not_held e n f = go (eqb (satellite rec) 0) refl
    where
      go : (b : Bool) → eqb (satellite rec) 0 ≡ b → false ≡ record_allowed f most rec
      go true q =
          let s : satellite rec ≡ 0 = eqb-true (satellite rec) 0 q in
          simp (le-leb (satellite rec) most (omega arith), q, ne_eqb (count rec) 0 (λ c. n (omega arith)))
      go false q =
          let s : 1 ≤ satellite rec = omega (arith, eqb-false (satellite rec) 0 q) in
          simp (simp (le-leb 1 (satellite rec) s) at e)
