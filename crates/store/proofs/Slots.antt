-- A slot that is passed at one look is allowed: a slot that holds nothing in every row, one of one satellite where that may be held.
-- Assumes nothing.
use native.Mathlib.Omega.{arith}
use mathlib.Core.Path.{◌≡◌, refl}
use mathlib.Core.Bool.{Bool, true, false, ◌&&◌}
use mathlib.Core.List.{List}
use Prim.Native.Nat.{ℕ, ◌+◌, ◌-◌, ◌*◌, ◌%◌, ◌<◌, ◌≤◌}
use borrow.Author.Tests.{eqb-true, eq-eqb, leb-true}
use lib.Dec.{leb, eqb}
use lib.ListN.{get_or}
use Rattle.paper.proofs.Parts.{get_d_part}
use Rattle.paper.proofs.StoreFacts.{both_true, true_both}
use Rattle.paper.specs.Big.{be16, be32}
use Rattle.paper.specs.Parts.{part}
use Rattle.paper.specs.Record.{Family, CED, Timing, satellite_at, count_at, ages_at, size, satellite, count, last_weight}
use Rattle.paper.specs.Room.{base, slot_size}
use Rattle.paper.specs.Store.{no_bit_past, record_allowed, slot_allowed}
use Rattle.store.proofs.Records.{Held, held_known, held_none}
use Rattle.store.specs.Slot.{is_empty, is_shared, is_plain}

module _ (most : ℕ) (slot : List ℕ) where
  abbrev rec : Family → List ℕ
  rec f = part (base f) (size f) slot

  -- the last byte of a record, as a byte of the slot
  last_of : (f : Family) → eqb (get_or slot (base f + (size f - 1)) 0 % last_weight) 0 ≡ true → no_bit_past f (rec f) ≡ true
  unfolding no_bit_past
  last_of CED e = rw (get_d_part (base CED) (size CED) slot (size CED - 1) (omega arith)) e
  last_of Timing e = rw (get_d_part (base Timing) (size Timing) slot (size Timing - 1) (omega arith)) e

  -- a byte of a record's satellite and count, as a byte of the slot
  in_head : (f : Family) (i : ℕ) → i < ages_at → get_or (rec f) i 0 ≡ get_or slot (base f + i) 0
  in_head f i h = get_d_part (base f) (size f) slot i (omega arith)

  held_allowed : (f : Family) → Held most (rec f) → no_bit_past f (rec f) ≡ true → record_allowed f most (rec f) ≡ true
  unfolding record_allowed
  held_allowed f h e = simp (h.allowed, h.counted, e)

  pub empty_allowed : is_empty slot ≡ true → slot_allowed most slot ≡ true
  unfolding is_empty slot_allowed be32 be16
  empty_allowed e =
      let a = both_true (eqb (satellite slot * 65536 + count slot) 0 && eqb (be32 slot (base Timing - 1)) 0) (eqb (get_or slot (slot_size - 1) 0 % last_weight) 0) e in
      let b = both_true (eqb (satellite slot * 65536 + count slot) 0) (eqb (be32 slot (base Timing - 1)) 0) a.0 in
      let h : satellite slot * 65536 + count slot ≡ 0 = eqb-true _ 0 b.0 in
      let t : be32 slot (base Timing - 1) ≡ 0 = eqb-true _ 0 b.1 in
      let c : satellite (rec CED) * 65536 + count (rec CED) ≡ 0 =
      omega (arith, h, in_head CED satellite_at (omega arith), in_head CED count_at (omega arith), in_head CED (count_at + 1) (omega arith)) in
      let p : satellite (rec Timing) * 65536 + count (rec Timing) ≡ 0 =
      omega (arith, t, in_head Timing satellite_at (omega arith), in_head Timing count_at (omega arith), in_head Timing (count_at + 1) (omega arith)) in
      true_both (record_allowed CED most (rec CED)) (record_allowed Timing most (rec Timing))
      (held_allowed CED (held_none most (rec CED) c) (last_of CED (eq-eqb (get_or slot (base Timing - 1) 0 % last_weight) 0 (omega (arith, t)))))
      (held_allowed Timing (held_none most (rec Timing) p) (last_of Timing a.1))

  pub shared_allowed : (leb 1 (satellite slot) && leb (satellite slot) most) ≡ true → is_shared slot ≡ true → slot_allowed most slot ≡ true
  unfolding is_shared slot_allowed
  shared_allowed k e =
      let a = both_true (eqb (get_or slot (base Timing + satellite_at) 0) (satellite slot) && eqb (get_or slot (base Timing - 1) 0 % last_weight) 0) (eqb (get_or slot (slot_size - 1) 0 % last_weight) 0) e in
      let b = both_true (eqb (get_or slot (base Timing + satellite_at) 0) (satellite slot)) (eqb (get_or slot (base Timing - 1) 0 % last_weight) 0) a.0 in
      let s : get_or slot (base Timing + satellite_at) 0 ≡ satellite slot = eqb-true _ _ b.0 in
      true_both (record_allowed CED most (rec CED)) (record_allowed Timing most (rec Timing))
      (held_allowed CED (held_known most (rec CED) (rw (get_d_part (base CED) (size CED) slot satellite_at (omega arith)) k)) (last_of CED b.1))
      (held_allowed Timing (held_known most (rec Timing) (rw (get_d_part (base Timing) (size Timing) slot satellite_at (omega arith), s) k)) (last_of Timing a.1))

  pub shared_last : get_or slot (base Timing + satellite_at) 0 ≡ satellite slot → get_or slot (base Timing - 1) 0 % last_weight ≡ 0 → eqb (get_or slot (slot_size - 1) 0 % last_weight) 0 ≡ is_shared slot
  unfolding is_shared
  shared_last s l = simp (eq-eqb (get_or slot (base Timing + satellite_at) 0) (satellite slot) s, eq-eqb (get_or slot (base Timing - 1) 0 % last_weight) 0 l)

  pub known_plain : (leb 1 (satellite slot) && leb (satellite slot) most) ≡ true → is_shared slot ≡ is_plain most slot
  unfolding is_plain
  known_plain e = simp e

  pub unknown_plain : (leb 1 (satellite slot) && leb (satellite slot) most) ≡ false → is_empty slot ≡ is_plain most slot
  unfolding is_plain
  unknown_plain e = simp e

  pub none_known : most ≤ 0 → (leb 1 (satellite slot) && leb (satellite slot) most) ≡ false
  none_known h = go (leb 1 (satellite slot)) (leb (satellite slot) most) refl refl
    where
      go : (a b : Bool) → leb 1 (satellite slot) ≡ a → leb (satellite slot) most ≡ b → a && b ≡ false
      go false b p q = refl
      go true false p q = refl
      go true true p q = absurd (omega (arith, h, leb-true 1 (satellite slot) p, leb-true (satellite slot) most q))

  pub plain_allowed : is_plain most slot ≡ true → slot_allowed most slot ≡ true
  unfolding is_plain
  plain_allowed e = go (leb 1 (satellite slot) && leb (satellite slot) most) refl
    where
      go : (b : Bool) → (leb 1 (satellite slot) && leb (satellite slot) most) ≡ b → slot_allowed most slot ≡ true
      go true q = shared_allowed q (rw q at e)
      go false q = empty_allowed (rw q at e)
