-- A move within one byte of the destination is one byte set: so the byte-wise move ensures what the bit-by-bit definition says.
use mathlib.Core.Bool.{Bool, true, false, cond}
use mathlib.Core.List.{List}
use mathlib.Core.Path.{◌≡◌, refl, sym, ap, ◌∙◌, subst}
use Prim.Native.Nat.{ℕ, suc, ◌+◌, ◌-◌, ◌*◌, ◌/◌, ◌%◌, ◌^◌, ◌<◌, ◌≤◌}
use native.Mathlib.Omega.{arith}
use native.Mathlib.Decide.{dec_lt, ℕ_discrete}
use native.Mathlib.Nat.{mod-lt}
use borrow.Author.Tests.{eqb-true, eqb-false}
use lib.Dec.{eqb}
use lib.ListN.{length, get_or, set, length-set}
use lib.Seq.{set-get_or, get_or-set_same, get_or-set_other}
use lib.Pow.{pow_pos, shr-shr, high, low}
use Rattle.paper.specs.Parts.{Bytes}
use Rattle.paper.specs.Bits.{spliced, bit_at, moved, changed}
use Rattle.paper.proofs.Bytes.{bytes_set}
use Rattle.paper.proofs.Digits.{low_digit, spliced_above, spliced_inside, spliced_below, spliced_lt}
use Rattle.paper.proofs.Bits.{equal_by_bits, length_moved, bytes_moved, moved_before, moved_after, moved_inside, changed_not, not_changed}
use Rattle.bits.specs.Field.{field_of}

-- ---- the bits of a field
pub field_small : (w : List ℕ) (p k : ℕ) → field_of w p k < 2 ^ k
field_small w p k = mod-lt _ (pow_pos k)

pub field_bit : (w : List ℕ) (p k : ℕ) → Bytes w → k ≤ 8 → (q : ℕ) → q < k → field_of w p k / 2 ^ q % 2 ≡ bit_at w (p + (k - suc q))
field_bit w p k b h q l =
    low_digit k q _ l ∙ ap (λ (n : ℕ). n % 2) (shr-shr (hi * 256 + lo) (16 - (p % 8 + k)) q) ∙ go (dec_lt (p % 8 + (k - suc q)) 8)
  where
    hi : ℕ
    hi = get_or w (p / 8) 0

    lo : ℕ
    lo = get_or w (p / 8 + 1) 0

    go : Dec (p % 8 + (k - suc q) < 8) → (hi * 256 + lo) / 2 ^ (16 - (p % 8 + k) + q) % 2 ≡ bit_at w (p + (k - suc q))
    go (yes g) =
        let e : 16 - (p % 8 + k) + q ≡ 8 + (7 - (p + (k - suc q)) % 8) = omega arith in
        let j : (p + (k - suc q)) / 8 ≡ p / 8 = omega arith in
        rw (j, e)
        (ap (λ (n : ℕ). n % 2)
        (sym (shr-shr (hi * 256 + lo) 8 (7 - (p + (k - suc q)) % 8))
        ∙ ap (λ (n : ℕ). n / 2 ^ (7 - (p + (k - suc q)) % 8)) (high hi 8 (b (p / 8 + 1)))))
    go (no g) =
        let e : 16 - (p % 8 + k) + q ≡ 7 - (p + (k - suc q)) % 8 = omega arith in
        let j : (p + (k - suc q)) / 8 ≡ p / 8 + 1 = omega arith in
        rw (j, e)
        (sym (low_digit 8 (7 - (p + (k - suc q)) % 8) (hi * 256 + lo) (omega arith))
        ∙ ap (λ (n : ℕ). n / 2 ^ (7 - (p + (k - suc q)) % 8) % 2) (low hi 8 (b (p / 8 + 1))))

-- ---- the byte that a move within one byte leaves
abbrev pub new_byte : List ℕ → ℕ → List ℕ → ℕ → ℕ → ℕ
new_byte d to w from k = spliced (8 - (to % 8 + k)) k (get_or d (to / 8) 0) (field_of w from k)

module _ (d : List ℕ) (to : ℕ) (w : List ℕ) (from k : ℕ) (one : 1 ≤ k) (fit : to % 8 + k ≤ 8) (here : to / 8 < length d)
    (bytes : Bytes d) (bytes-w : Bytes w) where
  in_byte : (j : ℕ) → j / 8 ≡ to / 8 → bit_at (moved d to w from k) j ≡ new_byte d to w from k / 2 ^ (7 - j % 8) % 2
  in_byte j e = go (dec_lt j to) (dec_lt j (to + k))
    where
      shift : ℕ
      shift = 8 - (to % 8 + k)

      b : ℕ
      b = get_or d (to / 8) 0

      small : field_of w from k < 2 ^ k
      small = field_small w from k

      old : bit_at d j ≡ b / 2 ^ (7 - j % 8) % 2
      old = ap (λ (y : ℕ). get_or d y 0 / 2 ^ (7 - j % 8) % 2) e

      go : Dec (j < to) → Dec (j < to + k) → bit_at (moved d to w from k) j ≡ new_byte d to w from k / 2 ^ (7 - j % 8) % 2
      go (yes l) c = moved_before d to w from k j l ∙ old ∙ sym (spliced_above shift k b (field_of w from k) small (7 - j % 8) (omega arith))
      go (no l) (no c) =
          moved_after d to w from k j (omega arith) ∙ old ∙ sym (spliced_below shift k b (field_of w from k) small (7 - j % 8) (omega arith))
      go (no l) (yes c) =
          let back : to + (j - to) ≡ j = omega arith in
          let weight : 7 - j % 8 ≡ shift + (k - suc (j - to)) = omega arith in
          let place : j - to ≡ k - suc (k - suc (j - to)) = omega arith in
          subst (λ (y : ℕ). bit_at (moved d to w from k) y ≡ bit_at w (from + (j - to))) back
          (moved_inside d to w from k (j - to) (omega arith) (omega arith))
          ∙ ap (λ (y : ℕ). bit_at w (from + y)) place
          ∙ sym (field_bit w from k bytes-w (omega arith) (k - suc (j - to)) (omega arith))
          ∙ sym (spliced_inside shift k b (field_of w from k) small (k - suc (j - to)) (omega arith))
          ∙ ap (λ (y : ℕ). new_byte d to w from k / 2 ^ y % 2) (sym weight)

  pub one_byte : moved d to w from k ≡ set d (to / 8) (new_byte d to w from k)
  one_byte =
      equal_by_bits (moved d to w from k) (set d (to / 8) x) (length_moved d to w from k ∙ sym (length-set d (to / 8) x)) (bytes_moved d to w from k bytes)
      (bytes_set d (to / 8) x bytes (spliced_lt (8 - (to % 8 + k)) k (get_or d (to / 8) 0) (field_of w from k) (field_small w from k) 8 (omega arith) (bytes (to / 8))))
      (λ j h. each j (ℕ_discrete (j / 8) (to / 8)))
    where
      x : ℕ
      x = new_byte d to w from k

      outside : (j : ℕ) → Dec (j < to) → (j / 8 ≡ to / 8 → ⊥) → bit_at (moved d to w from k) j ≡ bit_at d j
      outside j (yes l) n = moved_before d to w from k j l
      outside j (no l) n = moved_after d to w from k j (omega arith)

      each : (j : ℕ) → Dec (j / 8 ≡ to / 8) → bit_at (moved d to w from k) j ≡ bit_at (set d (to / 8) x) j
      each j (yes e) = rw (e, get_or-set_same d (to / 8) x 0 here) (rw e at (in_byte j e))
      each j (no n) = outside j (dec_lt j to) n ∙ sym (ap (λ (y : ℕ). y / 2 ^ (7 - j % 8) % 2) (get_or-set_other d (to / 8) (j / 8) x 0 n))

  pub one_changed : changed d to w from k ≡ cond (eqb (new_byte d to w from k) (get_or d (to / 8) 0)) false true
  one_changed = go (eqb (new_byte d to w from k) (get_or d (to / 8) 0)) refl (changed d to w from k) refl
    where
      x : ℕ
      x = new_byte d to w from k

      go : (e : Bool) → eqb x (get_or d (to / 8) 0) ≡ e → (c : Bool) → changed d to w from k ≡ c → c ≡ cond e false true
      go true e c f =
          sym f
          ∙ not_changed d to w from k (omega arith) (one_byte ∙ ap (set d (to / 8)) (eqb-true _ _ e) ∙ set-get_or d (to / 8) 0)
      go false e true f = refl
      go false e false f =
          let same : x ≡ get_or d (to / 8) 0 =
          sym (get_or-set_same d (to / 8) x 0 here) ∙ ap (λ (y : List ℕ). get_or y (to / 8) 0) (sym one_byte ∙ changed_not d to w from k f) in
          absurd (eqb-false _ _ e same)

  -- what the code leaves: the byte set, and the flag by whether the byte is another
  pub one_put : (y : ℕ) (l : List ℕ) (hit hit' : Bool) → y ≡ new_byte d to w from k
      → l ≡ set d (to / 8) y → hit' ≡ cond (eqb y (get_or d (to / 8) 0)) hit true
      → (l ≡ moved d to w from k) × (hit' ≡ cond (changed d to w from k) true hit)
  one_put y l hit hit' e f g = (f ∙ rw (e, one_byte), g ∙ rw (e, one_changed) (turn (eqb (new_byte d to w from k) (get_or d (to / 8) 0))))
    where
      turn : (c : Bool) → cond c hit true ≡ cond (cond c false true) true hit
      turn true = refl
      turn false = refl

-- ---- a whole byte
module _ (d : List ℕ) (i : ℕ) (w : List ℕ) (from : ℕ) (here : i < length d) (bytes : Bytes d) (bytes-w : Bytes w) where
  at_i : 8 * i / 8 ≡ i
  at_i = omega arith

  aligned : 8 * i % 8 ≡ 0
  aligned = omega arith

  whole : new_byte d (8 * i) w from 8 ≡ field_of w from 8
  whole = rw (at_i, aligned) (omega (arith, bytes i))

  pub whole_put : (y : ℕ) (l : List ℕ) (hit hit' : Bool) → y ≡ field_of w from 8
      → l ≡ set d i y → hit' ≡ cond (eqb y (get_or d i 0)) hit true
      → (l ≡ moved d (8 * i) w from 8) × (hit' ≡ cond (changed d (8 * i) w from 8) true hit)
  whole_put y l hit hit' e f g =
      one_put d (8 * i) w from 8 (omega arith) (omega arith) (omega arith) bytes bytes-w y l hit hit' (e ∙ sym whole) (rw at_i f) (rw at_i g)

-- the eight bits from bit 8 j + r on, as the code reads them
pub whole_field : (w : List ℕ) (j r : ℕ) → r < 8
    → (get_or w j 0 * 256 + get_or w (j + 1) 0) / 2 ^ (8 - r) % 256 ≡ field_of w (8 * j + r) 8
whole_field w j r h =
    let q : (8 * j + r) / 8 ≡ j = omega arith in
    let e : 16 - ((8 * j + r) % 8 + 8) ≡ 8 - r = omega arith in
    rw (q, e)
