-- The table of fields, and laws of some bits as a number, once over their place and their width. Assumes nothing.
use mathlib.Core.Bool.{true}
use mathlib.Core.List.{List, [], ◌∷◌}
use mathlib.Core.Path.{◌≡◌, refl, sym, ap, ◌∙◌}
use Prim.Native.Nat.{ℕ, zero, suc, ◌+◌, ◌-◌, ◌*◌, ◌/◌, ◌%◌, ◌^◌, ◌≤◌, ◌<◌}
use native.Mathlib.Nat.{pow-suc, add-zero, add-suc, mul_assoc}
use native.Mathlib.Omega.{arith}
use lib.Dec.{lit<}
use lib.ListN.{length, get_or}
use lib.Pow.{high, low}
use Rattle.paper.specs.Parts.{Bytes}
use Rattle.paper.specs.Bits.{bit_at, moved}
use Rattle.paper.specs.Word.{table}
use Rattle.paper.specs.Field.{Field, layouts, fields_in, fields_of, bits_in, all_fill, bits_at, numbers_at, in_record, in_word, numbers_of}
use Rattle.paper.proofs.Digits.{same_digits}
use Rattle.paper.proofs.Bits.{bit_small, byte_digit, moved_inside}

-- the fields of each word fill what it owns, in the record and in the word
pub fields_fill : all_fill table ≡ true
unfolding all_fill table fields_in layouts bits_in
fields_fill = refl

-- that is, 120, 120, 122, 120 and 67 bits; 99 and 42
pub widths :
    (bits_in (fields_of 1) ≡ 120)
    × (bits_in (fields_of 2) ≡ 120)
    × (bits_in (fields_of 3) ≡ 122)
    × (bits_in (fields_of 4) ≡ 120)
    × (bits_in (fields_of 5) ≡ 67)
    × (bits_in (fields_of 6) ≡ 99)
    × (bits_in (fields_of 10) ≡ 42)
unfolding fields_in layouts bits_in
widths = (refl, refl, refl, refl, refl, refl, refl)

module _ (s : List ℕ) where
  pub bits_small : (o n : ℕ) → bits_at s o n < 2 ^ n
  unfolding bits_at
  bits_small o zero = lit< tt
  bits_small o (suc n) = omega (arith, pow-suc 2 n, bits_small o n, bit_small s (o + n))

  -- bits that stand side by side
  pub bits_join : (o a b : ℕ) → bits_at s o (a + b) ≡ bits_at s o a * 2 ^ b + bits_at s (o + a) b
  unfolding bits_at
  bits_join o a zero = rw (add-zero a) (omega arith)
  bits_join o a (suc b) =
      let e : bits_at s o (a + b) ≡ bits_at s o a * 2 ^ b + bits_at s (o + a) b = bits_join o a b in
      let q : bits_at s o a * 2 ^ suc b ≡ bits_at s o a * 2 ^ b * 2 = ap (λ (x : ℕ). bits_at s o a * x) (pow-suc 2 b) ∙ sym (mul_assoc (bits_at s o a) (2 ^ b) 2) in
      let p : bit_at s (o + (a + b)) ≡ bit_at s (o + a + b) = ap (bit_at s) (omega arith) in
      rw (add-suc a b, e, p, q) (omega arith)

  -- the bits inside longer ones
  pub bits_inside : (o a w c : ℕ) → bits_at s o (a + (w + c)) / 2 ^ c % 2 ^ w ≡ bits_at s (o + a) w
  bits_inside o a w c =
      let e : bits_at s o (a + (w + c)) ≡ (bits_at s o a * 2 ^ w + bits_at s (o + a) w) * 2 ^ c + bits_at s (o + (a + w)) c =
      ap (bits_at s o) (omega arith) ∙ bits_join o (a + w) c ∙ ap (λ (x : ℕ). x * 2 ^ c + bits_at s (o + (a + w)) c) (bits_join o a w) in
      rw (e, high (bits_at s o a * 2 ^ w + bits_at s (o + a) w) c (bits_small (o + (a + w)) c)) (low (bits_at s o a) w (bits_small (o + a) w))

  -- one bit of them
  pub bits_digit : (o n t : ℕ) → t < n → bits_at s o n / 2 ^ t % 2 ≡ bit_at s (o + (n - suc t))
  unfolding bits_at
  bits_digit o n t h =
      let e : n ≡ n - suc t + (1 + t) = omega arith in
      ap (λ (x : ℕ). bits_at s o x / 2 ^ t % 2) e ∙ bits_inside o (n - suc t) 1 t ∙ rw (add-zero (o + (n - suc t))) (omega arith)

  -- a whole byte
  pub bits_byte : Bytes s → (j : ℕ) → bits_at s (8 * j) 8 ≡ get_or s j 0
  bits_byte bytes j =
      same_digits 8 (bits_at s (8 * j) 8) (get_or s j 0) (bits_small (8 * j) 8) (bytes j)
      (λ t h. bits_digit (8 * j) 8 t h ∙ ap (λ (x : ℕ). bit_at s (8 * j + x)) (omega arith) ∙ sym (byte_digit s j t h))

  -- and a byte behind n others
  pub bits_bytes : Bytes s → (j n : ℕ) → bits_at s (8 * j) (8 * n + 8) ≡ bits_at s (8 * j) (8 * n) * 256 + get_or s (j + n) 0
  bits_bytes bytes j n =
      bits_join (8 * j) (8 * n) 8
      ∙ ap (λ (x : ℕ). bits_at s (8 * j) (8 * n) * 256 + x) (ap (λ (x : ℕ). bits_at s x 8) (omega arith) ∙ bits_byte bytes (j + n))

-- bits that are the same, one by one, are the same number
pub bits_same : (s t : List ℕ) (o p n : ℕ) → ((k : ℕ) → k < n → bit_at s (o + k) ≡ bit_at t (p + k)) → bits_at s o n ≡ bits_at t p n
unfolding bits_at
bits_same s t o p zero f = refl
bits_same s t o p (suc n) f = rw (bits_same s t o p n (λ k h. f k (omega arith)), f n (omega arith))

-- fields whose bits were moved are read as the same numbers where the bits came from
pub numbers_moved : (d : List ℕ) (to : ℕ) (w : List ℕ) (from n k : ℕ) (fs : List Field) → to + n ≤ 8 * length d → k + bits_in fs ≤ n
    → numbers_at (moved d to w from n) (to + k) fs ≡ numbers_at w (from + k) fs
unfolding numbers_at bits_in
numbers_moved d to w from n k [] h l = refl
numbers_moved d to w from n k (f ∷ fs) h l =
    let here : bits_at (moved d to w from n) (to + k) f.width ≡ bits_at w (from + k) f.width =
    bits_same (moved d to w from n) w (to + k) (from + k) f.width
    (λ j q. ap (bit_at (moved d to w from n)) (omega arith) ∙ moved_inside d to w from n (k + j) h (omega arith) ∙ ap (bit_at w) (omega arith)) in
    let later : numbers_at (moved d to w from n) (to + k + f.width) fs ≡ numbers_at w (from + k + f.width) fs =
    ap (λ (x : ℕ). numbers_at (moved d to w from n) x fs) (omega arith)
    ∙ numbers_moved d to w from n (k + f.width) fs h (omega arith)
    ∙ ap (λ (x : ℕ). numbers_at w x fs) (omega arith) in
    rw (here, later)

-- so a word's fields are read of a record that it was written to as they are read of the word, from where they start there
pub numbers_written : (k : ℕ) (d w : List ℕ) → in_record table k + bits_in (fields_of k) ≤ 8 * length d
    → numbers_of k (moved d (in_record table k) w (in_word table k) (bits_in (fields_of k))) ≡ numbers_at w (in_word table k) (fields_of k)
numbers_written k d w h =
    let n = bits_in (fields_of k) in
    ap (λ (x : ℕ). numbers_at (moved d (in_record table k) w (in_word table k) n) x (fields_of k)) (sym (add-zero (in_record table k)))
    ∙ numbers_moved d (in_record table k) w (in_word table k) n 0 (fields_of k) h (omega arith)
    ∙ ap (λ (x : ℕ). numbers_at w x (fields_of k)) (add-zero (in_word table k))
