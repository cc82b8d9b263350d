-- What the code leaves, bit by bit: a number in whole bytes, the byte that the padding lies in, and the move of the data. Assumes nothing.
use mathlib.Core.List.{List, ◌++◌}
use mathlib.Core.Path.{◌≡◌, refl, sym, ap, ◌∙◌}
use Prim.Native.Nat.{ℕ, zero, suc, ◌+◌, ◌-◌, ◌*◌, ◌/◌, ◌%◌, ◌^◌, ◌≤◌, ◌<◌}
use native.Mathlib.Omega.{arith}
use native.Mathlib.Decide.{dec_lt, ℕ_discrete}
use native.Mathlib.Nat.{mod-lt, zero-add, zero-div, lt_of_lt_of_le}
use lib.Dec.{lit<}
use lib.ListN.{length, get_or, set, length-set}
use lib.Seq.{get_or-set_same, get_or-set_other}
use lib.Pow.{shr-shr, pow_mono}
use Rattle.paper.specs.Parts.{Bytes}
use Rattle.paper.specs.Bits.{bit_at, moved}
use Rattle.paper.specs.Field.{bits_at}
use Rattle.paper.specs.Message.{digits_of, bits_from, in_bytes}
use Rattle.paper.proofs.Bytes.{bytes_set}
use Rattle.paper.proofs.Digits.{low_digit}
use Rattle.paper.proofs.Bits.{length_moved, bytes_moved, moved_before, moved_after, moved_inside}
use Rattle.paper.proofs.Fields.{bits_join, bits_small, bits_bytes}
use Rattle.packing.specs.Big.{put_big}
use Rattle.packing.proofs.Rows.{digits_length, digits_at, digits_bits, from_length, from_at, from_bits, append_bits, append_first, append_then, past_end, spelled}

-- ---- a number in the first k bytes
pub big_length : (d : List ℕ) (k v : ℕ) → length (put_big d k v) ≡ length d
unfolding put_big
big_length d zero v = refl
big_length d (suc k) v = big_length (set d k (v % 256)) k (v / 256) ∙ length-set d k (v % 256)

-- a turn of the loop, from the last byte to the first, and its end
pub big_turn : (d : List ℕ) (k v : ℕ) → 0 < k → put_big (set d (k - 1) (v % 256)) (k - 1) (v / 256) ≡ put_big d k v
unfolding put_big
big_turn d zero v h = absurd (omega arith)
big_turn d (suc k) v h = let e : suc k - 1 ≡ k = omega arith in rw e

pub big_end : (d : List ℕ) (k v : ℕ) → k ≤ 0 → put_big d k v ≡ d
unfolding put_big
big_end d zero v h = refl
big_end d (suc k) v h = absurd (omega arith)

big_bytes : (d : List ℕ) (k v : ℕ) → Bytes d → Bytes (put_big d k v)
unfolding put_big
big_bytes d zero v b = b
big_bytes d (suc k) v b = big_bytes (set d k (v % 256)) k (v / 256) (bytes_set d k (v % 256) b (mod-lt v (lit< tt)))

big_behind : (d : List ℕ) (k v j : ℕ) → k ≤ j → get_or (put_big d k v) j 0 ≡ get_or d j 0
unfolding put_big
big_behind d zero v j h = refl
big_behind d (suc k) v j h =
    big_behind (set d k (v % 256)) k (v / 256) j (omega arith) ∙ get_or-set_other d k j (v % 256) 0 (λ e. omega arith)

big_byte : (d : List ℕ) (k v j : ℕ) → k ≤ length d → j < k → get_or (put_big d k v) j 0 ≡ v / 2 ^ (8 * (k - suc j)) % 256
unfolding put_big
big_byte d zero v j h l = absurd (omega arith)
big_byte d (suc k) v j h l =
    go (λ m. big_byte (set d k (v % 256)) k (v / 256) j (rw length-set (omega arith)) m) (ℕ_discrete j k)
  where
    x : List ℕ
    x = set d k (v % 256)

    go : (j < k → get_or (put_big x k (v / 256)) j 0 ≡ v / 256 / 2 ^ (8 * (k - suc j)) % 256) → Dec (j ≡ k)
        → get_or (put_big x k (v / 256)) j 0 ≡ v / 2 ^ (8 * (suc k - suc j)) % 256
    go ih (yes e) =
        let z : 8 * (suc k - suc j) ≡ 0 = omega arith in
        big_behind x k (v / 256) j (omega arith) ∙ rw (z, e, get_or-set_same d k (v % 256) 0 (omega arith)) (omega arith)
    go ih (no n) =
        let z : 8 * (suc k - suc j) ≡ 8 + 8 * (k - suc j) = omega arith in
        ih (omega arith) ∙ rw z (ap (λ (y : ℕ). y % 256) (shr-shr v 8 (8 * (k - suc j))))

big_bit : (d : List ℕ) (k v i : ℕ) → k ≤ length d → i < 8 * k → bit_at (put_big d k v) i ≡ v / 2 ^ (8 * k - suc i) % 2
big_bit d k v i h l =
    let e : 8 * (k - suc (i / 8)) + (7 - i % 8) ≡ 8 * k - suc i = omega arith in
    rw (big_byte d k v (i / 8) h (omega arith))
    (low_digit 8 (7 - i % 8) (v / 2 ^ (8 * (k - suc (i / 8)))) (omega arith)
    ∙ ap (λ (y : ℕ). y % 2) (shr-shr v (8 * (k - suc (i / 8))) (7 - i % 8) ∙ ap (λ (n : ℕ). v / 2 ^ n) e))

-- so a number with six zero bits behind it
head_bit : (d : List ℕ) (k v i : ℕ) → k + 1 ≤ length d → i < 8 * k + 2 → bit_at (put_big d (k + 1) (v * 64)) i ≡ v / 2 ^ (8 * k + 2 - suc i) % 2
head_bit d k v i h l =
    let e : 8 * (k + 1) - suc i ≡ 6 + (8 * k + 2 - suc i) = omega arith in
    let f : v * 64 / 2 ^ 6 ≡ v = omega arith in
    big_bit d (k + 1) (v * 64) i h (omega arith)
    ∙ ap (λ (y : ℕ). y % 2)
    (ap (λ (n : ℕ). v * 64 / 2 ^ n) e ∙ sym (shr-shr (v * 64) 6 (8 * k + 2 - suc i)) ∙ ap (λ (y : ℕ). y / 2 ^ (8 * k + 2 - suc i)) f)

-- ---- a byte made 0
zero_bit : (d : List ℕ) (j i : ℕ) → j < length d → i / 8 ≡ j → bit_at (set d j 0) i ≡ 0
zero_bit d j i h e = rw (e, get_or-set_same d j 0 0 h) (none (7 - i % 8))
  where
    none : (t : ℕ) → 0 / 2 ^ t % 2 ≡ 0
    none t = omega (arith, zero-div (2 ^ t))

other_bit : (d : List ℕ) (j i : ℕ) → (i / 8 ≡ j → ⊥) → bit_at (set d j 0) i ≡ bit_at d i
other_bit d j i n = rw (get_or-set_other d j (i / 8) 0 0 n)

-- ---- the message
module _ (out bytes : List ℕ) (k head : ℕ) (long : length out ≡ k + length bytes) (two : 2 ≤ length bytes) (all : Bytes out) where
  abbrev width : ℕ
  width = 8 * length bytes - 3

  abbrev headed : List ℕ
  headed = put_big out (k + 1) (head * 64)

  abbrev cleared : List ℕ
  cleared = set headed (length out - 1) 0

  cleared_length : length cleared ≡ length out
  cleared_length = length-set headed (length out - 1) 0 ∙ big_length out (k + 1) (head * 64)

  abbrev row : List ℕ
  row = digits_of (8 * k + 2) head ++ bits_from bytes 0 width

  head_long : length (digits_of (8 * k + 2) head) ≡ 8 * k + 2
  head_long = digits_length (8 * k + 2) head

  row_bit : (i : ℕ) → i < 8 * length out → bit_at (moved cleared (8 * k + 2) bytes 0 width) i ≡ get_or row i 0
  row_bit i h = go (dec_lt i (8 * k + 2)) (dec_lt i (8 * k + 2 + width))
    where
      go : Dec (i < 8 * k + 2) → Dec (i < 8 * k + 2 + width) → bit_at (moved cleared (8 * k + 2) bytes 0 width) i ≡ get_or row i 0
      go (yes l) c =
          moved_before cleared (8 * k + 2) bytes 0 width i l
          ∙ other_bit headed (length out - 1) i (λ e. omega arith)
          ∙ head_bit out k head i (omega arith) l
          ∙ sym (append_first (digits_of (8 * k + 2) head) (bits_from bytes 0 width) i (omega (arith, head_long)) ∙ digits_at (8 * k + 2) head i l)
      go (no l) (yes c) =
          let e : i ≡ 8 * k + 2 + (i - (8 * k + 2)) = omega arith in
          let g : i - length (digits_of (8 * k + 2) head) ≡ i - (8 * k + 2) = omega (arith, head_long) in
          ap (bit_at (moved cleared (8 * k + 2) bytes 0 width)) e
          ∙ moved_inside cleared (8 * k + 2) bytes 0 width (i - (8 * k + 2)) (omega (arith, cleared_length)) (omega arith)
          ∙ sym (append_then (digits_of (8 * k + 2) head) (bits_from bytes 0 width) i (omega (arith, head_long))
          ∙ ap (λ (n : ℕ). get_or (bits_from bytes 0 width) n 0) g
          ∙ from_at bytes 0 width (i - (8 * k + 2)) (omega arith))
      go (no l) (no c) =
          moved_after cleared (8 * k + 2) bytes 0 width i (omega arith)
          ∙ zero_bit headed (length out - 1) i (omega (arith, big_length out (k + 1) (head * 64))) (omega arith)
          ∙ sym (append_then (digits_of (8 * k + 2) head) (bits_from bytes 0 width) i (omega (arith, head_long))
          ∙ past_end (bits_from bytes 0 width) (i - length (digits_of (8 * k + 2) head)) (omega (arith, head_long, from_length bytes 0 width)))

  pub row_written : moved cleared (8 * k + 2) bytes 0 width ≡ in_bytes (length out) row
  row_written =
      spelled (length out) (moved cleared (8 * k + 2) bytes 0 width) row (length_moved cleared (8 * k + 2) bytes 0 width ∙ cleared_length)
      (bytes_moved cleared (8 * k + 2) bytes 0 width
      (bytes_set headed (length out - 1) 0 (big_bytes out (k + 1) (head * 64) all) (lit< tt)))
      (append_bits (digits_of (8 * k + 2) head) (bits_from bytes 0 width) (digits_bits (8 * k + 2) head) (from_bits bytes 0 width))
      row_bit

-- ---- the data
module _ (out m : List ℕ) (from : ℕ) (one : 1 ≤ length out) (all : Bytes out) where
  abbrev wide : ℕ
  wide = 8 * length out - 3

  abbrev blank : List ℕ
  blank = set out (length out - 1) 0

  data_bit : (i : ℕ) → i < 8 * length out → bit_at (moved blank 0 m from wide) i ≡ get_or (bits_from m from wide) i 0
  data_bit i h = go (dec_lt i wide)
    where
      go : Dec (i < wide) → bit_at (moved blank 0 m from wide) i ≡ get_or (bits_from m from wide) i 0
      go (yes l) =
          ap (bit_at (moved blank 0 m from wide)) (sym (zero-add i))
          ∙ moved_inside blank 0 m from wide i (omega (arith, length-set out (length out - 1) 0)) l
          ∙ sym (from_at m from wide i l)
      go (no l) =
          moved_after blank 0 m from wide i (omega arith)
          ∙ zero_bit out (length out - 1) i (omega arith) (omega arith)
          ∙ sym (past_end (bits_from m from wide) i (omega (arith, from_length m from wide)))

  pub data_written : moved blank 0 m from wide ≡ in_bytes (length out) (bits_from m from wide)
  data_written =
      spelled (length out) (moved blank 0 m from wide) (bits_from m from wide) (length_moved blank 0 m from wide ∙ length-set out (length out - 1) 0)
      (bytes_moved blank 0 m from wide (bytes_set out (length out - 1) 0 all (lit< tt)))
      (from_bits m from wide)
      data_bit

-- ---- the head read
pub head_cut : (m : List ℕ) (k : ℕ) → bits_at m 0 (8 * (k + 1)) / 64 ≡ bits_at m 0 (8 * k + 2)
head_cut m k =
    let e : 8 * (k + 1) ≡ 8 * k + 2 + 6 = omega arith in
    ap (λ (n : ℕ). bits_at m 0 n / 64) e ∙ omega (arith, bits_join m 0 (8 * k + 2) 6, bits_small m (0 + (8 * k + 2)) 6)

-- a number of fewer than eight bytes leaves room for one more
pub bytes_so_far : (m : List ℕ) (i v : ℕ) → i < 8 → v ≡ bits_at m 0 (8 * i) → v < 2 ^ 56
bytes_so_far m i v h e = rw e (lt_of_lt_of_le (bits_small m 0 (8 * i)) (pow_mono {i = 8 * i} {j = 56} (omega arith)))

pub next_byte : (m : List ℕ) → Bytes m → (i v x : ℕ) → v ≡ bits_at m 0 (8 * i) → x ≡ get_or m i 0 → v * 256 + x ≡ bits_at m 0 (8 * (i + 1))
next_byte m all i v x e f =
    let g : 8 * (i + 1) ≡ 8 * i + 8 = omega arith in
    rw (g, e, f) (sym (bits_bytes m all 0 i ∙ ap (λ (j : ℕ). bits_at m 0 (8 * i) * 256 + get_or m j 0) (zero-add i)))
