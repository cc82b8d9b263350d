-- Bits of bytes one behind the other, and a field's digits back from its number. Assumes nothing.
use mathlib.Core.List.{List, ◌++◌}
use mathlib.Core.Path.{◌≡◌, sym, ap, ◌∙◌}
use Prim.Native.Nat.{ℕ, zero, suc, ◌+◌, ◌-◌, ◌*◌, ◌/◌, ◌%◌, ◌^◌, ◌≤◌, ◌<◌}
use native.Mathlib.Omega.{arith}
use native.Mathlib.Nat.{add-zero, zero-add}
use lib.ListN.{get_or}
use lib.Seq.{ext_get_or}
use Rattle.paper.specs.Bits.{bit_at}
use Rattle.paper.specs.Field.{bits_at}
use Rattle.paper.specs.Message.{digits_of, bits_from, in_bytes}
use Rattle.paper.proofs.Digits.{same_digits}
use Rattle.paper.proofs.Fields.{bits_small, bits_digit}
use Rattle.packing.proofs.Rows.{digits_length, digits_at, from_length, from_at, from_bits, bytes_bit}

-- bits that are the same, one by one, are the same list
pub from_same : (s t : List ℕ) (o p n : ℕ) → ((k : ℕ) → k < n → bit_at s (o + k) ≡ bit_at t (p + k)) → bits_from s o n ≡ bits_from t p n
from_same s t o p n f =
    ext_get_or 0 (bits_from s o n) (bits_from t p n) (from_length s o n ∙ sym (from_length t p n))
    (λ k h. let g : k < n = omega (arith, from_length s o n) in from_at s o n k g ∙ f k g ∙ sym (from_at t p n k g))

-- and back
pub same_from : (s t : List ℕ) (o p n : ℕ) → bits_from s o n ≡ bits_from t p n → (k : ℕ) → k < n → bit_at s (o + k) ≡ bit_at t (p + k)
same_from s t o p n e k h = sym (from_at s o n k h) ∙ ap (λ (l : List ℕ). get_or l k 0) e ∙ from_at t p n k h

-- a bits and then b are a + b
pub from_join : (s : List ℕ) (o a b : ℕ) → bits_from s o a ++ bits_from s (o + a) b ≡ bits_from s o (a + b)
unfolding bits_from
from_join s o zero b = rw (add-zero o, zero-add b)
from_join s o (suc a) b =
    let e : suc a + b ≡ suc (a + b) = omega arith in
    let f : o + suc a ≡ o + 1 + a = omega arith in
    rw (e, f, from_join s (o + 1) a b)

-- the digits of a field's number are its bits
pub digits_read : (s : List ℕ) (o w : ℕ) → digits_of w (bits_at s o w) ≡ bits_from s o w
digits_read s o w =
    ext_get_or 0 (digits_of w (bits_at s o w)) (bits_from s o w) (digits_length w (bits_at s o w) ∙ sym (from_length s o w))
    (λ k h.
    let g : k < w = omega (arith, digits_length w (bits_at s o w)) in
    let e : w - suc (w - suc k) ≡ k = omega arith in
    digits_at w (bits_at s o w) k g
    ∙ bits_digit s o w (w - suc k) (omega arith)
    ∙ ap (λ (n : ℕ). bit_at s (o + n)) e
    ∙ sym (from_at s o w k g))

-- a number whose digits stand there is what is read
pub read_digits : (s : List ℕ) (o w v : ℕ) → v < 2 ^ w → ((k : ℕ) → k < w → bit_at s (o + k) ≡ get_or (digits_of w v) k 0) → bits_at s o w ≡ v
read_digits s o w v l f =
    same_digits w (bits_at s o w) v (bits_small s o w) l
    (λ t h.
    let e : w - suc (w - suc t) ≡ t = omega arith in
    bits_digit s o w t h ∙ f (w - suc t) (omega arith) ∙ digits_at w v (w - suc t) (omega arith) ∙ ap (λ (n : ℕ). v / 2 ^ n % 2) e)

-- the bits of bytes that were made of bits
pub from_bytes : (k : ℕ) (s : List ℕ) (o n : ℕ) → n ≤ 8 * k → bits_from (in_bytes k (bits_from s o n)) 0 n ≡ bits_from s o n
from_bytes k s o n h =
    from_same (in_bytes k (bits_from s o n)) s 0 o n
    (λ i l.
    ap (bit_at (in_bytes k (bits_from s o n))) (zero-add i)
    ∙ bytes_bit k (bits_from s o n) (from_bits s o n) i (omega arith)
    ∙ from_at s o n i l)
