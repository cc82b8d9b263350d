-- Bits as a list and in bytes, once over their place and their width. Assumes nothing.
use mathlib.Core.List.{List, [], ◌∷◌, ◌++◌}
use mathlib.Core.Path.{◌≡◌, refl, sym, ap, ◌∙◌}
use Prim.Native.Nat.{ℕ, zero, suc, ◌+◌, ◌-◌, ◌*◌, ◌/◌, ◌%◌, ◌^◌, ◌≤◌, ◌<◌}
use native.Mathlib.Omega.{arith}
use native.Mathlib.Decide.{dec_lt}
use native.Mathlib.Nat.{mod-lt}
use lib.Dec.{lit<}
use lib.ListN.{length, get_or, drop, get_or-append}
use lib.Seq.{get_or-drop, get_or-append-add}
use Rattle.paper.specs.Parts.{Bytes}
use Rattle.paper.specs.Bits.{bit_at}
use Rattle.paper.specs.Message.{digits_of, bits_from, byte_of, in_bytes}
use Rattle.paper.proofs.Bytes.{bytes_nil, bytes_cons}
use Rattle.paper.proofs.Bits.{bit_small, equal_by_bits}

-- every element is a bit
abbrev pub AllBits : List ℕ → Type 0
AllBits b = (i : ℕ) → get_or b i 0 < 2

-- ---- the digits of a number
pub digits_length : (w v : ℕ) → length (digits_of w v) ≡ w
unfolding digits_of
digits_length zero v = refl
digits_length (suc w) v = rw (digits_length w v) (omega arith)

pub digits_at : (w v t : ℕ) → t < w → get_or (digits_of w v) t 0 ≡ v / 2 ^ (w - suc t) % 2
unfolding digits_of
digits_at zero v t h = absurd (omega arith)
digits_at (suc w) v zero h = ap (λ (n : ℕ). v / 2 ^ n % 2) (omega arith)
digits_at (suc w) v (suc t) h = digits_at w v t (omega arith) ∙ ap (λ (n : ℕ). v / 2 ^ n % 2) (omega arith)

pub digits_bits : (w v : ℕ) → AllBits (digits_of w v)
unfolding digits_of
digits_bits zero v i = omega arith
digits_bits (suc w) v zero = mod-lt (v / 2 ^ w) (lit< tt)
digits_bits (suc w) v (suc i) = digits_bits w v i

-- ---- bits of bytes
pub from_length : (s : List ℕ) (o n : ℕ) → length (bits_from s o n) ≡ n
unfolding bits_from
from_length s o zero = refl
from_length s o (suc n) = rw (from_length s (o + 1) n) (omega arith)

pub from_at : (s : List ℕ) (o n t : ℕ) → t < n → get_or (bits_from s o n) t 0 ≡ bit_at s (o + t)
unfolding bits_from
from_at s o zero t h = absurd (omega arith)
from_at s o (suc n) zero h = ap (bit_at s) (omega arith)
from_at s o (suc n) (suc t) h = from_at s (o + 1) n t (omega arith) ∙ ap (bit_at s) (omega arith)

pub from_bits : (s : List ℕ) (o n : ℕ) → AllBits (bits_from s o n)
unfolding bits_from
from_bits s o zero i = omega arith
from_bits s o (suc n) zero = bit_small s o
from_bits s o (suc n) (suc i) = from_bits s (o + 1) n i

-- ---- one list of bits behind another
pub append_bits : (a b : List ℕ) → AllBits a → AllBits b → AllBits (a ++ b)
append_bits [] b p q i = q i
append_bits (x ∷ a) b p q zero = p zero
append_bits (x ∷ a) b p q (suc i) = append_bits a b (λ j. p (suc j)) q i

pub append_first : (a b : List ℕ) (i : ℕ) → i < length a → get_or (a ++ b) i 0 ≡ get_or a i 0
append_first a b i h = get_or-append a b 0 i h

pub append_then : (a b : List ℕ) (i : ℕ) → length a ≤ i → get_or (a ++ b) i 0 ≡ get_or b (i - length a) 0
append_then a b i h =
    let e : i ≡ length a + (i - length a) = omega arith in
    ap (λ (n : ℕ). get_or (a ++ b) n 0) e ∙ get_or-append-add a b (i - length a) 0

pub past_end : (b : List ℕ) (i : ℕ) → length b ≤ i → get_or b i 0 ≡ 0
past_end [] i h = refl
past_end (x ∷ b) zero h = absurd (omega arith)
past_end (x ∷ b) (suc i) h = past_end b i (omega arith)

-- ---- bits in bytes
byte_small : (b : List ℕ) → AllBits b → byte_of b < 256
byte_small b p = omega (arith, p 0, p 1, p 2, p 3, p 4, p 5, p 6, p 7)

pub bytes_length : (k : ℕ) (b : List ℕ) → length (in_bytes k b) ≡ k
unfolding in_bytes
bytes_length zero b = refl
bytes_length (suc k) b = rw (bytes_length k (drop 8 b)) (omega arith)

drop_bits : (n : ℕ) (b : List ℕ) → AllBits b → AllBits (drop n b)
drop_bits n b p i = rw get_or-drop (p (n + i))

pub bytes_bytes : (k : ℕ) (b : List ℕ) → AllBits b → Bytes (in_bytes k b)
unfolding in_bytes
bytes_bytes zero b p = bytes_nil
bytes_bytes (suc k) b p = bytes_cons (byte_of b) (in_bytes k (drop 8 b)) (byte_small b p) (bytes_bytes k (drop 8 b) (drop_bits 8 b p))

in_byte : (b : List ℕ) → AllBits b → (i : ℕ) → i < 8 → byte_of b / 2 ^ (7 - i) % 2 ≡ get_or b i 0
in_byte b p zero h = omega (arith, p 0, p 1, p 2, p 3, p 4, p 5, p 6, p 7)
in_byte b p (suc zero) h = omega (arith, p 0, p 1, p 2, p 3, p 4, p 5, p 6, p 7)
in_byte b p (suc (suc zero)) h = omega (arith, p 0, p 1, p 2, p 3, p 4, p 5, p 6, p 7)
in_byte b p (suc (suc (suc zero))) h = omega (arith, p 0, p 1, p 2, p 3, p 4, p 5, p 6, p 7)
in_byte b p (suc (suc (suc (suc zero)))) h = omega (arith, p 0, p 1, p 2, p 3, p 4, p 5, p 6, p 7)
in_byte b p (suc (suc (suc (suc (suc zero))))) h = omega (arith, p 0, p 1, p 2, p 3, p 4, p 5, p 6, p 7)
in_byte b p (suc (suc (suc (suc (suc (suc zero)))))) h = omega (arith, p 0, p 1, p 2, p 3, p 4, p 5, p 6, p 7)
in_byte b p (suc (suc (suc (suc (suc (suc (suc zero))))))) h = omega (arith, p 0, p 1, p 2, p 3, p 4, p 5, p 6, p 7)
in_byte b p (suc (suc (suc (suc (suc (suc (suc (suc i)))))))) h = absurd (omega arith)

-- bit i of the bytes is element i of the bits
pub bytes_bit : (k : ℕ) (b : List ℕ) → AllBits b → (i : ℕ) → i < 8 * k → bit_at (in_bytes k b) i ≡ get_or b i 0
unfolding in_bytes
bytes_bit zero b p i h = absurd (omega arith)
bytes_bit (suc k) b p i h = go (λ l. bytes_bit k (drop 8 b) (drop_bits 8 b p) (i - 8) l) (dec_lt i 8)
  where
    go : (i - 8 < 8 * k → bit_at (in_bytes k (drop 8 b)) (i - 8) ≡ get_or (drop 8 b) (i - 8) 0) → Dec (i < 8)
        → bit_at (byte_of b ∷ in_bytes k (drop 8 b)) i ≡ get_or b i 0
    go ih (yes l) =
        let e : i / 8 ≡ 0 = omega arith in
        let f : i % 8 ≡ i = omega arith in
        rw (e, f) (in_byte b p i l)
    go ih (no l) =
        let e : i / 8 ≡ suc ((i - 8) / 8) = omega arith in
        let f : i % 8 ≡ (i - 8) % 8 = omega arith in
        rw (e, f) (ih (omega arith) ∙ get_or-drop 8 b (i - 8) 0 ∙ ap (λ (n : ℕ). get_or b n 0) (omega arith))

-- bytes with these bits are those bytes
pub spelled : (k : ℕ) (x b : List ℕ) → length x ≡ k → Bytes x → AllBits b → ((i : ℕ) → i < 8 * k → bit_at x i ≡ get_or b i 0) → x ≡ in_bytes k b
spelled k x b l bytes p e =
    equal_by_bits x (in_bytes k b) (l ∙ sym (bytes_length k b)) bytes (bytes_bytes k b p)
    (λ i h. let g : i < 8 * k = omega arith in e i g ∙ sym (bytes_bit k b p i g))
