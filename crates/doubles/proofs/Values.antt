-- What a pattern of bits is worth, and a product with a power of one half, in any format. Assumes nothing.
use native.Mathlib.Omega.{arith}
use native.Mathlib.Nat.{lt_of_lt_of_le, mul-one, one-mul, mul_assoc, mul_right_comm, mul-pos, eq_of_mul-eq-mul_right}
use Prim.Native.Nat.{ℕ, suc, ◌+◌, ◌-◌, ◌*◌, ◌/◌, ◌%◌, ◌^◌, ◌≤◌, ◌<◌}
use mathlib.Core.Path.{◌≡◌, refl, sym, ◌∙◌}
use mathlib.Core.Bool.{Bool, true, false, not}
use borrow.Author.Tests.{ne_eqb}
use lib.Dec.{T, leb, eqb}
use lib.Pow.{pow_pos, pow-add, pow_mono, shl_lt}
use lib.Ieee.{Float, fin, Format, prec, emax, low, hid, ones, top, up, down, unlike, round, mul, of_bits, of_fields, is_nan, inf, nan}
use lib.Ieee.Fits.{down_pos, reach}
use lib.Ieee.Exact.{HasValue, odd_sign, round_exact}
use lib.Ieee.Scale.{round_same}

pub not_nan : (x : Float) (s : Bool) (a c : ℕ) → HasValue x s a c → T (not (is_nan x))
unfolding is_nan
not_nan nan s a c v = elim v [ ]
not_nan (inf _) s a c v = elim v [ ]
not_nan (fin t m e) s a c v = tt

-- one size by two fractions
as_fraction : (x : Float) (s : Bool) (a c b d : ℕ) → 0 < c → a * d ≡ b * c → HasValue x s a c → HasValue x s b d
as_fraction nan s a c b d h g v = elim v [ ]
as_fraction (inf _) s a c b d h g v = elim v [ ]
as_fraction (fin t m e) s a c b d h g v = (
  v.0,
  eq_of_mul-eq-mul_right c h (m * up e * d) (b * down e)
      (mul_right_comm (m * up e) d c ∙ rw (v.1, mul_right_comm a (down e) d, g) (mul_right_comm b c (down e))),
)

pub powers : (n j x l : ℕ) → j + x ≡ l → n * 2 ^ j * 2 ^ x ≡ n * 2 ^ l
powers n j x l e = rw (← e, pow-add 2 j x) (mul_assoc n (2 ^ j) (2 ^ x))

-- a pattern by its fields, the exponent's being neither the least nor the greatest; with n × 2^j as all of its digits it is n × 2^-k
fields_value :
    (f : Format) (s : Bool) (b x t : ℕ) → leb (top f) b ≡ s → b % top f / hid f ≡ suc x → b % hid f ≡ t → suc x < ones f
    → HasValue (of_bits f b) s ((hid f + t) * 2 ^ x) (2 ^ low f)
unfolding of_bits of_fields
fields_value f s b x t sign field digits small =
    let other : eqb (suc x) (ones f) ≡ false = ne_eqb (suc x) (ones f) (λ h. omega arith) in
    rw (sign, field, digits, other) (odd_sign (prec f) s (hid f + t) x (low f))

pub pattern_value :
    (f : Format) (s : Bool) (b x t n j k : ℕ) → leb (top f) b ≡ s → b % top f / hid f ≡ suc x → b % hid f ≡ t → suc x < ones f
    → hid f + t ≡ n * 2 ^ j → j + x + k ≡ low f → HasValue (of_bits f b) s n (2 ^ k)
pattern_value f s b x t n j k sign field digits small lead e =
    as_fraction (of_bits f b) s ((hid f + t) * 2 ^ x) (2 ^ low f) n (2 ^ k) (pow_pos (low f)) (rw (lead, powers n j x (j + x) refl) (powers n (j + x) k (low f) e))
    (fields_value f s b x t sign field digits small)

-- n × 2^-k is a value of the format, so rounding keeps it
round_keeps : (f : Format) (s : Bool) (n k : ℕ) → n < 2 ^ prec f → k ≤ low f → HasValue (round f s n (2 ^ k)) s n (2 ^ k)
round_keeps f s n k h g =
    let l = low f in
    let r = reach f in
    let fine : prec f + (l - k) ≤ l + suc (emax f) = omega arith in
    round_exact f s n (2 ^ k) n (l - k) (pow_pos k) h (lt_of_lt_of_le (shl_lt (prec f) (l - k) h) (pow_mono fine))
    (sym (powers n (l - k) k l (omega arith)))

unlike_plus : (s : Bool) → unlike s false ≡ s
unlike_plus true = refl
unlike_plus false = refl

-- a whole number times 2^-k
pub product_value :
    (f : Format) (x y : Float) (s : Bool) (n k : ℕ) → n < 2 ^ prec f → k ≤ low f → HasValue x s n 1 → HasValue y false 1 (2 ^ k)
    → HasValue (mul f x y) s n (2 ^ k)
unfolding mul
product_value f nan y s n k h l v w = elim v [ ]
product_value f (inf _) y s n k h l v w = elim v [ ]
product_value f (fin t m e) nan s n k h l v w = elim w [ ]
product_value f (fin t m e) (inf _) s n k h l v w = elim w [ ]
product_value f (fin t m e) (fin u p g) s n k h l v w =
    let same : m * up e * (p * up g) * 2 ^ k ≡ n * (down e * down g) =
    rw (mul_assoc (m * up e) (p * up g) (2 ^ k), w.1, one-mul (down g), ← mul_assoc n (down e) (down g), ← v.1, mul-one (m * up e)) in
    let once = round_same f s (m * up e * (p * up g)) (down e * down g) n (2 ^ k) (mul-pos (down_pos e) (down_pos g)) (pow_pos k) same in
    rw (v.0, w.0, unlike_plus s, once) (round_keeps f s n k h l)
