-- A format writes a value in one way: two of its floats that have one sign and one size are equal. Assumes nothing.
use native.Mathlib.Omega.{arith}
use native.Mathlib.Nat.{mul-one, zero-mul, mul_assoc, mul_right_comm, mul-pos, pow-suc, eq_of_mul-eq-mul_right}
use Prim.Native.Nat.{ℕ, zero, suc, ◌*◌, ◌%◌, ◌^◌, ◌<◌}
use mathlib.Core.Path.{◌≡◌, refl, sym, ap, ◌∙◌}
use mathlib.Core.Bool.{Bool, ◌&&◌}
use lib.Dec.{T, eqb, leb, ltb, eqb→eq}
use lib.IntN.{ℤ, pos, negsuc}
use lib.Ieee.{Float, fin, Format, prec, emax, low, up, down, fits, inf, nan}
use lib.Ieee.Fits.{and_l, up_pos, down_pos}
use lib.Ieee.Exact.{HasValue}

-- twice a number is not odd
twice : (m x a : ℕ) → x % 2 ≡ 1 → x ≡ m * 2 ^ suc a → ⊥
twice m x a o e = let h : x ≡ m * 2 ^ a * 2 = e ∙ ap (λ (y : ℕ). m * y) (pow-suc 2 a) ∙ sym (mul_assoc m (2 ^ a) 2) in omega arith

-- an odd number times a power of two is written in one way
one_power : (m n a b : ℕ) → m % 2 ≡ 1 → n % 2 ≡ 1 → m * 2 ^ a ≡ n * 2 ^ b → (m ≡ n) × (a ≡ b)
one_power m n zero zero o p e = (omega arith, refl)
one_power m n zero (suc b) o p e = absurd (twice n m b o (sym (mul-one m) ∙ e))
one_power m n (suc a) zero o p e = absurd (twice m n a p (sym (mul-one n) ∙ sym e))
one_power m n (suc a) (suc b) o p e =
    let h : m * 2 ^ a * 2 ≡ n * 2 ^ b * 2 = rw (mul_assoc m, mul_assoc n, ← pow-suc 2 a, ← pow-suc 2 b) e in
    let r = one_power m n a b o p (omega arith) in
    (r.0, ap suc r.1)

one_exponent : (m n : ℕ) (e g : ℤ) → m % 2 ≡ 1 → n % 2 ≡ 1 → m * up e * down g ≡ n * up g * down e → (m ≡ n) × (e ≡ g)
one_exponent m n (pos a) (pos b) o p h = let r = one_power m n a b o p (omega arith) in (r.0, ap pos r.1)
one_exponent m n (pos a) (negsuc b) o p h = absurd (twice (m * 2 ^ a) n b p (omega arith))
one_exponent m n (negsuc a) (pos b) o p h = absurd (twice (n * 2 ^ b) m a o (omega arith))
one_exponent m n (negsuc a) (negsuc b) o p h =
    let r = one_power m n (suc b) (suc a) o p (rw (mul-one m, mul-one n) at h) in
    let e : a ≡ b = omega arith in
    (r.0, ap negsuc e)

-- what fits is written with an odd number, and zero with the exponent 0
is_odd : (f : Format) (s : Bool) (m : ℕ) (e : ℤ) → T (fits f (fin s (suc m) e)) → suc m % 2 ≡ 1
unfolding fits
is_odd f s m e t =
    let a = eqb (suc m % 2) 1 in
    let b = ltb (suc m) (2 ^ prec f) in
    let c = leb (down e) (2 ^ low f) in
    let d = ltb (suc m * up e) (2 ^ suc (emax f) * down e) in
    eqb→eq (suc m % 2) 1 (and_l a b (and_l (a && b) c (and_l (a && b && c) d t)))

is_flat : (e : ℤ) → up e * down e ≡ 1 → e ≡ pos 0
is_flat (pos zero) h = refl
is_flat (pos (suc a)) h = absurd (twice 1 1 a refl (omega arith))
is_flat (negsuc a) h = absurd (twice 1 1 a refl (sym h))

zero_exponent : (f : Format) (s : Bool) (e : ℤ) → T (fits f (fin s zero e)) → e ≡ pos 0
unfolding fits
zero_exponent f s e t = is_flat e (eqb→eq (up e * down e) 1 t)

not_zero : (n : ℕ) (e g : ℤ) → zero * up e * down g ≡ suc n * up g * down e → ⊥
not_zero n e g h =
    let p : 0 < suc n * up g * down e = mul-pos (mul-pos (omega arith) (up_pos g)) (down_pos e) in
    let z : zero * up e * down g ≡ 0 = rw (zero-mul (up e)) (zero-mul (down g)) in
    omega arith

-- two fractions that are a / c
crossed : (x y d g a c : ℕ) → 0 < c → x * c ≡ a * d → y * c ≡ a * g → x * g ≡ y * d
crossed x y d g a c h e f =
    eq_of_mul-eq-mul_right c h (x * g) (y * d)
    (mul_right_comm x g c ∙ rw (e, mul_right_comm a d g, ← f) (mul_right_comm y c d))

pub one_value : (f : Format) (x y : Float) (s : Bool) (a c : ℕ) → 0 < c → T (fits f x) → T (fits f y) → HasValue x s a c → HasValue y s a c → x ≡ y
one_value f nan y s a c h p q v w = elim v [ ]
one_value f (inf _) y s a c h p q v w = elim v [ ]
one_value f (fin s' m e) nan s a c h p q v w = elim w [ ]
one_value f (fin s' m e) (inf _) s a c h p q v w = elim w [ ]
one_value f (fin s' m e) (fin t' n g) s a c h p q v w = go m n p q (crossed (m * up e) (n * up g) (down e) (down g) a c h v.1 w.1)
  where
    go : (m n : ℕ) → T (fits f (fin s' m e)) → T (fits f (fin t' n g)) → m * up e * down g ≡ n * up g * down e → fin s' m e ≡ fin t' n g
    go zero zero p q k = λ i. fin ((v.0 ∙ sym w.0) i) zero ((zero_exponent f s' e p ∙ sym (zero_exponent f t' g q)) i)
    go zero (suc n) p q k = absurd (not_zero n e g k)
    go (suc m) zero p q k = absurd (not_zero m g e (sym k))
    go (suc m) (suc n) p q k =
        let r = one_exponent (suc m) (suc n) e g (is_odd f s' m e p) (is_odd f t' n g q) k in
        λ i. fin ((v.0 ∙ sym w.0) i) (r.0 i) (r.1 i)
