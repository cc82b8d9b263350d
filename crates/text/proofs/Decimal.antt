-- Decimal digits: the first digits of a number are those of its tenth, a number below 10 ^ k has at most k of them, and they are put
-- one behind the other. Assumes nothing.
use native.Mathlib.Omega.{arith}
use mathlib.Core.Path.{◌≡◌, refl, ◌∙◌}
use mathlib.Core.Bool.{Bool, true, false}
use mathlib.Core.List.{List, [], ◌∷◌, ◌++◌}
use Prim.Native.Nat.{ℕ, zero, suc, ◌+◌, ◌/◌, ◌%◌, ◌^◌, ◌≤◌, ◌<◌}
use native.Mathlib.Nat.{pow-suc}
use lib.ListN.{length, set, length-append}
use lib.Dec.{ltb}
use borrow.Author.Tests.{lt-ltb, le-ltb, ltb-true, ltb-false}
use Rattle.text.specs.Text.{put_text, decimal_in, decimal}
use Rattle.text.proofs.Puts.{length_put_text, put_text_then, put_text_one}

-- how many digits there may be does not matter where they are enough
enough : (k m x : ℕ) → x ≤ k → x ≤ m → decimal_in k x ≡ decimal_in m x
unfolding decimal_in
enough zero zero x h g = refl
enough zero (suc m) x h g = rw (lt-ltb x 10 (omega arith)) refl
enough (suc k) zero x h g = rw (lt-ltb x 10 (omega arith)) refl
enough (suc k) (suc m) x h g = go (λ a b. enough k m (x / 10) a b) (ltb x 10) refl
  where
    go :
        (x / 10 ≤ k → x / 10 ≤ m → decimal_in k (x / 10) ≡ decimal_in m (x / 10)) → (b : Bool) → ltb x 10 ≡ b
        → decimal_in (suc k) x ≡ decimal_in (suc m) x
    go less true e = rw e refl
    go less false e = rw (e, less (omega (arith, ltb-false x 10 e)) (omega (arith, ltb-false x 10 e))) refl

pub decimal_one : (x : ℕ) → x < 10 → decimal x ≡ (48 + x) ∷ []
unfolding decimal decimal_in
decimal_one zero h = refl
decimal_one (suc x) h = rw (lt-ltb (suc x) 10 h) refl

pub decimal_more : (x : ℕ) → 10 ≤ x → decimal x ≡ decimal (x / 10) ++ ((48 + x % 10) ∷ [])
unfolding decimal decimal_in
decimal_more zero h = absurd (omega arith)
decimal_more (suc x) h = rw (le-ltb (suc x) 10 h, enough x (suc x / 10) (suc x / 10) (omega arith) (omega arith)) refl

-- a number below 10 ^ (k + 1) has at most k + 1 digits
pub decimal_short : (k x : ℕ) → x < 10 ^ suc k → length (decimal x) ≤ suc k
decimal_short zero x h = rw (decimal_one x h) (omega arith)
decimal_short (suc k) x h = go (decimal_short k (x / 10)) (ltb x 10) refl
  where
    go : (x / 10 < 10 ^ suc k → length (decimal (x / 10)) ≤ suc k) → (b : Bool) → ltb x 10 ≡ b → length (decimal x) ≤ suc (suc k)
    go less true e = rw (decimal_one x (ltb-true x 10 e)) (omega arith)
    go less false e =
        let g : x / 10 < 10 ^ suc k = omega (arith, pow-suc 10 (suc k)) in
        rw (decimal_more x (ltb-false x 10 e), length-append) (omega (arith, less g))

-- one digit
pub put_text_digit : (s : List ℕ) (at x : ℕ) → x < 10 → at < length s → set s at (48 + x) ≡ put_text s at (decimal x)
put_text_digit s at x h g = rw (decimal_one x h) (put_text_one s at (48 + x) g)

-- the last digit behind the others
pub put_text_digits :
    (s y : List ℕ) (at x n : ℕ) → 10 ≤ x → n < length s → y ≡ put_text s at (decimal (x / 10)) → n ≡ at + length (decimal (x / 10))
    → set y n (48 + x % 10) ≡ put_text s at (decimal x)
put_text_digits s y at x n h g e f =
    let k : at + length (decimal (x / 10)) ≤ length s = omega arith in
    let m : n < length y = rw (e, length_put_text s at (decimal (x / 10)) k) g in
    put_text_one y n (48 + x % 10) m
    ∙ rw (e, f, decimal_more x h) (put_text_then s at (decimal (x / 10)) ((48 + x % 10) ∷ []) k)

pub length_digits : (x : ℕ) → 10 ≤ x → length (decimal x) ≡ length (decimal (x / 10)) + 1
length_digits x h = rw (decimal_more x h, length-append) refl
