-- The binary digits of a number: a number below 2 ^ k is its k digits, and a number with k digits from weight 2 ^ s on made those of
-- another. Laws of bits of bytes, of one and of several at once, stand on these.
use mathlib.Core.Path.{◌≡◌, sym, ap, ◌∙◌, subst}
use Prim.Native.Nat.{ℕ, zero, suc, ◌+◌, ◌-◌, ◌*◌, ◌/◌, ◌%◌, ◌^◌, ◌<◌, ◌≤◌}
use native.Mathlib.Omega.{arith}
use native.Mathlib.Nat.{mod-lt, div-eq_of_lt}
use lib.Arith.{digits_lt}
use lib.Pow.{pow_pos, pow-add, shr_lt, shr-shr, split, high, low, mod-pow-add, field, mod-mod-pow}
use Rattle.paper.specs.Bits.{spliced}

-- the digits below the k-th do not see what is above
pub low_digit : (k t x : ℕ) → t < k → x % 2 ^ k / 2 ^ t % 2 ≡ x / 2 ^ t % 2
low_digit k t x l =
    let e : k ≡ k - t + t = omega arith in
    let f : k - t ≡ k - t - 1 + 1 = omega arith in
    ap (λ (n : ℕ). x % 2 ^ n / 2 ^ t % 2) e
    ∙ ap (λ (n : ℕ). n % 2) (field x (k - t) t)
    ∙ ap (λ (n : ℕ). x / 2 ^ t % 2 ^ n % 2) f
    ∙ mod-mod-pow (x / 2 ^ t) (k - t - 1) 1

-- the digits from the k-th on are those of the number's high part
pub high_digit : (k t x : ℕ) → k ≤ t → x / 2 ^ t % 2 ≡ x / 2 ^ k / 2 ^ (t - k) % 2
high_digit k t x l =
    let e : t ≡ k + (t - k) = omega arith in
    ap (λ (n : ℕ). n % 2) (ap (λ (n : ℕ). x / 2 ^ n) e ∙ sym (shr-shr x k (t - k)))

-- a number by its k + 1 low digits
low_parts : (x k : ℕ) → x % 2 ^ (1 + k) ≡ x / 2 ^ k % 2 * 2 ^ k + x % 2 ^ k
low_parts x k = mod-pow-add x 1 k

-- two numbers below 2 ^ k with the same digits are equal
pub same_digits : (k a b : ℕ) → a < 2 ^ k → b < 2 ^ k → ((t : ℕ) → t < k → a / 2 ^ t % 2 ≡ b / 2 ^ t % 2) → a ≡ b
same_digits zero a b ha hb e = omega arith
same_digits (suc k) a b ha hb e =
    let r : a % 2 ^ k ≡ b % 2 ^ k =
    same_digits k (a % 2 ^ k) (b % 2 ^ k) (mod-lt a (pow_pos k)) (mod-lt b (pow_pos k))
    (λ t l. low_digit k t a l ∙ e t (omega arith) ∙ sym (low_digit k t b l)) in
    whole a ha ∙ rw (e k (omega arith), r) (sym (whole b hb))
  where
    whole : (x : ℕ) → x < 2 ^ suc k → x ≡ x / 2 ^ k % 2 * 2 ^ k + x % 2 ^ k
    whole x h =
        let s : 1 + k ≡ suc k = omega arith in
        sym (split x (suc k)) ∙ rw (div-eq_of_lt h) (omega (arith, rw s at (low_parts x k)))

module _ (s k b v : ℕ) (small : v < 2 ^ k) where
  pub rest_lt : v * 2 ^ s + b % 2 ^ s < 2 ^ (k + s)
  rest_lt = subst (λ (n : ℕ). v * 2 ^ s + b % 2 ^ s < n) (sym (pow-add 2 k s)) (digits_lt small (mod-lt b (pow_pos s)))

  spliced_top : spliced s k b v / 2 ^ (k + s) ≡ b / 2 ^ (k + s)
  spliced_top = high (b / 2 ^ (k + s)) (k + s) rest_lt

  spliced_rest : spliced s k b v % 2 ^ (k + s) ≡ v * 2 ^ s + b % 2 ^ s
  spliced_rest = low (b / 2 ^ (k + s)) (k + s) rest_lt

  pub spliced_above : (t : ℕ) → k + s ≤ t → spliced s k b v / 2 ^ t % 2 ≡ b / 2 ^ t % 2
  spliced_above t h =
      high_digit (k + s) t (spliced s k b v) h
      ∙ ap (λ (n : ℕ). n / 2 ^ (t - (k + s)) % 2) spliced_top
      ∙ sym (high_digit (k + s) t b h)

  pub spliced_inside : (q : ℕ) → q < k → spliced s k b v / 2 ^ (s + q) % 2 ≡ v / 2 ^ q % 2
  spliced_inside q h =
      sym (low_digit (k + s) (s + q) (spliced s k b v) (omega arith))
      ∙ ap (λ (n : ℕ). n / 2 ^ (s + q) % 2) spliced_rest
      ∙ ap (λ (n : ℕ). n % 2) (sym (shr-shr (v * 2 ^ s + b % 2 ^ s) s q) ∙ ap (λ (n : ℕ). n / 2 ^ q) (high v s (mod-lt b (pow_pos s))))

  pub spliced_below : (t : ℕ) → t < s → spliced s k b v / 2 ^ t % 2 ≡ b / 2 ^ t % 2
  spliced_below t h =
      sym (low_digit (k + s) t (spliced s k b v) (omega arith))
      ∙ ap (λ (n : ℕ). n / 2 ^ t % 2) spliced_rest
      ∙ sym (low_digit s t (v * 2 ^ s + b % 2 ^ s) h)
      ∙ ap (λ (n : ℕ). n / 2 ^ t % 2) (low v s (mod-lt b (pow_pos s)))
      ∙ low_digit s t b h

  pub spliced_lt : (n : ℕ) → k + s ≤ n → b < 2 ^ n → spliced s k b v < 2 ^ n
  spliced_lt n h l =
      let e : n - (k + s) + (k + s) ≡ n = omega arith in
      let g : b / 2 ^ (k + s) < 2 ^ (n - (k + s)) = shr_lt (n - (k + s)) (k + s) (subst (λ (x : ℕ). b < 2 ^ x) (sym e) l) in
      subst (λ (x : ℕ). spliced s k b v < x) (sym (pow-add 2 (n - (k + s)) (k + s)) ∙ ap (λ (x : ℕ). 2 ^ x) e) (digits_lt g rest_lt)

-- one digit made v, as a sum and a difference
pub one_spliced : (s b v : ℕ) → b + v * 2 ^ s - b / 2 ^ s % 2 * 2 ^ s ≡ spliced s 1 b v
one_spliced s b v = omega (arith, split b (1 + s), low_parts b s)
