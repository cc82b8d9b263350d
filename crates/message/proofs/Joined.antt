-- Fields as one number and as bits: the digits of the number are the fields' bits one behind the other, once over any list of fields. Assumes
-- nothing.
use mathlib.Core.Bool.{Bool, true, false, cond}
use mathlib.Core.List.{List, [], ◌∷◌, ◌++◌, append_assoc, append-nil}
use mathlib.Core.Path.{◌≡◌, refl, sym, ap, ◌∙◌, subst}
use Prim.Native.Nat.{ℕ, zero, suc, ◌+◌, ◌*◌, ◌/◌, ◌%◌, ◌^◌, ◌≤◌, ◌<◌}
use native.Mathlib.Nat.{add-zero, zero-add}
use native.Mathlib.Omega.{arith}
use lib.Pow.{high, low, shr-shr, pow-add}
use lib.Arith.{digits_lt}
use Rattle.paper.specs.Message.{Head, after_prnd, head_fields, is_tag_zero, head_width, digits_of, field_bits}
use Rattle.paper.proofs.Digits.{low_digit}
use Rattle.message.specs.Heads.{joined, head_number}

-- the digits below weight 2 ^ b do not see what is above
digits_low : (w b u v : ℕ) → w ≤ b → v < 2 ^ b → digits_of w (u * 2 ^ b + v) ≡ digits_of w v
unfolding digits_of
digits_low zero b u v h l = refl
digits_low (suc w) b u v h l =
    let e : (u * 2 ^ b + v) / 2 ^ w % 2 ≡ v / 2 ^ w % 2 =
    sym (low_digit b w (u * 2 ^ b + v) (omega arith)) ∙ ap (λ (n : ℕ). n / 2 ^ w % 2) (low u b l) in
    rw (e, digits_low w b u v (omega arith) l)

-- a number behind another
pub digits_join : (a b u v : ℕ) → v < 2 ^ b → digits_of (a + b) (u * 2 ^ b + v) ≡ digits_of a u ++ digits_of b v
unfolding digits_of
digits_join zero b u v l = rw (zero-add b) (digits_low b b u v (omega arith) l)
digits_join (suc a) b u v l =
    let s : suc a + b ≡ suc (a + b) = omega arith in
    let t : a + b ≡ b + a = omega arith in
    let e : (u * 2 ^ b + v) / 2 ^ (a + b) % 2 ≡ u / 2 ^ a % 2 =
    ap (λ (n : ℕ). (u * 2 ^ b + v) / 2 ^ n % 2) t
    ∙ ap (λ (n : ℕ). n % 2) (sym (shr-shr (u * 2 ^ b + v) b a) ∙ ap (λ (n : ℕ). n / 2 ^ a) (high u b l)) in
    rw (s, e, digits_join a b u v l)

-- ---- a list of fields
unfoldable pub width_of : List (ℕ × ℕ) → ℕ
width_of [] = 0
width_of (f ∷ fs) = f.0 + width_of fs

-- each number fits its field
unfoldable pub Fit : List (ℕ × ℕ) → Type 0
Fit [] = Unit {0}
Fit (f ∷ fs) = (f.1 < 2 ^ f.0) × Fit fs

pub fields_digits : (w v : ℕ) (fs : List (ℕ × ℕ)) → Fit fs → digits_of (w + width_of fs) (joined v fs) ≡ digits_of w v ++ field_bits fs
unfolding width_of Fit joined field_bits
fields_digits w v [] fit = rw (add-zero w) (sym (append-nil (digits_of w v)))
fields_digits w v (f ∷ fs) fit =
    let e : w + (f.0 + width_of fs) ≡ w + f.0 + width_of fs = omega arith in
    rw e
    (fields_digits (w + f.0) (v * 2 ^ f.0 + f.1) fs fit.1
    ∙ ap (λ (b : List ℕ). b ++ field_bits fs) (digits_join w f.0 v f.1 fit.0)
    ∙ append_assoc (digits_of w v) (digits_of f.0 f.1) (field_bits fs))

pub joined_lt : (w v : ℕ) (fs : List (ℕ × ℕ)) → v < 2 ^ w → Fit fs → joined v fs < 2 ^ (w + width_of fs)
unfolding width_of Fit joined
joined_lt w v [] l fit = rw (add-zero w) l
joined_lt w v (f ∷ fs) l fit =
    let e : w + (f.0 + width_of fs) ≡ w + f.0 + width_of fs = omega arith in
    rw e
    (joined_lt (w + f.0) (v * 2 ^ f.0 + f.1) fs
    (subst (λ (n : ℕ). v * 2 ^ f.0 + f.1 < n) (sym (pow-add 2 w f.0)) (digits_lt l fit.0)) fit.1)

-- ---- the head
-- the fields that every form carries fit
pub record Fits (h : Head) : Type 0 where
  pub prna_fits : h.prna < 2 ^ 8
  pub week_fits : h.week < 2 ^ 12
  pub time_fits : h.time < 2 ^ 20
  pub counter_fits : h.counter < 2 ^ 8
  pub status_fits : h.status < 2 ^ 2

module _ (form : ℕ) (h : Head) where
  pub head_wide : width_of (head_fields form h) ≡ head_width form
  unfolding width_of
  head_wide = go (is_tag_zero form)
    where
      go : (z : Bool) → width_of (cond z (after_prnd h) ((8, h.prnd) ∷ after_prnd h)) ≡ cond z 0 8 + 50
      go true = refl
      go false = refl

  pub head_fits : h.prnd < 2 ^ 8 → Fits h → Fit (head_fields form h)
  unfolding Fit
  head_fits p f = go (is_tag_zero form)
    where
      after : Fit (after_prnd h)
      after = (f.prna_fits, (f.week_fits, (f.time_fits, (f.counter_fits, (f.status_fits, tt)))))

      go : (z : Bool) → Fit (cond z (after_prnd h) ((8, h.prnd) ∷ after_prnd h))
      go true = after
      go false = (p, after)

  module _ (p : h.prnd < 2 ^ 8) (f : Fits h) where
    pub head_digits : digits_of (head_width form) (head_number form h) ≡ field_bits (head_fields form h)
    unfolding digits_of
    head_digits =
        ap (λ (n : ℕ). digits_of n (head_number form h)) (sym (zero-add (width_of (head_fields form h)) ∙ head_wide))
        ∙ fields_digits 0 0 (head_fields form h) (head_fits p f)

    pub head_small : head_number form h < 2 ^ head_width form
    head_small =
        subst (λ (n : ℕ). head_number form h < 2 ^ n) (zero-add (width_of (head_fields form h)) ∙ head_wide)
        (joined_lt 0 0 (head_fields form h) (omega arith) (head_fits p f))

  -- as the code computes it
  pub head_computed : (s : ℕ) → s ≡ cond (is_tag_zero form) 0 h.prnd
      → ((((s * 256 + h.prna) * 4096 + h.week) * 1048576 + h.time) * 256 + h.counter) * 4 + h.status ≡ head_number form h
  unfolding joined
  head_computed s e = rw e (go (is_tag_zero form))
    where
      go : (z : Bool)
          → ((((cond z 0 h.prnd * 256 + h.prna) * 4096 + h.week) * 1048576 + h.time) * 256 + h.counter) * 4 + h.status
          ≡ joined 0 (cond z (after_prnd h) ((8, h.prnd) ∷ after_prnd h))
      go true = omega arith
      go false = omega arith
