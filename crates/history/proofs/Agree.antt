-- Records that agree in satellite and bits, as a test and as equations; and a word changes a record's 549 or 141 bits exactly where
-- one of its own bits was another. Assumes nothing.
use mathlib.Core.Bool.{Bool, true, false, not}
use mathlib.Core.List.{List, [], ◌∷◌}
use mathlib.Core.Path.{◌≡◌, refl, sym, ap, ◌∙◌}
use Prim.Native.Nat.{ℕ, ◌+◌, ◌-◌, ◌*◌, ◌/◌, ◌%◌, ◌<◌, ◌≤◌}
use native.Mathlib.Omega.{arith}
use native.Mathlib.Decide.{dec_lt}
use lib.Dec.{eqb}
use borrow.Author.Tests.{eqb-true, eq-eqb}
use lib.ListN.{length, take, get_or, get_or-append}
use lib.Seq.{length-take-le, get_or-take, get_or_at, ext_get_or}
use Rattle.paper.specs.Bits.{moved, changed}
use Rattle.paper.specs.Record.{Family, CED, Timing, record_bits, data_bytes, satellite, data_of, in_bits, same_bits}
use Rattle.paper.proofs.Bits.{length_moved, changed_not, not_changed, last_kept}
use Rattle.paper.proofs.Same.{bits_true, true_bits}
use Rattle.paper.proofs.StoreFacts.{both_true}
use Rattle.history.specs.Line.{same}

-- ---- records
pub same_true : (f : Family) (x y : List ℕ) → same f x y ≡ true → (satellite x ≡ satellite y) × (in_bits f (data_of f x) ≡ in_bits f (data_of f y))
unfolding same
same_true f x y e =
    let p = both_true (eqb (satellite x) (satellite y)) (same_bits f (data_of f x) (data_of f y)) e in
    (eqb-true (satellite x) (satellite y) p.0, bits_true f (data_of f x) (data_of f y) p.1)

pub true_same : (f : Family) (x y : List ℕ) → satellite x ≡ satellite y → data_of f x ≡ data_of f y → same f x y ≡ true
unfolding same
true_same f x y s d = rw (eq-eqb (satellite x) (satellite y) s) (true_bits f (data_of f x) (data_of f y) (ap (in_bits f) d))

-- ---- a word's bits
-- data of the same bits, with the same three bits past them, are the same bytes
last_in_bits : (f : Family) (d : List ℕ) → length d ≡ data_bytes f → get_or (in_bits f d) (data_bytes f - 1) 0 ≡ get_or d (data_bytes f - 1) 0 / 8
last_in_bits f d l =
    get_or_at (take (data_bytes f - 1) d) (get_or d (data_bytes f - 1) 0 / 8) [] 0 (data_bytes f - 1)
    (length-take-le (data_bytes f - 1) d (omega arith))

byte_in_bits : (f : Family) (d : List ℕ) → length d ≡ data_bytes f → (i : ℕ) → i < data_bytes f - 1 → get_or (in_bits f d) i 0 ≡ get_or d i 0
byte_in_bits f d l i h =
    get_or-append (take (data_bytes f - 1) d) (get_or d (data_bytes f - 1) 0 / 8 ∷ []) 0 i
    (rw (length-take-le (data_bytes f - 1) d (omega arith)) h)
    ∙ get_or-take (data_bytes f - 1) d i 0 h

bits_bytes : (f : Family) (a b : List ℕ) → length a ≡ data_bytes f → length b ≡ data_bytes f → in_bits f a ≡ in_bits f b
    → get_or a (data_bytes f - 1) 0 % 8 ≡ get_or b (data_bytes f - 1) 0 % 8 → a ≡ b
bits_bytes f a b la lb e r = ext_get_or 0 a b (la ∙ sym lb) (λ i h. go i h (dec_lt i (data_bytes f - 1)))
  where
    same_byte : (i : ℕ) → get_or (in_bits f a) i 0 ≡ get_or (in_bits f b) i 0
    same_byte i = ap (λ (x : List ℕ). get_or x i 0) e

    last : get_or a (data_bytes f - 1) 0 ≡ get_or b (data_bytes f - 1) 0
    last = omega (arith, same_byte (data_bytes f - 1), last_in_bits f a la, last_in_bits f b lb, r)

    go : (i : ℕ) → i < length a → Dec (i < data_bytes f - 1) → get_or a i 0 ≡ get_or b i 0
    go i h (yes g) = sym (byte_in_bits f a la i g) ∙ same_byte i ∙ byte_in_bits f b lb i g
    go i h (no g) = let e : i ≡ data_bytes f - 1 = omega arith in rw e last

pub moved_bits : (f : Family) (d : List ℕ) (to : ℕ) (word : List ℕ) (from n : ℕ) → length d ≡ data_bytes f → to + n ≤ record_bits f
    → same_bits f (moved d to word from n) d ≡ not (changed d to word from n)
moved_bits f d to word from n l h = go (changed d to word from n) refl
  where
    sizes : (f : Family) → (1 ≤ data_bytes f) × (record_bits f ≡ 8 * data_bytes f - 3)
    sizes CED = (omega arith, refl)
    sizes Timing = (omega arith, refl)

    m : List ℕ
    m = moved d to word from n

    unmoved : same_bits f m d ≡ true → m ≡ d
    unmoved e =
        bits_bytes f m d (length_moved d to word from n ∙ l) l (bits_true f m d e)
        (rw l at (last_kept d to word from n (omega (arith, sizes f)) (omega (arith, sizes f))))

    differ : (b : Bool) → same_bits f m d ≡ b → changed d to word from n ≡ true → b ≡ false
    differ true e c = sym c ∙ not_changed d to word from n (omega (arith, sizes f)) (unmoved e)
    differ false e c = refl

    go : (b : Bool) → changed d to word from n ≡ b → same_bits f m d ≡ not b
    go true c = differ (same_bits f m d) refl c
    go false c = true_bits f m d (ap (in_bits f) (changed_not d to word from n c))
