-- Laws of bits of a list of bytes, over any offset and length: one bit written, a move of bits, and lists by their bits.
use mathlib.Core.Bool.{Bool, true, false, cond}
use mathlib.Core.List.{List}
use mathlib.Core.Logic.{◌≢◌}
use mathlib.Core.Path.{◌≡◌, refl, sym, ap, ◌∙◌, subst}
use Prim.Native.Nat.{ℕ, zero, suc, ◌+◌, ◌-◌, ◌*◌, ◌/◌, ◌%◌, ◌^◌, ◌<◌, ◌≤◌}
use native.Mathlib.Omega.{arith}
use native.Mathlib.Decide.{dec_lt, ℕ_discrete}
use native.Mathlib.Nat.{add-zero, add-suc, add_assoc, mod-lt}
use borrow.Author.Tests.{eqb-true, eq-eqb}
use lib.Dec.{eqb, lit<}
use lib.ListN.{length, get_or, set, length-set}
use lib.Seq.{set-get_or, set_out, get_or-set_same, get_or-set_other, ext_get_or}
use Rattle.paper.specs.Bits.{spliced, weight_of, bit_at, put_bit, moved, changed}
use Rattle.paper.specs.Parts.{Bytes}
use Rattle.paper.proofs.Bytes.{bytes_set}
use Rattle.paper.proofs.Digits.{low_digit, same_digits, spliced_above, spliced_inside, spliced_below, spliced_lt, one_spliced}

-- ---- one bit
pub bit_small : (s : List ℕ) (i : ℕ) → bit_at s i < 2
bit_small s i = mod-lt (get_or s (i / 8) 0 / weight_of i) (lit< tt)

-- the byte with its bit of weight 2 ^ (7 - i % 8) made v
pub put_byte : (s : List ℕ) (i v : ℕ) → put_bit s i v ≡ set s (i / 8) (spliced (7 - i % 8) 1 (get_or s (i / 8) 0) v)
unfolding put_bit
put_byte s i v = ap (set s (i / 8)) (one_spliced (7 - i % 8) (get_or s (i / 8) 0) v)

-- a bit written reads back
pub put_same : (s : List ℕ) (i v : ℕ) → i / 8 < length s → v < 2 → bit_at (put_bit s i v) i ≡ v
put_same s i v h l =
    rw (put_byte s i v, get_or-set_same s (i / 8) (spliced (7 - i % 8) 1 (get_or s (i / 8) 0) v) 0 h)
    (rw add-zero at (spliced_inside (7 - i % 8) 1 (get_or s (i / 8) 0) v l 0 (lit< tt)) ∙ omega arith)

-- other bits stay
pub put_other : (s : List ℕ) (i v j : ℕ) → v < 2 → j ≢ i → bit_at (put_bit s i v) j ≡ bit_at s j
put_other s i v j l n = rw (put_byte s i v) (go (ℕ_discrete (j / 8) (i / 8)) (dec_lt (i / 8) (length s)))
  where
    x : ℕ
    x = spliced (7 - i % 8) 1 (get_or s (i / 8) 0) v

    near : Dec (7 - j % 8 < 7 - i % 8) → j / 8 ≡ i / 8 → x / 2 ^ (7 - j % 8) % 2 ≡ get_or s (i / 8) 0 / 2 ^ (7 - j % 8) % 2
    near (yes g) e = spliced_below (7 - i % 8) 1 (get_or s (i / 8) 0) v l (7 - j % 8) g
    near (no g) e = spliced_above (7 - i % 8) 1 (get_or s (i / 8) 0) v l (7 - j % 8) (omega (arith, n, e))

    go : Dec (j / 8 ≡ i / 8) → Dec (i / 8 < length s) → bit_at (set s (i / 8) x) j ≡ bit_at s j
    go (yes e) (yes h) = rw (e, get_or-set_same s (i / 8) x 0 h) (near (dec_lt (7 - j % 8) (7 - i % 8)) e)
    go (yes e) (no h) = rw (set_out s (i / 8) x (omega arith))
    go (no m) h = rw (get_or-set_other s (i / 8) (j / 8) x 0 m)

-- writing what stands there changes nothing
pub put_nothing : (s : List ℕ) (i v : ℕ) → v ≡ bit_at s i → put_bit s i v ≡ s
unfolding put_bit
put_nothing s i v e = ap (set s (i / 8)) (rw e (omega arith)) ∙ set-get_or s (i / 8) 0

pub length_put : (s : List ℕ) (i v : ℕ) → length (put_bit s i v) ≡ length s
unfolding put_bit
length_put s i v = simp length-set

pub bytes_put : (s : List ℕ) (i v : ℕ) → v < 2 → Bytes s → Bytes (put_bit s i v)
bytes_put s i v l b =
    subst Bytes (sym (put_byte s i v))
    (bytes_set s (i / 8) (spliced (7 - i % 8) 1 (get_or s (i / 8) 0) v) b (spliced_lt (7 - i % 8) 1 (get_or s (i / 8) 0) v l 8 (omega arith) (b (i / 8))))

-- the digits of a byte are its bits, the last bit first
pub byte_digit : (s : List ℕ) (i t : ℕ) → t < 8 → get_or s i 0 / 2 ^ t % 2 ≡ bit_at s (8 * i + (7 - t))
byte_digit s i t h =
    let q : (8 * i + (7 - t)) / 8 ≡ i = omega arith in
    let r : 7 - (8 * i + (7 - t)) % 8 ≡ t = omega arith in
    rw (q, r)

-- two lists of bytes of one length with the same bits are equal
pub equal_by_bits : (a b : List ℕ) → length a ≡ length b → Bytes a → Bytes b → ((j : ℕ) → j < 8 * length a → bit_at a j ≡ bit_at b j) → a ≡ b
equal_by_bits a b l ba bb e =
    ext_get_or 0 a b l
    (λ i h. same_digits 8 (get_or a i 0) (get_or b i 0) (ba i) (bb i)
    (λ t g. byte_digit a i t g ∙ e (8 * i + (7 - t)) (omega arith) ∙ sym (byte_digit b i t g)))

-- ---- a move
module _ (d : List ℕ) (to : ℕ) (w : List ℕ) (from : ℕ) where
  pub length_moved : (n : ℕ) → length (moved d to w from n) ≡ length d
  unfolding moved
  length_moved zero = refl
  length_moved (suc n) = length_put (moved d to w from n) (to + n) (bit_at w (from + n)) ∙ length_moved n

  pub bytes_moved : (n : ℕ) → Bytes d → Bytes (moved d to w from n)
  unfolding moved
  bytes_moved zero b = b
  bytes_moved (suc n) b =
      bytes_put (moved d to w from n) (to + n) (bit_at w (from + n)) (bit_small w (from + n)) (bytes_moved n b)

  -- a bit outside the move stays
  pub moved_outside : (n j : ℕ) → ((k : ℕ) → k < n → j ≢ to + k) → bit_at (moved d to w from n) j ≡ bit_at d j
  unfolding moved
  moved_outside zero j o = refl
  moved_outside (suc n) j o =
      put_other (moved d to w from n) (to + n) (bit_at w (from + n)) j (bit_small w (from + n)) (o n (omega arith))
      ∙ moved_outside n j (λ k l. o k (omega arith))

  pub moved_before : (n j : ℕ) → j < to → bit_at (moved d to w from n) j ≡ bit_at d j
  moved_before n j h = moved_outside n j (λ k l. omega arith)

  pub moved_after : (n j : ℕ) → to + n ≤ j → bit_at (moved d to w from n) j ≡ bit_at d j
  moved_after n j h = moved_outside n j (λ k l. omega arith)

  -- a bit inside it is the source's
  pub moved_inside : (n j : ℕ) → to + n ≤ 8 * length d → j < n → bit_at (moved d to w from n) (to + j) ≡ bit_at w (from + j)
  unfolding moved
  moved_inside zero j h l = absurd (omega arith)
  moved_inside (suc n) j h l = go (λ m. moved_inside n j (omega arith) m) (ℕ_discrete j n)
    where
      in_room : (to + n) / 8 < length (moved d to w from n)
      in_room = rw length_moved (omega arith)

      go : (j < n → bit_at (moved d to w from n) (to + j) ≡ bit_at w (from + j)) → Dec (j ≡ n)
          → bit_at (put_bit (moved d to w from n) (to + n) (bit_at w (from + n))) (to + j) ≡ bit_at w (from + j)
      go ih (yes e) =
          subst (λ (i : ℕ). bit_at (put_bit (moved d to w from n) (to + n) (bit_at w (from + n))) (to + i) ≡ bit_at w (from + i)) (sym e)
          (put_same (moved d to w from n) (to + n) (bit_at w (from + n)) in_room (bit_small w (from + n)))
      go ih (no m) =
          put_other (moved d to w from n) (to + n) (bit_at w (from + n)) (to + j) (bit_small w (from + n)) (omega arith)
          ∙ ih (omega arith)

  -- nothing changed exactly when the list is the same
  same_so_far : (b c : Bool) → cond b c true ≡ false → (b ≡ true) × (c ≡ false)
  same_so_far true c e = (refl, e)
  same_so_far false c e = (sym e, cc)

  pub changed_not : (n : ℕ) → changed d to w from n ≡ false → moved d to w from n ≡ d
  unfolding changed moved
  changed_not zero e = refl
  changed_not (suc n) e =
      let f = same_so_far (eqb (bit_at d (to + n)) (bit_at w (from + n))) (changed d to w from n) e in
      rw (changed_not n f.1) (put_nothing d (to + n) (bit_at w (from + n)) (sym (eqb-true _ _ f.0)))

  all_same : (n : ℕ) → ((k : ℕ) → k < n → bit_at d (to + k) ≡ bit_at w (from + k)) → changed d to w from n ≡ false
  unfolding changed
  all_same zero f = refl
  all_same (suc n) f = rw (eq-eqb _ _ (f n (omega arith))) (all_same n (λ k l. f k (omega arith)))

  pub not_changed : (n : ℕ) → to + n ≤ 8 * length d → moved d to w from n ≡ d → changed d to w from n ≡ false
  not_changed n h e = all_same n (λ k l. sym (ap (λ (s : List ℕ). bit_at s (to + k)) e) ∙ moved_inside n k h l)

  -- n + m bits are n bits, and then m
  pub moved_add : (n m : ℕ) → moved d to w from (n + m) ≡ moved (moved d to w from n) (to + n) w (from + n) m
  unfolding moved
  moved_add n zero = rw add-zero
  moved_add n (suc m) = rw (add-suc n m, moved_add n m, add_assoc to n m, add_assoc from n m)

  either_later : (e b c : Bool) → cond e (cond b true c) true ≡ cond (cond e b true) true c
  either_later true b c = refl
  either_later false b c = refl

  pub changed_add : (n m : ℕ)
      → changed d to w from (n + m) ≡ cond (changed (moved d to w from n) (to + n) w (from + n) m) true (changed d to w from n)
  unfolding changed
  changed_add n zero = rw add-zero
  changed_add n (suc m) =
      rw (add-suc n m, changed_add n m, add_assoc to n m, add_assoc from n m, moved_after n (to + (n + m)) (omega arith))
      (either_later (eqb (bit_at d (to + (n + m))) (bit_at w (from + (n + m))))
      (changed (moved d to w from n) (to + n) w (from + n) m) (changed d to w from n))

  -- a move goes on: m bits moved after n bits, from a flag that says whether something changed before
  pub move_on : (n m all to' from' : ℕ) (l l' : List ℕ) (before hit hit' : Bool) → to' ≡ to + n → from' ≡ from + n → all ≡ n + m
      → l ≡ moved d to w from n → hit ≡ cond (changed d to w from n) true before
      → l' ≡ moved l to' w from' m → hit' ≡ cond (changed l to' w from' m) true hit
      → (l' ≡ moved d to w from all) × (hit' ≡ cond (changed d to w from all) true before)
  move_on n m all to' from' l l' before hit hit' t f a e h e' h' =
      (e' ∙ rw (t, f, a, e, moved_add), h' ∙ rw (t, f, a, e, h, changed_add) (earlier (changed (moved d to w from n) (to + n) w (from + n) m)))
    where
      earlier : (b : Bool) → cond b true (cond (changed d to w from n) true before) ≡ cond (cond b true (changed d to w from n)) true before
      earlier true = refl
      earlier false = refl

  -- the three bits past a record's last word stay as they are
  pub last_kept : (n : ℕ) → 1 ≤ length d → to + n ≤ 8 * length d - 3
      → get_or (moved d to w from n) (length d - 1) 0 % 8 ≡ get_or d (length d - 1) 0 % 8
  last_kept n one h = same_digits 3 _ _ (mod-lt _ (lit< tt)) (mod-lt _ (lit< tt)) (λ t g. low_digit 3 t _ g ∙ digit t g ∙ sym (low_digit 3 t _ g))
    where
      digit : (t : ℕ) → t < 3 → get_or (moved d to w from n) (length d - 1) 0 / 2 ^ t % 2 ≡ get_or d (length d - 1) 0 / 2 ^ t % 2
      digit t g =
          byte_digit (moved d to w from n) (length d - 1) t (omega arith)
          ∙ moved_after n (8 * (length d - 1) + (7 - t)) (omega arith)
          ∙ sym (byte_digit d (length d - 1) t (omega arith))
