-- The laws of parts: what a part is after a change of it, before it or behind it; a turn of a loop over parts; tests and sums
-- over parts; a copy within one list. Assumes nothing.
use native.Mathlib.Omega.{arith}
use native.Mathlib.Nat.{suc-mul, sub-zero, zero-sub, suc-sub-suc, mul-le-mul_right, add-sub_cancel_left}
use native.Mathlib.Numerals.{add-one}
use mathlib.Core.Path.{◌≡◌, refl, sym, ap, ◌∙◌}
use mathlib.Core.List.{List, [], ◌∷◌, ◌++◌, append_assoc}
use mathlib.Core.Bool.{Bool, true, false, ◌&&◌}
use Prim.Native.Nat.{ℕ, zero, suc, ◌+◌, ◌*◌, ◌-◌, ◌≤◌, ◌<◌}
use lib.ListN.{length, take, drop, get_or, set, replicate, length-take, length-drop, length-replicate, replicate-append-replicate, take-append-drop}
use lib.Seq.{take-nil, take-take, drop-drop, take_at, drop_at, drop-append-le, take-add, length-take-le, get_or-take, get_or-drop, paste}
use borrow.Rule.Slice.PartMut.{same_len_mid, take_put, drop_put, put_same, set_mid_at}
use Rattle.paper.specs.Parts.{part, on_part, on_parts, all_parts, sum_parts}

-- f keeps the length k
abbrev pub Keeps : (List ℕ → List ℕ) → ℕ → Type 0
Keeps f k = (r : List ℕ) → length r ≡ k → length (f r) ≡ k

-- ---- where a part lies
-- part number j of n lies within them
pub mul_within : (j n k : ℕ) → j < n → j * k + k ≤ n * k
mul_within j n k h = omega (arith, mul-le-mul_right k h, suc-mul j k)

-- where part number 0 starts, and where the next does
at_first : (at k : ℕ) → at + zero * k ≡ at
at_first at k = omega arith

at_next : (at j k : ℕ) → at + suc j * k ≡ at + k + j * k
at_next at j k = omega (arith, suc-mul j k)

-- ---- a part
pub drop_take : (a m : ℕ) (l : List ℕ) → drop a (take m l) ≡ take (m - a) (drop a l)
drop_take zero m l = rw sub-zero
drop_take (suc a) zero l = rw zero-sub
drop_take (suc a) (suc m) [] = sym (take-nil (suc m - suc a))
drop_take (suc a) (suc m) (x ∷ xs) = rw suc-sub-suc (drop_take a m xs)

pub length_part : (at k : ℕ) (l : List ℕ) → at + k ≤ length l → length (part at k l) ≡ k
length_part at k l h = simp (length-take, length-drop) (omega arith)

pub part_part : (a k b m : ℕ) (l : List ℕ) → a + k ≤ m → part a k (part b m l) ≡ part (b + a) k l
part_part a k b m l h =
    ap (take k) (drop_take a m (drop b l)) ∙ take-take k (m - a) (drop a (drop b l)) (omega arith) ∙ ap (take k) (drop-drop a b l)

pub get_d_part : (at k : ℕ) (l : List ℕ) (i : ℕ) → i < k → get_or (part at k l) i 0 ≡ get_or l (at + i) 0
get_d_part at k l i h = get_or-take k (drop at l) i 0 h ∙ get_or-drop at l i 0

-- a part is what the first at + k bytes have from `at` on
pub part_of_take : (at k : ℕ) (l : List ℕ) → part at k l ≡ drop at (take (at + k) l)
part_of_take at k l = sym (drop_take at (at + k) l ∙ ap (λ (n : ℕ). take n (drop at l)) (add-sub_cancel_left at k))

-- the whole, from what lies before a part, the part, and what lies behind it
pub three_parts : (at k : ℕ) (x y : List ℕ) → take at x ≡ take at y → part at k x ≡ part at k y → drop (at + k) x ≡ drop (at + k) y → x ≡ y
three_parts at k x y a b c =
    sym (whole x) ∙ (rw (a, b, c)) ∙ whole y
  where
    whole : (l : List ℕ) → take at l ++ (part at k l ++ drop (at + k) l) ≡ l
    whole l = rw (← drop-drop k at l, take-append-drop k (drop at l)) (take-append-drop at l)

-- lists that agree up to a have the same there
pub take_less : (a b : ℕ) (x y : List ℕ) → take a x ≡ take a y → b ≤ a → take b x ≡ take b y
take_less a b x y e h = sym (take-take b a x h) ∙ ap (take b) e ∙ take-take b a y h

pub same_before : (a b m : ℕ) (x y : List ℕ) → take a x ≡ take a y → b + m ≤ a → part b m x ≡ part b m y
same_before a b m x y e h = part_of_take b m x ∙ ap (drop b) (take_less a (b + m) x y e h) ∙ sym (part_of_take b m y)

pub get_d_same_before : (a i : ℕ) (x y : List ℕ) → take a x ≡ take a y → i < a → get_or x i 0 ≡ get_or y i 0
get_d_same_before a i x y e h = sym (get_or-take a x i 0 h) ∙ ap (λ (l : List ℕ). get_or l i 0) e ∙ get_or-take a y i 0 h

-- lists that agree from e on have the same there
pub drop_more : (e b : ℕ) (x y : List ℕ) → drop e x ≡ drop e y → e ≤ b → drop b x ≡ drop b y
drop_more e b x y q h =
    let j : b ≡ e + (b - e) = omega arith in
    rw j (sym (drop-drop (b - e) e x) ∙ ap (drop (b - e)) q ∙ drop-drop (b - e) e y)

pub same_after : (e b m : ℕ) (x y : List ℕ) → drop e x ≡ drop e y → e ≤ b → part b m x ≡ part b m y
same_after e b m x y q h = ap (take m) (drop_more e b x y q h)

pub get_d_same_after : (e i : ℕ) (x y : List ℕ) → drop e x ≡ drop e y → e ≤ i → get_or x i 0 ≡ get_or y i 0
get_d_same_after e i x y q h =
    let j : i ≡ e + (i - e) = omega arith in
    rw j (sym (get_or-drop e x (i - e) 0) ∙ ap (λ (l : List ℕ). get_or l (i - e) 0) q ∙ get_or-drop e y (i - e) 0)

-- ---- one part changed
-- what comes back of a part that was lent
pub part_back : (f : List ℕ → List ℕ) (a k e : ℕ) (l y : List ℕ) → e ≡ k → y ≡ f (take e (drop a l)) → take a l ++ (y ++ drop e (drop a l)) ≡ on_part f a k l
unfolding on_part
part_back f a k e l y q p = rw (p, q)

-- the same, in the checker's own words: `&mut s[a..a + k]` is as long as a + k - a
pub part_back_at : (f : List ℕ → List ℕ) (a k : ℕ) (l y : List ℕ) → y ≡ f (take (a + k - a) (drop a l))
    → take a l ++ (y ++ drop (a + k - a) (drop a l)) ≡ on_part f a k l
part_back_at f a k l y p = part_back f a k (a + k - a) l y (add-sub_cancel_left a k) p

-- a part as the checker leaves it, `&s[a..a + k]`
pub part_lent : (a k : ℕ) (l : List ℕ) → take (a + k - a) (drop a l) ≡ part a k l
part_lent a k l = rw (add-sub_cancel_left a k)

-- and its length: what a callee of a lent part asks
pub length_lent : (a k : ℕ) (l : List ℕ) → a + k ≤ length l → length (take (a + k - a) (drop a l)) ≡ k
length_lent a k l h = rw part_lent (length_part a k l h)

-- a list with a part replaced by one as long is as long as it was
pub length_back : (a k : ℕ) (l y : List ℕ) → a + k ≤ length l → length y ≡ length (take k (drop a l)) → length (take a l ++ (y ++ drop k (drop a l))) ≡ length l
length_back a k l y h e = same_len_mid a k l y e

-- what f does to the part is all that matters
pub on_part_by : (f g : List ℕ → List ℕ) (at k : ℕ) (l : List ℕ) → f (part at k l) ≡ g (part at k l) → on_part f at k l ≡ on_part g at k l
unfolding on_part
on_part_by f g at k l e = rw e

pub on_part_ext : (f g : List ℕ → List ℕ) (k : ℕ) → ((r : List ℕ) → length r ≡ k → f r ≡ g r)
    → (at : ℕ) (l : List ℕ) → at + k ≤ length l → on_part f at k l ≡ on_part g at k l
on_part_ext f g k same at l h = on_part_by f g at k l (same (part at k l) (length_part at k l h))

-- a change that leaves the part as it is leaves the whole as it is
pub on_part_none : (f : List ℕ → List ℕ) (at k : ℕ) (l : List ℕ) → f (part at k l) ≡ part at k l → on_part f at k l ≡ l
unfolding on_part
on_part_none f at k l e = rw e (put_same at k l)

-- one byte of the part
pub on_part_set : (at k i v : ℕ) (l : List ℕ) → at + k ≤ length l → i < k → on_part (λ r. set r i v) at k l ≡ set l (at + i) v
unfolding on_part
on_part_set at k i v l h g = set_mid_at at k i l v (omega (arith, length_part at k l h))

module _ (f : List ℕ → List ℕ) (k : ℕ) (keep : Keeps f k) (at : ℕ) (l : List ℕ) (h : at + k ≤ length l) where
  length_mid : length (f (part at k l)) ≡ k
  length_mid = keep (part at k l) (length_part at k l h)

  pub on_part_length : length (on_part f at k l) ≡ length l
  unfolding on_part
  on_part_length = same_len_mid at k l (f (part at k l)) (length_mid ∙ sym (length_part at k l h))

  -- the part itself
  pub on_part_part : part at k (on_part f at k l) ≡ f (part at k l)
  unfolding on_part
  on_part_part =
      let r : List ℕ = f (part at k l) in
      ap (take k) (drop_at (take at l) (r ++ drop k (drop at l)) at (length-take-le at l (omega arith))) ∙ take_at r (drop k (drop at l)) k length_mid

  -- what lies before it
  pub on_part_take : (b : ℕ) → b ≤ at → take b (on_part f at k l) ≡ take b l
  unfolding on_part
  on_part_take b g = take_less at b (on_part f at k l) l (take_put at k l (f (part at k l)) (omega arith)) g

  pub on_part_before : (b m : ℕ) → b + m ≤ at → part b m (on_part f at k l) ≡ part b m l
  on_part_before b m g = same_before at b m (on_part f at k l) l (on_part_take at (omega arith)) g

  pub on_part_get_d_before : (i : ℕ) → i < at → get_or (on_part f at k l) i 0 ≡ get_or l i 0
  on_part_get_d_before i g = get_d_same_before at i (on_part f at k l) l (on_part_take at (omega arith)) g

  -- what lies behind it
  pub on_part_drop : (b : ℕ) → at + k ≤ b → drop b (on_part f at k l) ≡ drop b l
  unfolding on_part
  on_part_drop b g =
      let e = add-sub_cancel_left at k in
      drop_more (at + k) b (on_part f at k l) l (rw e at (drop_put at (at + k) l (f (part at k l)) (omega arith) h (length_mid ∙ sym e))) g

  pub on_part_after : (b m : ℕ) → at + k ≤ b → part b m (on_part f at k l) ≡ part b m l
  on_part_after b m g = ap (take m) (on_part_drop b g)

  pub on_part_get_d_after : (i : ℕ) → at + k ≤ i → get_or (on_part f at k l) i 0 ≡ get_or l i 0
  on_part_get_d_after i g = get_d_same_after (at + k) i (on_part f at k l) l (on_part_drop (at + k) (omega arith)) g

  -- what lies within it
  pub on_part_within : (b m : ℕ) → b + m ≤ k → part (at + b) m (on_part f at k l) ≡ part b m (f (part at k l))
  on_part_within b m g = sym (part_part b m at k (on_part f at k l) g) ∙ ap (part b m) on_part_part

  pub on_part_get_d_in : (i : ℕ) → i < k → get_or (on_part f at k l) (at + i) 0 ≡ get_or (f (part at k l)) i 0
  on_part_get_d_in i g = sym (get_d_part at k (on_part f at k l) i g) ∙ ap (λ (r : List ℕ). get_or r i 0) on_part_part

-- two changes of one part, one after the other
pub on_part_twice : (f g : List ℕ → List ℕ) (k : ℕ) → Keeps f k → Keeps g k → (at : ℕ) (l : List ℕ) → at + k ≤ length l
    → on_part f at k (on_part g at k l) ≡ on_part (λ r. f (g r)) at k l
on_part_twice f g k keepf keepg at l h =
    let fg : List ℕ → List ℕ = λ r. f (g r) in
    let keep : Keeps fg k = λ r e. keepf (g r) (keepg r e) in
    let m : List ℕ = on_part g at k l in
    let hm : at + k ≤ length m = omega (arith, on_part_length g k keepg at l h) in
    three_parts at k (on_part f at k m) (on_part fg at k l)
    (on_part_take f k keepf at m hm at (omega arith) ∙ on_part_take g k keepg at l h at (omega arith) ∙ sym (on_part_take fg k keep at l h at (omega arith)))
    (on_part_part f k keepf at m hm ∙ ap f (on_part_part g k keepg at l h) ∙ sym (on_part_part fg k keep at l h))
    (on_part_drop f k keepf at m hm (at + k) (omega arith) ∙ on_part_drop g k keepg at l h (at + k) (omega arith) ∙ sym (on_part_drop fg k keep at l h (at + k) (omega arith)))

-- a change seen from c on, where c lies before it
pub drop_on_part : (f : List ℕ → List ℕ) (c at k : ℕ) (l : List ℕ) → c ≤ at → at ≤ length l → drop c (on_part f at k l) ≡ on_part f (at - c) k (drop c l)
unfolding on_part
drop_on_part f c at k l h g =
    let e : c + (at - c) ≡ at = omega arith in
    drop-append-le c (take at l) (f (part at k l) ++ drop k (drop at l)) (omega (arith, length-take-le at l g))
    ∙ rw (drop_take c at l, drop-drop (at - c) c l, e)

-- changes of two parts that lie apart may change places
pub on_part_swap : (f g : List ℕ → List ℕ) (k m : ℕ) → Keeps f k → Keeps g m → (a b : ℕ) (l : List ℕ) → a + k ≤ b → b + m ≤ length l
    → on_part f a k (on_part g b m l) ≡ on_part g b m (on_part f a k l)
on_part_swap f g k m keepf keepg a b l d h =
    let hf : a + k ≤ length l = omega arith in
    let x : List ℕ = on_part g b m l in
    let y : List ℕ = on_part f a k l in
    let hx : a + k ≤ length x = omega (arith, on_part_length g m keepg b l h) in
    let hy : b + m ≤ length y = omega (arith, on_part_length f k keepf a l hf) in
    three_parts a k (on_part f a k x) (on_part g b m y)
    (on_part_take f k keepf a x hx a (omega arith)
    ∙ on_part_take g m keepg b l h a (omega arith)
    ∙ sym (on_part_take g m keepg b y hy a (omega arith) ∙ on_part_take f k keepf a l hf a (omega arith)))
    (on_part_part f k keepf a x hx
    ∙ ap f (on_part_before g m keepg b l h a k d)
    ∙ sym (on_part_before g m keepg b y hy a k d ∙ on_part_part f k keepf a l hf))
    (on_part_drop f k keepf a x hx (a + k) (omega arith)
    ∙ drop_on_part g (a + k) b m l d (omega arith)
    ∙ ap (on_part g (b - (a + k)) m) (sym (on_part_drop f k keepf a l hf (a + k) (omega arith)))
    ∙ sym (drop_on_part g (a + k) b m y d (omega arith)))

-- a change of a part of a part
pub on_part_nested : (f : List ℕ → List ℕ) (a k b m : ℕ) (l : List ℕ) → a + k ≤ m → b + m ≤ length l
    → on_part (on_part f a k) b m l ≡ on_part f (b + a) k l
unfolding on_part
on_part_nested f a k b m l h g =
    let d : List ℕ = drop b l in
    let r : List ℕ = f (part (b + a) k l) in
    let before : take a (take m d) ≡ take a d = take-take a m d (omega arith) in
    let behind : drop k (drop a (take m d)) ++ drop m d ≡ drop k (drop (b + a) l) =
    ap (λ (x : List ℕ). x ++ drop m d) (drop-drop k a (take m d))
    ∙ sym (drop-append-le (a + k) (take m d) (drop m d) (omega (arith, length_part b m l g)))
    ∙ ap (drop (a + k)) (take-append-drop m d)
    ∙ sym (drop-drop k a d)
    ∙ ap (drop k) (drop-drop a b l) in
    rw (before, part_part a k b m l h)
    (ap (λ (x : List ℕ). take b l ++ x)
    (append_assoc (take a d) (r ++ drop k (drop a (take m d))) (drop m d)
    ∙ ap (λ (x : List ℕ). take a d ++ x) (append_assoc r (drop k (drop a (take m d))) (drop m d) ∙ ap (λ (x : List ℕ). r ++ x) behind))
    ∙ sym (append_assoc (take b l) (take a d) (r ++ drop k (drop (b + a) l)))
    ∙ ap (λ (x : List ℕ). x ++ (r ++ drop k (drop (b + a) l))) (sym (take-add b a l)))

-- ---- n parts changed, one after the other
-- part number n is changed last
on_parts_last : (f : List ℕ → List ℕ) (k n at : ℕ) (l : List ℕ) → on_parts f k (suc n) at l ≡ on_part f (at + n * k) k (on_parts f k n at l)
unfolding on_parts
on_parts_last f k zero at l = rw at_first refl
on_parts_last f k (suc n) at l = rw at_next (on_parts_last f k n (at + k) (on_part f at k l))

-- a turn of the loop over them: the first i are changed, and part number i, which was lent, comes back changed
pub parts_turn : (f : List ℕ → List ℕ) (k i at from : ℕ) (r l y : List ℕ) → from ≡ at + i * k → l ≡ on_parts f k i at r
    → y ≡ f (take (from + k - from) (drop from l)) → take from l ++ (y ++ drop (from + k - from) (drop from l)) ≡ on_parts f k (i + 1) at r
parts_turn f k i at from r l y p q e =
    part_back_at f from k l y e ∙ ap (λ (a : ℕ). on_part f a k l) p ∙ ap (on_part f (at + i * k) k) q ∙ rw add-one (sym (on_parts_last f k i at r))

module _ (f : List ℕ → List ℕ) (k : ℕ) (keep : Keeps f k) where
  -- the first of n + 1 parts lies within the list, and so do the rest behind it once it is changed
  head_fits : (n at : ℕ) (l : List ℕ) → at + suc n * k ≤ length l → at + k ≤ length l
  head_fits n at l h = omega (arith, suc-mul n k)

  rest_fits : (n at : ℕ) (l : List ℕ) → at + suc n * k ≤ length l → at + k + n * k ≤ length (on_part f at k l)
  rest_fits n at l h = omega (arith, suc-mul n k, on_part_length f k keep at l (head_fits n at l h))

  pub on_parts_length : (n at : ℕ) (l : List ℕ) → at + n * k ≤ length l → length (on_parts f k n at l) ≡ length l
  unfolding on_parts
  on_parts_length zero at l h = refl
  on_parts_length (suc n) at l h = on_parts_length n (at + k) (on_part f at k l) (rest_fits n at l h) ∙ on_part_length f k keep at l (head_fits n at l h)

  -- what lies before them
  pub on_parts_take : (n at b : ℕ) (l : List ℕ) → at + n * k ≤ length l → b ≤ at → take b (on_parts f k n at l) ≡ take b l
  unfolding on_parts
  on_parts_take zero at b l h g = refl
  on_parts_take (suc n) at b l h g =
      on_parts_take n (at + k) b (on_part f at k l) (rest_fits n at l h) (omega arith) ∙ on_part_take f k keep at l (head_fits n at l h) b g

  pub on_parts_before : (n at b m : ℕ) (l : List ℕ) → at + n * k ≤ length l → b + m ≤ at → part b m (on_parts f k n at l) ≡ part b m l
  on_parts_before n at b m l h g = same_before at b m (on_parts f k n at l) l (on_parts_take n at at l h (omega arith)) g

  pub on_parts_get_d_before : (n at i : ℕ) (l : List ℕ) → at + n * k ≤ length l → i < at → get_or (on_parts f k n at l) i 0 ≡ get_or l i 0
  on_parts_get_d_before n at i l h g = get_d_same_before at i (on_parts f k n at l) l (on_parts_take n at at l h (omega arith)) g

  -- what lies behind them
  pub on_parts_drop : (n at b : ℕ) (l : List ℕ) → at + n * k ≤ length l → at + n * k ≤ b → drop b (on_parts f k n at l) ≡ drop b l
  unfolding on_parts
  on_parts_drop zero at b l h g = refl
  on_parts_drop (suc n) at b l h g =
      on_parts_drop n (at + k) b (on_part f at k l) (rest_fits n at l h) (omega (arith, suc-mul n k))
      ∙ on_part_drop f k keep at l (head_fits n at l h) b (omega (arith, suc-mul n k))

  pub on_parts_after : (n at b m : ℕ) (l : List ℕ) → at + n * k ≤ length l → at + n * k ≤ b → part b m (on_parts f k n at l) ≡ part b m l
  on_parts_after n at b m l h g = ap (take m) (on_parts_drop n at b l h g)

  pub on_parts_get_d_after : (n at i : ℕ) (l : List ℕ) → at + n * k ≤ length l → at + n * k ≤ i → get_or (on_parts f k n at l) i 0 ≡ get_or l i 0
  on_parts_get_d_after n at i l h g = get_d_same_after (at + n * k) i (on_parts f k n at l) l (on_parts_drop n at (at + n * k) l h (omega arith)) g

  -- part number j is f of what it was
  pub on_parts_part : (n at j : ℕ) (l : List ℕ) → at + n * k ≤ length l → j < n → part (at + j * k) k (on_parts f k n at l) ≡ f (part (at + j * k) k l)
  unfolding on_parts
  on_parts_part zero at j l h g = absurd (omega arith)
  on_parts_part (suc n) at zero l h g =
      rw at_first (on_parts_before n (at + k) at k (on_part f at k l) (rest_fits n at l h) (omega arith) ∙ on_part_part f k keep at l (head_fits n at l h))
  on_parts_part (suc n) at (suc j) l h g =
      rw at_next (on_parts_part n (at + k) j (on_part f at k l) (rest_fits n at l h) (omega arith)
      ∙ ap f (on_part_after f k keep at l (head_fits n at l h) (at + k + j * k) k (omega arith)))

  -- within part number j
  pub on_parts_within : (n at j b m : ℕ) (l : List ℕ) → at + n * k ≤ length l → j < n → b + m ≤ k
      → part (at + j * k + b) m (on_parts f k n at l) ≡ part b m (f (part (at + j * k) k l))
  on_parts_within n at j b m l h g i = sym (part_part b m (at + j * k) k (on_parts f k n at l) i) ∙ ap (part b m) (on_parts_part n at j l h g)

  -- a change that leaves each part as it is leaves the whole as it is
  pub on_parts_none : (n at : ℕ) (l : List ℕ) → ((j : ℕ) → j < n → f (part (at + j * k) k l) ≡ part (at + j * k) k l) → on_parts f k n at l ≡ l
  unfolding on_parts
  on_parts_none zero at l e = refl
  on_parts_none (suc n) at l e =
      let here : on_part f at k l ≡ l = on_part_none f at k l (rw at_first at (e zero (omega arith))) in
      rw here (on_parts_none n (at + k) l (λ j g. rw at_next at (e (suc j) (omega arith))))

-- what is done to lists of length k is all that matters
pub on_parts_ext : (f g : List ℕ → List ℕ) (k : ℕ) → Keeps f k → ((r : List ℕ) → length r ≡ k → f r ≡ g r)
    → (n at : ℕ) (l : List ℕ) → at + n * k ≤ length l → on_parts f k n at l ≡ on_parts g k n at l
unfolding on_parts
on_parts_ext f g k keep same zero at l h = refl
on_parts_ext f g k keep same (suc n) at l h =
    on_parts_ext f g k keep same n (at + k) (on_part f at k l) (rest_fits f k keep n at l h)
    ∙ ap (on_parts g k n (at + k)) (on_part_ext f g k same at l (head_fits f k keep n at l h))

-- n parts within one part
pub on_parts_nested : (f : List ℕ → List ℕ) (k : ℕ) → Keeps f k → (n a b m : ℕ) (l : List ℕ) → a + n * k ≤ m → b + m ≤ length l
    → on_part (on_parts f k n a) b m l ≡ on_parts f k n (b + a) l
unfolding on_parts
on_parts_nested f k keep zero a b m l h g = on_part_none (λ r. r) b m l refl
on_parts_nested f k keep (suc n) a b m l h g =
    let e : b + a + k ≡ b + (a + k) = omega arith in
    let q = suc-mul n k in
    let i : a + k ≤ m = omega (arith, q) in
    let j : b + a + k ≤ length l = omega arith in
    let here : on_part (on_part f a k) b m l ≡ on_part f (b + a) k l = on_part_nested f a k b m l i g in
    let keep_one : Keeps (on_part f a k) m = λ r p. on_part_length f k keep a r (omega (arith, p)) ∙ p in
    let keep-rest : Keeps (on_parts f k n (a + k)) m = λ r p. on_parts_length f k keep n (a + k) r (omega (arith, p, q)) ∙ p in
    rw e
    (sym (on_part_twice (on_parts f k n (a + k)) (on_part f a k) m keep-rest keep_one b l g)
    ∙ ap (on_part (on_parts f k n (a + k)) b m) here
    ∙ on_parts_nested f k keep n (a + k) b m (on_part f (b + a) k l) (omega (arith, q)) (omega (arith, on_part_length f k keep (b + a) l j)))

-- ---- a test of n parts
both_true : (a b : Bool) → (a && b) ≡ true → (a ≡ true) × (b ≡ true)
both_true true b e = (refl, e)
both_true false b e = let z : ◌≡◌ {A = ℕ} 0 1 = cc in absurd (omega arith)

-- it holds of all n: it holds of part number j
pub all_part : (p : List ℕ → Bool) (k n at : ℕ) (l : List ℕ) → all_parts p k n at l ≡ true → (j : ℕ) → j < n → p (part (at + j * k) k l) ≡ true
unfolding all_parts
all_part p k zero at l e j h = absurd (omega arith)
all_part p k (suc n) at l e zero h = rw at_first (both_true (p (part at k l)) (all_parts p k n (at + k) l) e).0
all_part p k (suc n) at l e (suc j) h =
    rw at_next (all_part p k n (at + k) l (both_true (p (part at k l)) (all_parts p k n (at + k) l) e).1 j (omega arith))

-- it holds of the first i and of part number i
all_more : (p : List ℕ → Bool) (k i at : ℕ) (l : List ℕ) → all_parts p k i at l ≡ true → p (part (at + i * k) k l) ≡ true → all_parts p k (suc i) at l ≡ true
unfolding all_parts
all_more p k zero at l e h = let t : p (part at k l) ≡ true = rw at_first at h in rw t refl
all_more p k (suc i) at l e h =
    let both = both_true (p (part at k l)) (all_parts p k i (at + k) l) e in
    rw (both.0, all_more p k i (at + k) l both.1 (rw at_next at h)) refl

-- a turn of the loop over them that goes on, and one that ends at part number i, which was lent
pub all_go : (p : List ℕ → Bool) (k i at from : ℕ) (l : List ℕ) → from ≡ at + i * k → all_parts p k i at l ≡ true
    → p (take (from + k - from) (drop from l)) ≡ true → all_parts p k (i + 1) at l ≡ true
all_go p k i at from l q e h = let t : p (part (at + i * k) k l) ≡ true = rw (part_lent, q) at h in rw add-one (all_more p k i at l e t)

pub all_stop : (p : List ℕ → Bool) (k n i at from : ℕ) (l : List ℕ) → from ≡ at + i * k → i < n
    → p (take (from + k - from) (drop from l)) ≡ false → false ≡ all_parts p k n at l
all_stop p k n i at from l q h e = go (all_parts p k n at l) refl
  where
    go : (b : Bool) → all_parts p k n at l ≡ b → false ≡ b
    go true w =
        let t : p (part (at + i * k) k l) ≡ true = all_part p k n at l w i h in
        let f : p (part (at + i * k) k l) ≡ false = rw (part_lent, q) at e in
        cc
    go false w = refl

-- it is the same where it is the same of each part
pub all_same : (p q : List ℕ → Bool) (k n a b : ℕ) (x y : List ℕ) → ((j : ℕ) → j < n → p (part (a + j * k) k x) ≡ q (part (b + j * k) k y))
    → all_parts p k n a x ≡ all_parts q k n b y
unfolding all_parts
all_same p q k zero a b x y e = refl
all_same p q k (suc n) a b x y e =
    let here : p (part a k x) ≡ q (part b k y) = rw (at_first a k, at_first b k) at (e zero (omega arith)) in
    let rest : all_parts p k n (a + k) x ≡ all_parts q k n (b + k) y =
    all_same p q k n (a + k) (b + k) x y (λ j h. rw (at_next a j k, at_next b j k) at (e (suc j) (omega arith))) in
    rw (here, rest)

-- it holds of each: it holds of all n
pub all_true : (p : List ℕ → Bool) (k n at : ℕ) (l : List ℕ) → ((j : ℕ) → j < n → p (part (at + j * k) k l) ≡ true) → all_parts p k n at l ≡ true
unfolding all_parts
all_true p k zero at l e = refl
all_true p k (suc n) at l e =
    let here : p (part at k l) ≡ true = rw at_first at (e zero (omega arith)) in
    rw here (all_true p k n (at + k) l (λ j h. rw at_next at (e (suc j) (omega arith))))

-- what lies before the parts, or behind them, does not matter
pub all_after : (p : List ℕ → Bool) (k n at e : ℕ) (x y : List ℕ) → drop e x ≡ drop e y → e ≤ at → all_parts p k n at x ≡ all_parts p k n at y
all_after p k n at e x y q h = all_same p p k n at at x y (λ j g. ap p (same_after e (at + j * k) k x y q (omega arith)))

pub all_before : (p : List ℕ → Bool) (k n at e : ℕ) (x y : List ℕ) → take e x ≡ take e y → at + n * k ≤ e → all_parts p k n at x ≡ all_parts p k n at y
all_before p k n at e x y q h = all_same p p k n at at x y (λ j g. ap p (same_before e (at + j * k) k x y q (omega (arith, mul_within j n k g))))

-- a change of each part that the test does not see
pub all_kept : (p : List ℕ → Bool) (f : List ℕ → List ℕ) (k : ℕ) → Keeps f k → ((r : List ℕ) → length r ≡ k → p (f r) ≡ p r)
    → (n at : ℕ) (l : List ℕ) → at + n * k ≤ length l → all_parts p k n at (on_parts f k n at l) ≡ all_parts p k n at l
all_kept p f k keep same n at l h =
    all_same p p k n at at (on_parts f k n at l) l
    (λ j g. ap p (on_parts_part f k keep n at j l h g) ∙ same (part (at + j * k) k l) (length_part (at + j * k) k l (omega (arith, mul_within j n k g))))

-- a test of parts of a part
pub all_within : (p : List ℕ → Bool) (k n a b m : ℕ) (l : List ℕ) → a + n * k ≤ m → all_parts p k n a (part b m l) ≡ all_parts p k n (b + a) l
all_within p k n a b m l h =
    all_same p p k n a (b + a) (part b m l) l
    (λ j g. let e : b + (a + j * k) ≡ b + a + j * k = omega arith in ap p (rw e at (part_part (a + j * k) k b m l (omega (arith, mul_within j n k g)))))

-- ---- a sum over n parts
-- part number n is added last
sum_last : (g : List ℕ → ℕ) (k n at : ℕ) (l : List ℕ) → sum_parts g k (suc n) at l ≡ sum_parts g k n at l + g (part (at + n * k) k l)
unfolding sum_parts
sum_last g k zero at l = rw at_first (omega arith)
sum_last g k (suc n) at l = rw at_next (omega (arith, sum_last g k n (at + k) l))

-- a turn of the loop over them that adds to a total
pub sum_turn : (g : List ℕ → ℕ) (k i at : ℕ) (l : List ℕ) (sum y : ℕ) → sum ≡ sum_parts g k i at l → y ≡ g (part (at + i * k) k l)
    → sum + y ≡ sum_parts g k (i + 1) at l
sum_turn g k i at l sum y e q = rw (e, q, add-one) (sym (sum_last g k i at l))

-- it is the same where it is the same of each part
pub sum_same : (f g : List ℕ → ℕ) (k n a b : ℕ) (x y : List ℕ) → ((j : ℕ) → j < n → f (part (a + j * k) k x) ≡ g (part (b + j * k) k y))
    → sum_parts f k n a x ≡ sum_parts g k n b y
unfolding sum_parts
sum_same f g k zero a b x y e = refl
sum_same f g k (suc n) a b x y e =
    let here : f (part a k x) ≡ g (part b k y) = rw (at_first a k, at_first b k) at (e zero (omega arith)) in
    let rest : sum_parts f k n (a + k) x ≡ sum_parts g k n (b + k) y =
    sum_same f g k n (a + k) (b + k) x y (λ j h. rw (at_next a j k, at_next b j k) at (e (suc j) (omega arith))) in
    rw (here, rest)

-- what lies behind the parts does not matter
pub sum_before : (g : List ℕ → ℕ) (k n at e : ℕ) (x y : List ℕ) → take e x ≡ take e y → at + n * k ≤ e → sum_parts g k n at x ≡ sum_parts g k n at y
sum_before g k n at e x y q h = sum_same g g k n at at x y (λ j i. ap g (same_before e (at + j * k) k x y q (omega (arith, mul_within j n k i))))

-- a sum over parts of a part
pub sum_within : (g : List ℕ → ℕ) (k n a b m : ℕ) (l : List ℕ) → a + n * k ≤ m → sum_parts g k n a (part b m l) ≡ sum_parts g k n (b + a) l
sum_within g k n a b m l h =
    sum_same g g k n a (b + a) (part b m l) l
    (λ j i. let e : b + (a + j * k) ≡ b + a + j * k = omega arith in ap g (rw e at (part_part (a + j * k) k b m l (omega (arith, mul_within j n k i)))))

-- no part gives more than b: the sum is at most n * b
pub sum_most : (g : List ℕ → ℕ) (k n at b : ℕ) (l : List ℕ) → ((r : List ℕ) → g r ≤ b) → sum_parts g k n at l ≤ n * b
unfolding sum_parts
sum_most g k zero at b l h = omega arith
sum_most g k (suc n) at b l h = omega (arith, h (part at k l), sum_most g k n (at + k) b l h, suc-mul n b)

-- ---- a copy of k bytes within one list, as the library's `copy_within` leaves it
pub copy_done : (l : List ℕ) (from to k : ℕ) → paste l to (drop from l) k ≡ on_part (λ r. part from k l) to k l
unfolding on_part
copy_done l from to k = rw drop-drop (append_assoc (take to l) (part from k l) (drop (to + k) l))

-- a part of bytes that are all the same
pub part_replicate : (at k n x : ℕ) → at + k ≤ n → part at k (replicate n x) ≡ replicate k x
part_replicate at k n x h =
    let rest : ℕ = n - at - k in
    let e : n ≡ at + (k + rest) = omega arith in
    let s = sym (replicate-append-replicate at (k + rest) x) in
    let u = sym (replicate-append-replicate k rest x) in
    rw (e, s, drop_at (replicate at x) (replicate (k + rest) x) at (length-replicate at x), u)
    (take_at (replicate k x) (replicate rest x) k (length-replicate k x))
