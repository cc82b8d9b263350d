-- The laws of big-endian numbers in two and four bytes: written and read back, other bytes, lengths, bytes, and within a part.
-- Assumes nothing.
use native.Mathlib.Omega.{arith}
use mathlib.Core.Logic.{◌≢◌}
use mathlib.Core.Path.{◌≡◌, sym, ap, ◌∙◌}
use mathlib.Core.List.{List}
use Prim.Native.Nat.{ℕ, ◌+◌, ◌*◌, ◌/◌, ◌%◌, ◌≤◌, ◌<◌}
use lib.ListN.{length, take, drop, get_or, set, length-set}
use lib.Seq.{get_or-set_same, get_or-set_other, set-get_or, take-set-le, drop-set-lt}
use Rattle.paper.specs.Big.{be16, be32, put16, put32}
use Rattle.paper.specs.Parts.{Bytes, part, on_part}
use Rattle.paper.proofs.Parts.{Keeps, get_d_part, get_d_same_before, get_d_same_after, on_part_set, on_part_twice}
use Rattle.paper.proofs.Bytes.{bytes_set}

-- ---- lengths
pub length_put16 : (s : List ℕ) (at x : ℕ) → length (put16 s at x) ≡ length s
unfolding put16
length_put16 s at x = simp length-set

pub length_put32 : (s : List ℕ) (at x : ℕ) → length (put32 s at x) ≡ length s
unfolding put32
length_put32 s at x = simp length_put16

-- ---- written and read back
pub put16_first : (s : List ℕ) (at x : ℕ) → at < length s → get_or (put16 s at x) at 0 ≡ x / 256
unfolding put16
put16_first s at x h = get_or-set_other (set s at (x / 256)) (at + 1) at (x % 256) 0 (omega arith) ∙ get_or-set_same s at (x / 256) 0 h

pub put16_second : (s : List ℕ) (at x : ℕ) → at + 2 ≤ length s → get_or (put16 s at x) (at + 1) 0 ≡ x % 256
unfolding put16
put16_second s at x h = get_or-set_same (set s at (x / 256)) (at + 1) (x % 256) 0 (simp length-set (omega arith))

-- other bytes stay
pub put16_other : (s : List ℕ) (at x i : ℕ) → i ≢ at → i ≢ at + 1 → get_or (put16 s at x) i 0 ≡ get_or s i 0
unfolding put16
put16_other s at x i a b = get_or-set_other (set s at (x / 256)) (at + 1) i (x % 256) 0 b ∙ get_or-set_other s at i (x / 256) 0 a

pub put16_take : (s : List ℕ) (at x b : ℕ) → b ≤ at → take b (put16 s at x) ≡ take b s
unfolding put16
put16_take s at x b h = take-set-le b (set s at (x / 256)) (at + 1) (x % 256) (omega arith) ∙ take-set-le b s at (x / 256) h

pub put16_drop : (s : List ℕ) (at x b : ℕ) → at + 2 ≤ b → drop b (put16 s at x) ≡ drop b s
unfolding put16
put16_drop s at x b h = drop-set-lt b (set s at (x / 256)) (at + 1) (x % 256) (omega arith) ∙ drop-set-lt b s at (x / 256) (omega arith)

pub put32_take : (s : List ℕ) (at x b : ℕ) → b ≤ at → take b (put32 s at x) ≡ take b s
unfolding put32
put32_take s at x b h = put16_take (put16 s at (x / 65536)) (at + 2) (x % 65536) b (omega arith) ∙ put16_take s at (x / 65536) b h

pub put32_drop : (s : List ℕ) (at x b : ℕ) → at + 4 ≤ b → drop b (put32 s at x) ≡ drop b s
unfolding put32
put32_drop s at x b h = put16_drop (put16 s at (x / 65536)) (at + 2) (x % 65536) b (omega arith) ∙ put16_drop s at (x / 65536) b (omega arith)

pub be16_put16 : (s : List ℕ) (at x : ℕ) → at + 2 ≤ length s → be16 (put16 s at x) at ≡ x
unfolding be16
be16_put16 s at x h = rw (put16_first s at x (omega arith), put16_second s at x h) (omega arith)

-- ---- numbers that read the same bytes
pub be16_same : (x y : List ℕ) (i j : ℕ) → get_or x i 0 ≡ get_or y j 0 → get_or x (i + 1) 0 ≡ get_or y (j + 1) 0 → be16 x i ≡ be16 y j
unfolding be16
be16_same x y i j a b = rw (a, b)

pub be16_before : (a i : ℕ) (x y : List ℕ) → take a x ≡ take a y → i + 2 ≤ a → be16 x i ≡ be16 y i
be16_before a i x y e h = be16_same x y i i (get_d_same_before a i x y e (omega arith)) (get_d_same_before a (i + 1) x y e (omega arith))

pub be16_after : (e i : ℕ) (x y : List ℕ) → drop e x ≡ drop e y → e ≤ i → be16 x i ≡ be16 y i
be16_after e i x y q h = be16_same x y i i (get_d_same_after e i x y q h) (get_d_same_after e (i + 1) x y q (omega arith))

pub be32_before : (a i : ℕ) (x y : List ℕ) → take a x ≡ take a y → i + 4 ≤ a → be32 x i ≡ be32 y i
unfolding be32
be32_before a i x y e h = rw (be16_before a i x y e (omega arith), be16_before a (i + 2) x y e (omega arith))

pub be32_after : (e i : ℕ) (x y : List ℕ) → drop e x ≡ drop e y → e ≤ i → be32 x i ≡ be32 y i
unfolding be32
be32_after e i x y q h = rw (be16_after e i x y q h, be16_after e (i + 2) x y q (omega arith))

pub be16_part : (at k : ℕ) (l : List ℕ) (i : ℕ) → i + 2 ≤ k → be16 (part at k l) i ≡ be16 l (at + i)
be16_part at k l i h =
    let e : at + (i + 1) ≡ at + i + 1 = omega arith in
    be16_same (part at k l) l i (at + i) (get_d_part at k l i (omega arith)) (rw e at (get_d_part at k l (i + 1) (omega arith)))

pub be32_part : (at k : ℕ) (l : List ℕ) (i : ℕ) → i + 4 ≤ k → be32 (part at k l) i ≡ be32 l (at + i)
unfolding be32
be32_part at k l i h =
    let e : at + (i + 2) ≡ at + i + 2 = omega arith in
    rw (be16_part at k l i (omega arith), be16_part at k l (i + 2) (omega arith), e)

pub be32_put32 : (s : List ℕ) (at x : ℕ) → at + 4 ≤ length s → be32 (put32 s at x) at ≡ x
unfolding be32 put32
be32_put32 s at x h =
    let m : List ℕ = put16 s at (x / 65536) in
    let first : be16 (put16 m (at + 2) (x % 65536)) at ≡ x / 65536 =
    be16_before (at + 2) at (put16 m (at + 2) (x % 65536)) m (put16_take m (at + 2) (x % 65536) (at + 2) (omega arith)) (omega arith)
    ∙ be16_put16 s at (x / 65536) (omega arith) in
    let second : be16 (put16 m (at + 2) (x % 65536)) (at + 2) ≡ x % 65536 = be16_put16 m (at + 2) (x % 65536) (omega (arith, length_put16 s at (x / 65536))) in
    rw (first, second) (omega arith)

-- written within a part
pub on_part_put16 : (at k i x : ℕ) (l : List ℕ) → at + k ≤ length l → i + 2 ≤ k → on_part (λ r. put16 r i x) at k l ≡ put16 l (at + i) x
unfolding put16
on_part_put16 at k i x l h g =
    let e : at + (i + 1) ≡ at + i + 1 = omega arith in
    let keep : (j v : ℕ) → Keeps (λ r. set r j v) k = λ j v r p. length-set r j v ∙ p in
    let long : at + k ≤ length (set l (at + i) (x / 256)) = omega (arith, length-set l (at + i) (x / 256)) in
    sym (on_part_twice (λ r. set r (i + 1) (x % 256)) (λ r. set r i (x / 256)) k (keep (i + 1) (x % 256)) (keep i (x / 256)) at l h)
    ∙ ap (on_part (λ r. set r (i + 1) (x % 256)) at k) (on_part_set at k i (x / 256) l h (omega arith))
    ∙ on_part_set at k (i + 1) (x % 256) (set l (at + i) (x / 256)) long (omega arith)
    ∙ ap (λ (j : ℕ). set (set l (at + i) (x / 256)) j (x % 256)) e

-- ---- of bytes
pub be16_most : (s : List ℕ) (at : ℕ) → Bytes s → be16 s at < 65536
unfolding be16
be16_most s at b = omega (arith, b at, b (at + 1))

pub be32_most : (s : List ℕ) (at : ℕ) → Bytes s → be32 s at < 4294967296
unfolding be32
be32_most s at b = omega (arith, be16_most s at b, be16_most s (at + 2) b)

pub bytes_put16 : (s : List ℕ) (at x : ℕ) → Bytes s → x < 65536 → Bytes (put16 s at x)
unfolding put16
bytes_put16 s at x b h = bytes_set (set s at (x / 256)) (at + 1) (x % 256) (bytes_set s at (x / 256) b (omega arith)) (omega arith)

pub bytes_put32 : (s : List ℕ) (at x : ℕ) → Bytes s → x < 4294967296 → Bytes (put32 s at x)
unfolding put32
bytes_put32 s at x b h = bytes_put16 (put16 s at (x / 65536)) (at + 2) (x % 65536) (bytes_put16 s at (x / 65536) b (omega arith)) (omega arith)

-- the number that stands there, written again
pub put16_none : (s : List ℕ) (at : ℕ) → Bytes s → put16 s at (be16 s at) ≡ s
unfolding put16 be16
put16_none s at b =
    let hi : (get_or s at 0 * 256 + get_or s (at + 1) 0) / 256 ≡ get_or s at 0 = omega (arith, b (at + 1)) in
    let lo : (get_or s at 0 * 256 + get_or s (at + 1) 0) % 256 ≡ get_or s (at + 1) 0 = omega (arith, b (at + 1)) in
    rw (hi, lo, set-get_or s at 0) (set-get_or s (at + 1) 0)
