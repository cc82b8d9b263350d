-- The laws of lists of bytes: what is put together of bytes, cut out of bytes or written by bytes is bytes. Assumes nothing.
use native.Mathlib.Omega.{arith}
use native.Mathlib.Decide.{dec_lt, ℕ_discrete}
use mathlib.Core.Path.{◌≡◌}
use mathlib.Core.List.{List, [], ◌∷◌, ◌++◌}
use Prim.Native.Nat.{ℕ, zero, suc, ◌+◌, ◌<◌}
use lib.ListN.{length, take, drop, get_or, set, replicate}
use lib.Seq.{get_or-drop, set_out, get_or-set_same, get_or-set_other}
use Rattle.paper.specs.Parts.{Bytes, part, on_part, on_parts}

pub bytes_nil : Bytes []
bytes_nil k = omega arith

pub bytes_cons : (x : ℕ) (l : List ℕ) → x < 256 → Bytes l → Bytes (x ∷ l)
bytes_cons x l h b zero = h
bytes_cons x l h b (suc k) = b k

bytes_tail : (x : ℕ) (l : List ℕ) → Bytes (x ∷ l) → Bytes l
bytes_tail x l b k = b (suc k)

pub bytes_set : (l : List ℕ) (i v : ℕ) → Bytes l → v < 256 → Bytes (set l i v)
bytes_set l i v b h k = go (ℕ_discrete k i) (dec_lt i (length l))
  where
    go : Dec (k ≡ i) → Dec (i < length l) → get_or (set l i v) k 0 < 256
    go (yes e) (yes g) = rw (e, get_or-set_same l i v 0 g) h
    go (yes e) (no g) = rw (set_out l i v (omega arith)) (b k)
    go (no d) g = rw (get_or-set_other l i k v 0 d) (b k)

pub bytes_take : (n : ℕ) (l : List ℕ) → Bytes l → Bytes (take n l)
bytes_take zero l b = bytes_nil
bytes_take (suc n) [] b = bytes_nil
bytes_take (suc n) (x ∷ l) b = bytes_cons x (take n l) (b zero) (bytes_take n l (bytes_tail x l b))

pub bytes_drop : (n : ℕ) (l : List ℕ) → Bytes l → Bytes (drop n l)
bytes_drop n l b k = rw get_or-drop (b (n + k))

pub bytes_part : (at k : ℕ) (l : List ℕ) → Bytes l → Bytes (part at k l)
bytes_part at k l b = bytes_take k (drop at l) (bytes_drop at l b)

pub bytes_append : (x y : List ℕ) → Bytes x → Bytes y → Bytes (x ++ y)
bytes_append [] y b c = c
bytes_append (a ∷ x) y b c = bytes_cons a (x ++ y) (b zero) (bytes_append x y (bytes_tail a x b) c)

pub bytes_replicate : (n v : ℕ) → v < 256 → Bytes (replicate n v)
bytes_replicate zero v h = bytes_nil
bytes_replicate (suc n) v h = bytes_cons v (replicate n v) h (bytes_replicate n v h)

pub bytes_on_part : (f : List ℕ → List ℕ) (at k : ℕ) (l : List ℕ) → Bytes l → (Bytes (part at k l) → Bytes (f (part at k l))) → Bytes (on_part f at k l)
unfolding on_part
bytes_on_part f at k l b c =
    bytes_append (take at l) (f (part at k l) ++ drop k (drop at l)) (bytes_take at l b)
    (bytes_append (f (part at k l)) (drop k (drop at l)) (c (bytes_part at k l b)) (bytes_drop k (drop at l) (bytes_drop at l b)))

pub bytes_on_parts : (f : List ℕ → List ℕ) (k : ℕ) → ((r : List ℕ) → Bytes r → Bytes (f r)) → (n at : ℕ) (l : List ℕ) → Bytes l → Bytes (on_parts f k n at l)
unfolding on_parts
bytes_on_parts f k c zero at l b = b
bytes_on_parts f k c (suc n) at l b = bytes_on_parts f k c n (at + k) (on_part f at k l) (bytes_on_part f at k l b (c (part at k l)))
