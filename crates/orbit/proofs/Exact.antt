-- Every double of an orbit and of timing parameters is its field's whole number × 2^-k exactly: one law over the table, by the law over
-- the width and the law over k. Assumes nothing.
use mathlib.Core.Bool.{Bool, true, false, cond, ◌&&◌}
use mathlib.Core.List.{List, [], ◌∷◌, ◌++◌}
use mathlib.Core.Path.{◌≡◌, refl}
use Prim.Native.Nat.{ℕ, ◌+◌, ◌-◌, ◌^◌, ◌<◌, ◌≤◌}
use Prim.Native.String.{String}
use native.Mathlib.Omega.{arith}
use borrow.Author.Tests.{leb-true}
use lib.Dec.{leb, ltb}
use lib.IntN.{ℤ, pos, negsuc, nat_abs}
use lib.Ieee.{Float, binary64, to_bits}
use lib.Pow.{pow_mono}
use Rattle.paper.specs.Record.{Family, same_family}
use Rattle.paper.specs.Word.{Line, table}
use Rattle.paper.specs.Field.{Field, Sign, unsigned, signed, Scale, plain, by, layouts, fields_in, fields_of, value_of, numbers_at, in_record, fields_along, numbers_along}
use Rattle.paper.specs.Double.{Exactly, double, scaled_before, doubles_of, doubles_in}
use Rattle.paper.proofs.Fields.{bits_small}
use Rattle.paper.proofs.StoreFacts.{both_true}
use Rattle.doubles.proofs.Exact.{double_exact, double_bits_lem}
use Rattle.orbit.specs.Exact.{OneExact, EachExact}

-- ---- what the law over k asks of a field: at most 32 bits, k at most 255
abbrev small_scale : Scale → Bool
small_scale plain = true
small_scale (by k) = leb k 255

small : List Field → Bool
small [] = true
small (f ∷ fs) = leb f.width 32 && small_scale f.scale && small fs

small_along : List Line → Bool
small_along [] = true
small_along (l ∷ ls) = small (fields_of l.type) && small_along ls

all_small : small_along table ≡ true
unfolding small_along small table fields_in layouts
all_small = refl

-- a number of at most 32 bits, of either sign
value_size : (sign : Sign) (w v : ℕ) → w ≤ 32 → v < 2 ^ w → nat_abs (value_of sign w v) < 9007199254740992
value_size unsigned w v h l = omega (arith, pow_mono {i = w} {j = 32} h)
value_size signed w v h l = go (ltb v (2 ^ (w - 1)))
  where
    go : (b : Bool) → nat_abs (cond b (pos v) (negsuc (2 ^ w - 1 - v))) < 9007199254740992
    go true = omega (arith, pow_mono {i = w} {j = 32} h)
    go false = omega (arith, pow_mono {i = w} {j = 32} h)

exact : (z : ℤ) (k : ℕ) → nat_abs z < 9007199254740992 → k ≤ 255 → Exactly (to_bits binary64 (double z k)) z k
exact z k h l = rw (double_bits_lem z k h l) (double_exact z k h l)

one_exact : (k : Scale) (name : String) (z : ℤ) (ds : List (String × Float)) (Others : List (String × Float) → Type 0)
    → nat_abs z < 9007199254740992 → small_scale k ≡ true → Others ds → OneExact k name z (scaled_before k name z ds) Others
one_exact plain name z ds Others h l o = o
one_exact (by k) name z ds Others h l o = (refl, exact z k h (leb-true k 255 l), o)

-- ---- fields one behind the other, before others
fields_exact : (bytes : List ℕ) (fs gs : List Field) (o : ℕ) (ys : List (String × ℤ)) → small fs ≡ true
    → EachExact gs ys (doubles_of gs ys)
    → EachExact (fs ++ gs) (numbers_at bytes o fs ++ ys) (doubles_of (fs ++ gs) (numbers_at bytes o fs ++ ys))
unfolding small numbers_at doubles_of
fields_exact bytes [] gs o ys s e = e
fields_exact bytes (f ∷ fs) gs o ys s e =
    let t = both_true (leb f.width 32 && small_scale f.scale) (small fs) s in
    let u = both_true (leb f.width 32) (small_scale f.scale) t.0 in
    let n = value_size f.sign f.width _ (leb-true f.width 32 u.0) (bits_small bytes o f.width) in
    one_exact f.scale f.name _ _ (EachExact (fs ++ gs) (numbers_at bytes (o + f.width) fs ++ ys)) n u.1
    (fields_exact bytes fs gs (o + f.width) ys t.1 e)

-- ---- the words of a family, in the order of the table
along_exact : (bytes : List ℕ) (f : Family) (ls : List Line) → small_along ls ≡ true
    → EachExact (fields_along ls f) (numbers_along ls f bytes) (doubles_of (fields_along ls f) (numbers_along ls f bytes))
unfolding small_along fields_along numbers_along doubles_of
along_exact bytes f [] s = refl
along_exact bytes f (l ∷ ls) s =
    let t = both_true (small (fields_of l.type)) (small_along ls) s in
    let later = along_exact bytes f ls t.1 in
    let first = fields_exact bytes (fields_of l.type) (fields_along ls f) (in_record table l.type) (numbers_along ls f bytes) t.0 later in
    go (same_family l.family f) _ _ _ _ first later
  where
    go : (b : Bool) (fs gs : List Field) (xs ys : List (String × ℤ)) → EachExact fs xs (doubles_of fs xs) → EachExact gs ys (doubles_of gs ys)
        → EachExact (cond b fs gs) (cond b xs ys) (doubles_of (cond b fs gs) (cond b xs ys))
    go true fs gs xs ys x y = x
    go false fs gs xs ys x y = y

pub doubles_exact : (f : Family) (bytes : List ℕ) → EachExact (fields_along table f) (numbers_along table f bytes) (doubles_in f bytes)
doubles_exact f bytes = along_exact bytes f table all_small
