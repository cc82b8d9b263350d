-- A turn of the loop over the bytes, and its end. Assumes nothing.
use native.Mathlib.Numerals.{add-one}
use mathlib.Core.Path.{◌≡◌, refl}
use mathlib.Core.List.{List}
use Prim.Native.Nat.{ℕ, ◌+◌, ◌*◌, ◌%◌, ◌≤◌, ◌<◌}
use lib.ListN.{length, get_or, drop, drop_of_length-le}
use lib.Seq.{drop-cons}
use Rattle.adler.specs.Adler.{adler_prime, adler_from}

pub sum_turn :
    (l : List ℕ) (i a b a' b' : ℕ) → i < length l → a' ≡ (a + get_or l i 0) % adler_prime → b' ≡ (b + a') % adler_prime
    → adler_from a b (drop i l) ≡ adler_from a' b' (drop (i + 1) l)
unfolding adler_from
sum_turn l i a b a' b' h e f = rw (f, e, add-one i, drop-cons l i 0 h) refl

pub adler_done : (l : List ℕ) (i a b : ℕ) → length l ≤ i → adler_from a b (drop i l) ≡ b * 65536 + a
unfolding adler_from
adler_done l i a b h = rw (drop_of_length-le l h) refl
