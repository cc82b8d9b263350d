-- Hex: two digits for each byte, and a turn of a loop that writes them. Assumes nothing.
use native.Mathlib.Omega.{arith}
use native.Mathlib.Numerals.{add-one}
use mathlib.Core.Path.{◌≡◌, refl, ◌∙◌}
use mathlib.Core.List.{List, [], ◌∷◌}
use Prim.Native.Nat.{ℕ, ◌+◌, ◌*◌, ◌/◌, ◌%◌, ◌≤◌, ◌<◌}
use lib.ListN.{length, get_or, drop, set, length-set, drop_of_length-le}
use lib.Seq.{drop-cons}
use Rattle.text.specs.Text.{put_text, hex_digit, hex_of, hex32}
use Rattle.text.proofs.Puts.{put_text_cons, put_text_none}

pub length_hex_of : (l : List ℕ) → length (hex_of l) ≡ 2 * length l
unfolding hex_of
length_hex_of [] = refl
length_hex_of (b ∷ l) = omega (arith, length_hex_of l)

pub length_hex32 : (x : ℕ) → length (hex32 x) ≡ 8
unfolding hex32 hex_of
length_hex32 x = refl

pub hex_of_turn :
    (s : List ℕ) (at : ℕ) (l : List ℕ) (i h g : ℕ) → i < length l → at + 1 < length s
    → h ≡ hex_digit (get_or l i 0 / 16) → g ≡ hex_digit (get_or l i 0 % 16)
    → put_text s at (hex_of (drop i l)) ≡ put_text (set (set s at h) (at + 1) g) (at + 2) (hex_of (drop (i + 1) l))
unfolding hex_of
hex_of_turn s at l i h g below fits e f =
    rw (add-one i, drop-cons l i 0 below, e, f)
    (put_text_cons s at _ _ (omega arith)
    ∙ put_text_cons (set s at _) (at + 1) _ _ (rw length-set fits)
    ∙ rw two refl)
  where
    two : at + 1 + 1 ≡ at + 2
    two = omega arith

pub hex_of_done : (s : List ℕ) (at : ℕ) (l : List ℕ) (i : ℕ) → length l ≤ i → put_text s at (hex_of (drop i l)) ≡ s
unfolding hex_of
hex_of_done s at l i h = rw (drop_of_length-le l h) (put_text_none s at)
