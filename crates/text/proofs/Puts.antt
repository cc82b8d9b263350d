-- A text put into bytes: the length stays, texts put one behind the other are their sum, and a byte stored is a text of one. Assumes nothing.
use native.Mathlib.Omega.{arith}
use native.Mathlib.Nat.{add-zero}
use native.Mathlib.Numerals.{add-one}
use mathlib.Core.Path.{◌≡◌, refl, sym, ap, ◌∙◌}
use mathlib.Core.List.{List, [], ◌∷◌, ◌++◌, append_assoc}
use Prim.Native.Nat.{ℕ, suc, ◌+◌, ◌≤◌, ◌<◌}
use lib.ListN.{length, get_or, take, drop, set, length-append, length-take, length-drop, take-append-drop, drop_of_length-le}
use lib.Seq.{set_split, take_at, drop_at, drop-drop, drop-cons}
use Rattle.text.specs.Text.{put_text, Put}

pub length_put_text : (s : List ℕ) (at : ℕ) (t : List ℕ) → at + length t ≤ length s → length (put_text s at t) ≡ length s
unfolding put_text
length_put_text s at t h = simp (length-append, length-take, length-drop) (omega arith)

-- a second text behind the first
pub put_text_then : (s : List ℕ) (at : ℕ) (a b : List ℕ) → at + length a ≤ length s → put_text (put_text s at a) (at + length a) b ≡ put_text s at (a ++ b)
unfolding put_text
put_text_then s at a b h = rw (front, back) (joined)
  where
    n : ℕ
    n = at + length a

    whole : take at s ++ (a ++ drop (at + length a) s) ≡ (take at s ++ a) ++ drop (at + length a) s
    whole = sym (append_assoc (take at s) a (drop (at + length a) s))

    size : length (take at s ++ a) ≡ at + length a
    size = simp (length-append, length-take) (omega arith)

    front : take (at + length a) (take at s ++ (a ++ drop (at + length a) s)) ≡ take at s ++ a
    front = rw whole (take_at (take at s ++ a) (drop (at + length a) s) (at + length a) size)

    rest : drop (at + length a) (take at s ++ (a ++ drop (at + length a) s)) ≡ drop (at + length a) s
    rest = rw whole (drop_at (take at s ++ a) (drop (at + length a) s) (at + length a) size)

    back : drop (at + length a + length b) (take at s ++ (a ++ drop (at + length a) s)) ≡ drop (at + length a + length b) s
    back = sym (drop-drop (length b) (at + length a) _) ∙ ap (drop (length b)) rest ∙ drop-drop (length b) (at + length a) s

    last : at + length a + length b ≡ at + length (a ++ b)
    last = rw (length-append a b) (omega arith)

    joined : (take at s ++ a) ++ (b ++ drop (at + length a + length b) s) ≡ take at s ++ ((a ++ b) ++ drop (at + length (a ++ b)) s)
    joined = rw (last, append_assoc (take at s) a, append_assoc a b) refl

pub put_text_none : (s : List ℕ) (at : ℕ) → put_text s at [] ≡ s
unfolding put_text
put_text_none s at = rw (add-zero at) (take-append-drop at s)

-- a byte stored is a text of one
pub put_text_one : (s : List ℕ) (at x : ℕ) → at < length s → set s at x ≡ put_text s at (x ∷ [])
unfolding put_text
put_text_one s at x h = rw (set_split s at x h, add-one at) refl

-- a text byte by byte
pub put_text_cons : (s : List ℕ) (at x : ℕ) (t : List ℕ) → at < length s → put_text s at (x ∷ t) ≡ put_text (set s at x) (at + 1) t
put_text_cons s at x t h = rw (put_text_one s at x h) (sym (put_text_then s at (x ∷ []) t (omega arith)))

-- a turn of a loop over the text, and its end
pub put_text_turn :
    (s : List ℕ) (at q : ℕ) (t : List ℕ) (i : ℕ) → i < length t → at < length s → q ≡ at + 1
    → put_text s at (drop i t) ≡ put_text (set s at (get_or t i 0)) q (drop (i + 1) t)
put_text_turn s at q t i h g e =
    rw (e, add-one i, drop-cons t i 0 h) (put_text_cons s at (get_or t i 0) (drop (suc i) t) g)

pub put_text_done : (s : List ℕ) (at : ℕ) (t : List ℕ) (i : ℕ) → length t ≤ i → put_text s at (drop i t) ≡ s
put_text_done s at t i h = rw (drop_of_length-le t h) (put_text_none s at)

-- the second text at the place behind the first
pub put_then : {s s' s'' t u : List ℕ} {at r r' : ℕ} → Put s at t s' r → Put s' r u s'' r' → Put s at (t ++ u) s'' r'
put_then {s} {s'} {s''} {t} {u} {at} {r} {r'} p q =
    record {
      bytes = q.bytes ∙ rw (p.bytes, p.place) (put_text_then s at t u p.fits);
      place = rw (q.place, p.place, length-append t u) (omega arith);
      fits = rw (length-append t u) (omega (arith, length_put p));
    }
  where
    length_put : Put s at t s' r → length s' ≡ length s
    length_put p = ap length p.bytes ∙ length_put_text s at t p.fits

-- no text
pub put_none : (s : List ℕ) (at : ℕ) → at ≤ length s → Put s at [] s at
put_none s at h = record { bytes = sym (put_text_none s at); place = omega arith; fits = omega arith }

-- a text put leaves one outcome
pub put_one : {s t s' s'' : List ℕ} {at r r' : ℕ} → Put s at t s' r → Put s at t s'' r' → (s' ≡ s'') × (r ≡ r')
put_one p q = (p.bytes ∙ sym q.bytes, p.place ∙ sym q.place)

-- the bytes up to the place behind the text
pub take_put : {s t s' : List ℕ} {at r : ℕ} → Put s at t s' r → take r s' ≡ take at s ++ t
unfolding put_text
take_put {s} {t} {s'} {at} {r} p =
    rw (p.place, p.bytes, ← append_assoc (take at s) t (drop (at + length t) s))
    (take_at (take at s ++ t) (drop (at + length t) s) (at + length t) (simp (length-append, length-take) (omega (arith, p.fits))))
