-- The share of a record's bits that the word of an age owns: the shares lie one behind the other, in the order of the ages, and together
-- they are all of the record's bits. Computed from the table of words. Assumes nothing.
use mathlib.Core.Bool.{Bool, true, false, cond, not, ◌&&◌, ◌||◌}
use mathlib.Core.List.{List, [], ◌∷◌}
use mathlib.Core.Path.{◌≡◌, refl}
use Prim.Native.Nat.{ℕ, zero, suc, ◌+◌, ◌-◌, ◌<◌, ◌≤◌}
use native.Mathlib.Omega.{arith}
use native.Mathlib.Decide.{dec_lt}
use lib.Dec.{eqb}
use borrow.Author.Tests.{eqb-true}
use Rattle.paper.specs.Record.{Family, CED, Timing, same_family, record_bits, ages}
use Rattle.paper.specs.Word.{Line, table, Owned, nothing, owns, owned_in, owned}
use Rattle.paper.proofs.StoreFacts.{both_true}
use Rattle.history.proofs.Calls.{one_family}

-- ---- the table
-- how long each share of a family is, in the table's order
abbrev pub shares_in : List Line → Family → List ℕ
shares_in [] f = []
shares_in (l ∷ ls) f = cond (same_family l.family f) ((l.record_to - l.record_from) ∷ shares_in ls f) (shares_in ls f)

unfoldable pub shares : Family → List ℕ
shares f = shares_in table f

-- where the share of age k begins, and where that of the next
unfoldable pub up_to : List ℕ → ℕ → ℕ
up_to l zero = 0
up_to [] (suc k) = 0
up_to (x ∷ l) (suc k) = x + up_to l k

unfoldable pub share_at : Family → ℕ → ℕ
share_at f k = up_to (shares f) k

up_rises : (l : List ℕ) (a b : ℕ) → a ≤ b → up_to l a ≤ up_to l b
unfolding up_to
up_rises l zero b h = omega arith
up_rises l (suc a) zero h = absurd (omega arith)
up_rises [] (suc a) (suc b) h = omega arith
up_rises (x ∷ l) (suc a) (suc b) h = omega (arith, up_rises l a b (omega arith))

pub share_rises : (f : Family) (a b : ℕ) → a ≤ b → share_at f a ≤ share_at f b
unfolding share_at
share_rises f a b h = up_rises (shares f) a b h

-- ---- what a word owns is the share of its age
abbrev pub IsShare : Family → Owned → Type 0
IsShare f nothing = Unit {0}
IsShare f (owns to from n age) = (to ≡ share_at f age) × (to + n ≡ share_at f (suc age))

abbrev at_share : Line → Bool
at_share l = eqb l.record_from (share_at l.family l.age) && eqb l.record_to (share_at l.family (suc l.age))

abbrev all_at_share : List Line → Bool
all_at_share [] = true
all_at_share (l ∷ ls) = at_share l && all_at_share ls

line_share : (l : Line) → at_share l ≡ true
    → IsShare l.family (owns l.record_from l.word_from (l.record_to - l.record_from) l.age)
line_share l e =
    let p = both_true (eqb l.record_from (share_at l.family l.age)) (eqb l.record_to (share_at l.family (suc l.age))) e in
    let from = eqb-true l.record_from (share_at l.family l.age) p.0 in
    let to = eqb-true l.record_to (share_at l.family (suc l.age)) p.1 in
    (from, omega (arith, share_rises l.family l.age (suc l.age) (omega arith)))

in_share : (ls : List Line) → all_at_share ls ≡ true → (f : Family) (type band : ℕ) → IsShare f (owned_in ls f type band)
unfolding owned_in
in_share [] e f type band = tt
in_share (l ∷ ls) e f type band =
    let two = both_true (at_share l) (all_at_share ls) e in
    go (line_share l two.0) (in_share ls two.1 f type band) (mine && eqb l.type type && on_band) refl
  where
    mine : Bool
    mine = same_family l.family f

    on_band : Bool
    on_band = not l.only_e1_b || eqb band 0

    this : Owned
    this = owns l.record_from l.word_from (l.record_to - l.record_from) l.age

    go : IsShare l.family this → IsShare f (owned_in ls f type band) → (b : Bool) → mine && eqb l.type type && on_band ≡ b
        → IsShare f (cond b this (owned_in ls f type band))
    go own rest true h =
        let one = one_family l.family f (both_true mine (eqb l.type type) (both_true (mine && eqb l.type type) on_band h).0).0 in
        rw one at own
    go own rest false h = rest

pub owned_share : (f : Family) (type band : ℕ) → IsShare f (owned f type band)
unfolding table shares share_at up_to
owned_share f type band = in_share table refl f type band

-- ---- every bit lies in a share
pub record InShare (f : Family) (i : ℕ) : Type 0 where
  pub k : ℕ
  pub one : k < ages f
  pub from : share_at f k ≤ i
  pub to : i < share_at f (suc k)

record InPiece (l : List ℕ) (i n : ℕ) : Type 0 where
  k : ℕ
  one : k < n
  from : up_to l k ≤ i
  to : i < up_to l (suc k)

in_piece : (l : List ℕ) (n i : ℕ) → i < up_to l n → InPiece l i n
unfolding up_to
in_piece l zero i h = absurd (omega arith)
in_piece [] (suc n) i h = absurd (omega arith)
in_piece (x ∷ l) (suc n) i h = go (dec_lt i x) (λ g. in_piece l n (i - x) g)
  where
    go : Dec (i < x) → (i - x < up_to l n → InPiece l (i - x) n) → InPiece (x ∷ l) i (suc n)
    go (yes g) later = record { k = 0; one = omega arith; from = omega arith; to = omega arith }
    go (no g) later =
        let rest = later (omega arith) in
        record { k = suc rest.k; one = omega (arith, rest.one); from = omega (arith, rest.from); to = omega (arith, rest.to) }

shares_all : (f : Family) → share_at f (ages f) ≡ record_bits f
unfolding table shares share_at up_to
shares_all CED = refl
shares_all Timing = refl

pub in_some_share : (f : Family) (i : ℕ) → i < record_bits f → InShare f i
unfolding share_at
in_some_share f i h =
    let p = in_piece (shares f) (ages f) i (omega (arith, shares_all f)) in
    record { k = p.k; one = p.one; from = p.from; to = p.to }
