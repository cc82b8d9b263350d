-- The table of words: each line's two ranges are of one length and lie in the record's bits and in the word's, and the lines of a
-- family cover its record. So what a word owns lies in bounds. Assumes nothing.
use mathlib.Core.Bool.{Bool, true, false, cond, ◌&&◌, ◌||◌, not, false≢true}
use mathlib.Core.List.{List, [], ◌∷◌}
use mathlib.Core.Path.{◌≡◌, refl}
use Prim.Native.Nat.{ℕ, ◌+◌, ◌-◌}
use native.Mathlib.Omega.{arith}
use lib.Dec.{eqb, leb, ltb}
use borrow.Author.Tests.{ltb-true, leb-true, eqb-true}
use Rattle.paper.specs.Record.{Family, CED, Timing, same_family, record_bits, ages}
use Rattle.paper.specs.Word.{Line, table, agrees, all_agree, covers, Owned, owns, InBounds, owned_in, owned, word_bits}
use Rattle.paper.proofs.StoreFacts.{both_true}

pub table_agrees : all_agree table ≡ true
unfolding all_agree agrees table
table_agrees = refl

pub table_covers : (f : Family) → covers f 0 table ≡ true
unfolding covers table
table_covers CED = refl
table_covers Timing = refl

-- what the test of a line says
line_bounds : (l : Line) → agrees l ≡ true
    → InBounds l.family (owns l.record_from l.word_from (l.record_to - l.record_from) l.age)
unfolding agrees
line_bounds l e =
    let long = eqb (l.record_from + (l.word_to - l.word_from)) l.record_to in
    let up = leb l.word_from l.word_to in
    let in_record = leb l.record_to (record_bits l.family) in
    let in_word = leb l.word_to word_bits in
    let a = both_true (long && up && in_record && in_word) (ltb l.age (ages l.family)) e in
    let b = both_true (long && up && in_record) in_word a.0 in
    let c = both_true (long && up) in_record b.0 in
    let d = both_true long up c.0 in
    let h = eqb-true (l.record_from + (l.word_to - l.word_from)) l.record_to d.0 in
    let u = leb-true l.word_from l.word_to d.1 in
    let r = leb-true l.record_to (record_bits l.family) c.1 in
    let w = leb-true l.word_to word_bits b.1 in
    (omega arith, omega arith, ltb-true l.age (ages l.family) a.1)

same_family_lem : (f g : Family) → same_family f g ≡ true → f ≡ g
same_family_lem CED CED e = refl
same_family_lem CED Timing e = absurd (false≢true e)
same_family_lem Timing CED e = absurd (false≢true e)
same_family_lem Timing Timing e = refl

in_bounds : (ls : List Line) → all_agree ls ≡ true → (f : Family) (k band : ℕ) → InBounds f (owned_in ls f k band)
unfolding all_agree owned_in
in_bounds [] e f k band = tt
in_bounds (l ∷ ls) e f k band =
    let two = both_true (agrees l) (all_agree ls) e in
    go two.0 (in_bounds ls two.1 f k band) (this && type && on_band) refl
  where
    this : Bool
    this = same_family l.family f

    type : Bool
    type = eqb l.type k

    on_band : Bool
    on_band = not l.only_e1_b || eqb band 0

    here : Owned
    here = owns l.record_from l.word_from (l.record_to - l.record_from) l.age

    go : agrees l ≡ true → InBounds f (owned_in ls f k band) → (b : Bool) → this && type && on_band ≡ b
        → InBounds f (cond b here (owned_in ls f k band))
    go right rest true h =
        let a = both_true (this && type) on_band h in
        let c = both_true this type a.0 in
        rw (same_family_lem l.family f c.0) at (line_bounds l right)
    go right rest false h = rest

-- what a word owns lies in bounds
pub owned_in_bounds : (f : Family) (k band : ℕ) → InBounds f (owned f k band)
owned_in_bounds f k band = in_bounds table table_agrees f k band
