-- A record that a store may hold is one still after each change that a call makes to it. Assumes nothing.
use mathlib.Core.Bool.{Bool, true, false, cond}
use mathlib.Core.List.{List}
use mathlib.Core.Logic.{◌≢◌}
use mathlib.Core.Path.{◌≡◌, refl, sym, ap, ◌∙◌}
use Prim.Native.Nat.{ℕ, ◌-◌, ◌%◌, ◌≤◌}
use native.Mathlib.Omega.{arith}
use borrow.Author.Tests.{ne_eqb}
use lib.ListN.{length, get_or, replicate}
use Rattle.paper.specs.Bits.{moved, changed}
use Rattle.paper.specs.Record.{last_weight, Family, CED, Timing, data_bytes, size, data_at, satellite, count, data_of, with_count, aged, blank_record}
use Rattle.paper.specs.Word.{Owned, nothing, owns, owned, type_of, takeover, written, fed_record, InBounds}
use Rattle.paper.specs.Tag.{matches, credited}
use Rattle.paper.proofs.Bits.{last_kept}
use Rattle.paper.proofs.Parts.{length_part}
use Rattle.paper.proofs.Lengths.{keeps_takeover}
use Rattle.paper.proofs.RecordViews.{last_byte, same_last, with_count_satellite, with_count_count, with_count_data, aged_satellite, aged_count, aged_data, takeover_satellite, takeover_data}
use Rattle.paper.proofs.RecordViews.{written_satellite, written_count, written_data, credited_satellite, credited_data, credited_count, blank_satellite, blank_count, blank_data}
use Rattle.paper.proofs.StoreFacts.{RecordFacts}
use Rattle.paper.proofs.WordTable.{owned_in_bounds}
use Rattle.paper.proofs.Views.{bits_and_bytes}

-- same satellite, no count where there was none, and the bits past the data as they were
pub record_stays : (f : Family) (most : ℕ) (x y : List ℕ) → satellite y ≡ satellite x → (count x ≡ 0 → count y ≡ 0)
    → get_or y (size f - 1) 0 % last_weight ≡ get_or x (size f - 1) 0 % last_weight → RecordFacts f most x → RecordFacts f most y
record_stays f most x y s c b R =
    record { known = rw s R.known; none = λ z. c (R.none (sym s ∙ z)); clear = b ∙ R.clear }

-- where the data stay, so do the bits past them
same_end : (f : Family) (x y : List ℕ) → data_of f y ≡ data_of f x → get_or y (size f - 1) 0 % last_weight ≡ get_or x (size f - 1) 0 % last_weight
same_end f x y e = ap (λ (n : ℕ). n % last_weight) (same_last f y x e)

-- a row may hold more satellites
pub record_more : (f : Family) (most more : ℕ) (rec : List ℕ) → most ≤ more → RecordFacts f most rec → RecordFacts f more rec
record_more f most more rec h R = record { known = omega (arith, R.known); none = R.none; clear = R.clear }

pub blank_record_lem : (f : Family) (most : ℕ) → RecordFacts f most (blank_record f)
blank_record_lem f most =
    record {
      known = rw (blank_satellite f) (omega arith);
      none = λ z. blank_count f;
      clear = ap (λ (n : ℕ). n % last_weight) (last_byte f (blank_record f) ∙ ap (λ (d : List ℕ). get_or d (data_bytes f - 1) 0) (blank_data f)) ∙ zero_end f;
    }
  where
    zero_end : (f : Family) → get_or (replicate (data_bytes f) 0) (data_bytes f - 1) 0 % last_weight ≡ 0
    zero_end CED = refl
    zero_end Timing = refl

pub aged_stays : (f : Family) (by most : ℕ) (rec : List ℕ) → length rec ≡ size f → RecordFacts f most rec → RecordFacts f most (aged f by rec)
aged_stays f by most rec l R =
    record_stays f most rec (aged f by rec) (aged_satellite f by rec l) (λ z. aged_count f by rec l ∙ z)
    (same_end f rec (aged f by rec) (aged_data f by rec l))
    R

pub uncounted_stays : (f : Family) (most : ℕ) (rec : List ℕ) → length rec ≡ size f → RecordFacts f most rec → RecordFacts f most (with_count 0 rec)
uncounted_stays f most rec l R =
    record_stays f most rec (with_count 0 rec) (with_count_satellite 0 rec) (λ z. with_count_count 0 rec (omega arith))
    (same_end f rec (with_count 0 rec) (with_count_data 0 rec f))
    R

-- a satellite 1 to 36 is taken
pub taken_stays : (f : Family) (most sat : ℕ) (rec : List ℕ) → length rec ≡ size f → 1 ≤ sat → sat ≤ most → RecordFacts f most rec → RecordFacts f most (takeover f sat rec)
taken_stays f most sat rec l one known R =
    record {
      known = rw (takeover_satellite f sat rec l) known;
      none = λ z. absurd (omega (arith, one, sym (takeover_satellite f sat rec l) ∙ z));
      clear = same_end f rec (takeover f sat rec) (takeover_data f sat rec l) ∙ R.clear;
    }

-- what a word owns lies within the record's bits
pub written_stays : (f : Family) (most : ℕ) (o : Owned) (word rec : List ℕ) → length rec ≡ size f → InBounds f o → RecordFacts f most rec → RecordFacts f most (written f o word rec)
unfolding written
written_stays f most nothing word rec l h R = R
written_stays f most (owns to from n age) word rec l h R =
    record_stays f most rec (written f (owns to from n age) word rec) (written_satellite f to from n age word rec l)
    (λ z. written_count f to from n age word rec l ∙ zero_still (changed (data_of f rec) to word from n) z)
    (ap (λ (k : ℕ). k % last_weight) (last_byte f (written f (owns to from n age) word rec))
    ∙ ap (λ (d : List ℕ). get_or d (data_bytes f - 1) 0 % last_weight) (written_data f to from n age word rec l h.2)
    ∙ end
    ∙ ap (λ (k : ℕ). k % last_weight) (sym (last_byte f rec)))
    R
  where
    zero_still : (b : Bool) → count rec ≡ 0 → cond b 0 (count rec) ≡ 0
    zero_still true z = refl
    zero_still false z = z

    length_data : length (data_of f rec) ≡ data_bytes f
    length_data = length_part (data_at f) (data_bytes f) rec (omega arith)

    some : (f : Family) → 1 ≤ data_bytes f
    some CED = omega arith
    some Timing = omega arith

    end : get_or (moved (data_of f rec) to word from n) (data_bytes f - 1) 0 % last_weight ≡ get_or (data_of f rec) (data_bytes f - 1) 0 % last_weight
    end = rw length_data at (last_kept (data_of f rec) to word from n (omega (arith, length_data, some f)) (omega (arith, length_data, bits_and_bytes f, h.0)))

pub fed_record_stays : (f : Family) (most sat band : ℕ) (word rec : List ℕ) → length rec ≡ size f → 1 ≤ sat → sat ≤ most
    → RecordFacts f most rec → RecordFacts f most (fed_record f sat band word rec)
unfolding fed_record
fed_record_stays f most sat band word rec l one known R =
    written_stays f most (owned f (type_of word) band) word (takeover f sat rec) (keeps_takeover f sat rec l) (owned_in_bounds f (type_of word) band)
    (taken_stays f most sat rec l one known R)

unmatched : (f : Family) (sat : ℕ) (bits rec : List ℕ) → satellite rec ≢ sat → matches f sat bits rec ≡ false
unfolding matches
unmatched f sat bits rec e = rw (ne_eqb (satellite rec) sat e)

-- a tag is counted where the satellite is the candidate's, so never where there is none
pub credited_stays : (f : Family) (most sat : ℕ) (bits : List ℕ) (l : ℕ) (rec : List ℕ) → length rec ≡ size f → 1 ≤ sat
    → RecordFacts f most rec → RecordFacts f most (credited f sat bits l rec)
credited_stays f most sat bits l rec h one R =
    record {
      known = rw (credited_satellite f sat bits l rec) R.known;
      none = λ z.
          let free : satellite rec ≡ 0 = sym (credited_satellite f sat bits l rec) ∙ z in
          credited_count f sat bits l rec (omega arith) ∙ rw (no_match free) (R.none free);
      clear = same_end f rec (credited f sat bits l rec) (credited_data f sat bits l rec) ∙ R.clear;
    }
  where
    no_match : satellite rec ≡ 0 → matches f sat bits rec ≡ false
    no_match z = unmatched f sat bits rec (λ e. omega (arith, one, sym e ∙ z))
