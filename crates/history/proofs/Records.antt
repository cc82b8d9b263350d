-- A word leaves a record its count where the record keeps its satellite and its bits, and no count where it does not. Assumes nothing.
use mathlib.Core.Bool.{Bool, true, false, cond, not, ◌&&◌, ◌||◌}
use mathlib.Core.List.{List}
use mathlib.Core.Path.{◌≡◌, refl, sym, ◌∙◌}
use Prim.Native.Nat.{ℕ}
use native.Mathlib.Omega.{arith}
use lib.Dec.{eqb}
use borrow.Author.Tests.{eqb-true, eqb-false, eq-eqb, ne_eqb}
use lib.ListN.{length}
use Rattle.paper.specs.Bits.{changed}
use Rattle.paper.specs.Record.{Family, size, data_at, data_bytes, satellite, count, data_of, same_bits}
use Rattle.paper.specs.Word.{Owned, nothing, owns, owned, type_of, takeover, written, fed_record, InBounds}
use Rattle.paper.proofs.Parts.{length_part}
use Rattle.paper.proofs.Lengths.{keeps_takeover}
use Rattle.paper.proofs.RecordViews.{held_or_free, takeover_satellite, takeover_count, takeover_data, written_satellite, written_count, written_data}
use Rattle.history.specs.Line.{same}
use Rattle.paper.proofs.Same.{true_bits}
use Rattle.history.proofs.Agree.{true_same, moved_bits}
use Rattle.paper.proofs.WordTable.{owned_in_bounds}

-- the record x became y: its count stays where its satellite and its bits do, and is 0 where not
abbrev pub Kept : Family → List ℕ → List ℕ → Type 0
Kept f x y = count y ≡ cond (same f y x) (count x) 0

-- two records with the same satellite, count and data
pub record Alike (f : Family) (x y : List ℕ) : Type 0 where
  pub satellites : satellite y ≡ satellite x
  pub counts : count y ≡ count x
  pub datas : data_of f y ≡ data_of f x

pub alike_kept : (f : Family) (x y : List ℕ) → Alike f x y → Kept f x y
alike_kept f x y a = rw (true_same f y x a.satellites a.datas) a.counts

pub kept_from : (f : Family) (x z y : List ℕ) → Alike f x z → Kept f z y → Kept f x y
unfolding same
kept_from f x z y a k = rw (a.satellites, a.datas, a.counts) at k

-- ---- a word written
module _ (f : Family) (word rec : List ℕ) (l : length rec ≡ size f) where
  pub written_same : (o : Owned) → satellite (written f o word rec) ≡ satellite rec
  unfolding written
  written_same nothing = refl
  written_same (owns to from n age) = written_satellite f to from n age word rec l

  nothing_kept : count (written f nothing word rec) ≡ cond (same_bits f (data_of f (written f nothing word rec)) (data_of f rec)) (count rec) 0
  unfolding written
  nothing_kept = rw (true_bits f (data_of f rec) (data_of f rec) refl)

  written_kept : (o : Owned) → InBounds f o
      → count (written f o word rec) ≡ cond (same_bits f (data_of f (written f o word rec)) (data_of f rec)) (count rec) 0
  written_kept nothing h = nothing_kept
  written_kept (owns to from n age) h =
      written_count f to from n age word rec l
      ∙ rw (
        written_data f to from n age word rec l h.2,
        moved_bits f (data_of f rec) to word from n (length_part (data_at f) (data_bytes f) rec (omega arith)) h.0,
      )
      (either (changed (data_of f rec) to word from n))
    where
      either : (b : Bool) → cond b 0 (count rec) ≡ cond (not b) (count rec) 0
      either true = refl
      either false = refl

-- ---- a word fed: the satellite taken, and what the word owns written
module _ (f : Family) (sat band : ℕ) (word rec : List ℕ) (l : length rec ≡ size f) (free : satellite rec ≡ 0 → count rec ≡ 0) where
  abbrev fed_one : List ℕ
  fed_one = written f (owned f (type_of word) band) word (takeover f sat rec)

  long : length (takeover f sat rec) ≡ size f
  long = keeps_takeover f sat rec l

  fed_satellite : satellite fed_one ≡ sat
  fed_satellite = written_same f word (takeover f sat rec) long (owned f (type_of word) band) ∙ takeover_satellite f sat rec l

  fed_count : count fed_one ≡ cond (same_bits f (data_of f fed_one) (data_of f rec)) (cond (held_or_free sat rec) (count rec) 0) 0
  fed_count =
      written_kept f word (takeover f sat rec) long (owned f (type_of word) band) (owned_in_bounds f (type_of word) band)
      ∙ rw (takeover_data f sat rec l, takeover_count f sat rec l)

  -- a record with no satellite has no count to keep
  taken_over_lem : (bits : Bool)
      → cond bits (cond (held_or_free sat rec) (count rec) 0) 0 ≡ cond (eqb sat (satellite rec) && bits) (count rec) 0
  taken_over_lem bits = go bits (eqb (satellite rec) sat) refl
    where
      other : (bits free : Bool) → (free ≡ true → count rec ≡ 0) → cond bits (cond free (count rec) 0) 0 ≡ 0
      other true true c = c refl
      other true false c = refl
      other false b c = refl

      go : (bits b : Bool) → eqb (satellite rec) sat ≡ b
          → cond bits (cond (b || eqb (satellite rec) 0) (count rec) 0) 0 ≡ cond (eqb sat (satellite rec) && bits) (count rec) 0
      go bits true e = rw (eq-eqb sat (satellite rec) (sym (eqb-true (satellite rec) sat e)))
      go bits false e =
          rw (ne_eqb sat (satellite rec) (λ q. eqb-false (satellite rec) sat e (sym q)))
          (other bits (eqb (satellite rec) 0) (λ z. free (eqb-true (satellite rec) 0 z)))

  pub fed_kept : Kept f rec (fed_record f sat band word rec)
  unfolding fed_record same
  fed_kept = fed_count ∙ rw fed_satellite (taken_over_lem (same_bits f (data_of f fed_one) (data_of f rec)))
