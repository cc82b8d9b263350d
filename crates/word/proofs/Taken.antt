-- A record taken by a satellite: as it was but for the satellite, or with count 0 and the oldest ages if it held another.
use mathlib.Core.Path.{◌≡◌, sym, ◌∙◌}
use mathlib.Core.Bool.{Bool, true, false, cond, ◌||◌}
use mathlib.Core.List.{List}
use Prim.Native.Nat.{ℕ}
use borrow.Author.Tests.{not-true, not-false}
use lib.ListN.{set}
use lib.Dec.{eqb}
use Rattle.paper.specs.Record.{Family, satellite_at, satellite, with_count, never_there}
use Rattle.paper.specs.Word.{takeover}
use Rattle.word.specs.Holder.{held_another}

-- r says whether the record held another satellite, and m is what it is before its ages are looked at
module _ (f : Family) (sat : ℕ) (rec m : List ℕ) (r : Bool) (another : r ≡ held_another sat rec)
    (took : m ≡ cond r (with_count 0 (set rec satellite_at sat)) (set rec satellite_at sat)) where
  pub taken_kept : r ≡ false → m ≡ takeover f sat rec
  unfolding takeover
  taken_kept e =
      let h : (eqb (satellite rec) sat || eqb (satellite rec) 0) ≡ true = not-false _ (sym another ∙ e) in
      took ∙ rw (e, h)

  pub taken_over_lem : r ≡ true → never_there f m ≡ takeover f sat rec
  unfolding takeover
  taken_over_lem e =
      let h : (eqb (satellite rec) sat || eqb (satellite rec) 0) ≡ false = not-true _ (sym another ∙ e) in
      rw (took, e, h)
