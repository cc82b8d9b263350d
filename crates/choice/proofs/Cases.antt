-- The choice in plain sight (`three_cases_lem`, at the end): the slot of the greatest key, the last of equals, is the last of this satellite's records
-- if there is one, else the last without a satellite if there is one, else the last of those whose greatest age is greatest. It is said of bytes:
-- an age is 255 at most, and so below the key of a record without a satellite (`unclaimed_key`).
use native.Mathlib.Omega.{arith}
use mathlib.Core.Path.{◌≡◌, refl, ap, ◌∙◌}
use mathlib.Core.Logic.{◌≢◌}
use mathlib.Core.List.{List}
use Prim.Native.Nat.{ℕ, ◌≤◌, ◌<◌}
use borrow.Author.Tests.{eqb-true, eqb-false}
use Rattle.paper.specs.Parts.{Bytes}
use Rattle.paper.specs.Record.{Family, satellite}
use Rattle.paper.specs.Room.{record_of}
use Rattle.paper.specs.Feed.{unclaimed_key, own_key, chosen}
use Rattle.choice.specs.Cases.{has_satellite, slot_age, has_age, oldest_age, last_own, last_unclaimed, last_oldest, or_else, three_cases}
use Rattle.std.specs.Prelude.{Option, Some, None}
use Rattle.choice.proofs.Search.{last_none}
use Rattle.choice.proofs.Oldest.{none_older, oldest_there}
use Rattle.choice.proofs.Keys.{last_is_greatest, key_same, key_none, key_age, key_other, age_below, keys_of}

-- ---- each case has the greatest keys that are left
module _ (f : Family) (sat n : ℕ) (row : List ℕ) (b : Bytes row) where
  is_own : (i : ℕ) → last_own f sat n row ≡ Some i → chosen f sat n row ≡ i
  unfolding chosen
  is_own i e =
      (last_is_greatest (has_satellite f sat row) (keys_of f sat row) own_key n
      (λ j _ t. key_same f sat (record_of f j row) (eqb-true _ _ t))
      (λ j _ t. key_other f sat j row b (eqb-false _ _ t))
      n i (omega arith) e).0

  others : last_own f sat n row ≡ None → (i : ℕ) → i < n → satellite (record_of f i row) ≢ sat
  others o i g = eqb-false _ _ (last_none _ n o i g)

  is_unclaimed : (i : ℕ) → last_own f sat n row ≡ None → last_unclaimed f n row ≡ Some i → chosen f sat n row ≡ i
  unfolding chosen
  is_unclaimed i o e =
      (last_is_greatest (has_satellite f 0 row) (keys_of f sat row) unclaimed_key n
      (λ j g t. key_none f sat (record_of f j row) (others o j g) (eqb-true _ _ t))
      (λ j g t. rw (key_age f sat (record_of f j row) (others o j g) (eqb-false _ _ t)) (age_below f j row b))
      n i (omega arith) e).0

  claimed : last_unclaimed f n row ≡ None → (i : ℕ) → i < n → satellite (record_of f i row) ≢ 0
  claimed u i g = eqb-false _ _ (last_none _ n u i g)

  is_oldest : (i : ℕ) → last_own f sat n row ≡ None → last_unclaimed f n row ≡ None → last_oldest f n row ≡ Some i → chosen f sat n row ≡ i
  unfolding chosen
  is_oldest i o u e =
      let aged : (j : ℕ) → j < n → keys_of f sat row j ≡ slot_age f row j = λ j g. key_age f sat (record_of f j row) (others o j g) (claimed u j g) in
      (last_is_greatest (has_age f (oldest_age f n row) row) (keys_of f sat row) (oldest_age f n row) n
      (λ j g t. aged j g ∙ eqb-true _ _ t)
      (λ j g t. rw (aged j g) (omega (arith, none_older f row n j g, eqb-false (slot_age f row j) (oldest_age f n row) t)))
      n i (omega arith) e).0

-- ---- the theorem
pub three_cases_lem : (f : Family) (sat n : ℕ) (row : List ℕ) → Bytes row → 1 ≤ n → Some (chosen f sat n row) ≡ three_cases f sat n row
unfolding three_cases
three_cases_lem f sat n row b h = first (last_own f sat n row) refl
  where
    third : (s : Option ℕ) → last_oldest f n row ≡ s → last_own f sat n row ≡ None → last_unclaimed f n row ≡ None → Some (chosen f sat n row) ≡ s
    third (Some i) e o u = ap Some (is_oldest f sat n row b i o u e)
    third None e o u = absurd (oldest_there f row n h e)

    second : (s : Option ℕ) → last_unclaimed f n row ≡ s → last_own f sat n row ≡ None → Some (chosen f sat n row) ≡ or_else s (last_oldest f n row)
    second (Some i) e o = ap Some (is_unclaimed f sat n row b i o e)
    second None e o = third (last_oldest f n row) refl o e

    first : (s : Option ℕ) → last_own f sat n row ≡ s → Some (chosen f sat n row) ≡ or_else s (or_else (last_unclaimed f n row) (last_oldest f n row))
    first (Some i) e = ap Some (is_own f sat n row b i e)
    first None e = second (last_unclaimed f n row) refl e
