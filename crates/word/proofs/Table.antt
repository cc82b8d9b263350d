-- The types and bands that the table of words leaves out.
use mathlib.Core.List.{List}
use mathlib.Core.Path.{◌≡◌, refl, sym}
use mathlib.Core.Logic.{◌≢◌}
use mathlib.Core.Bool.{and-false}
use Prim.Native.Nat.{ℕ}
use lib.Dec.{eqb}
use borrow.Author.Tests.{ne_eqb}
use Rattle.paper.specs.Record.{CED, Timing}
use Rattle.paper.specs.Word.{nothing, table, owned_in, owned, fed_record}

pub no_ced : (k band : ℕ) → k ≢ 1 → k ≢ 2 → k ≢ 3 → k ≢ 4 → k ≢ 5 → nothing ≡ owned CED k band
unfolding table owned_in
no_ced k band a b c d e =
    rw (
      ne_eqb 1 k (λ h. a (sym h)),
      ne_eqb 2 k (λ h. b (sym h)),
      ne_eqb 3 k (λ h. c (sym h)),
      ne_eqb 4 k (λ h. d (sym h)),
      ne_eqb 5 k (λ h. e (sym h)),
    )

pub no_timing : (k : ℕ) → k ≢ 6 → k ≢ 10 → nothing ≡ owned Timing k 0
unfolding table owned_in
no_timing k a b = rw (ne_eqb 6 k (λ h. a (sym h)), ne_eqb 10 k (λ h. b (sym h)))

-- "E1B only"
pub no_timing_on : (k band : ℕ) → band ≢ 0 → nothing ≡ owned Timing k band
unfolding table owned_in
no_timing_on k band a = rw (ne_eqb band 0 a, and-false (eqb 6 k), and-false (eqb 10 k))

-- a CED record takes a word alike on either band
pub ced_on_any_band : (sat band other : ℕ) (word rec : List ℕ) → fed_record CED sat band word rec ≡ fed_record CED sat other word rec
unfolding fed_record table owned_in
ced_on_any_band sat band other word rec = refl
