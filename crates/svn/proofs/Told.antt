-- What an answer tells the caller of `svn`, arm by arm of a match on it.
use native.Mathlib.Omega.{arith}
use mathlib.Core.Path.{◌≡◌, refl}
use mathlib.Core.Bool.{Bool, true, false, cond}
use mathlib.Core.List.{[], ◌∷◌}
use Prim.Native.Nat.{ℕ}
use Rattle.paper.specs.Number.{done, refused}
use Rattle.paper.specs.Satellite.{is_satellite, satellite_of}
use Rattle.svn.specs.Answer.{satellite_answer}
use Rattle.svn.specs.declared.Svn.{Svn}
use Rattle.std.specs.Prelude.{Result, Ok, Err}
use Rattle.refusals.specs.declared.Refusal.TheVariants.{NoSatellite}

-- a satellite: the number is one, and it is this
pub told_satellite : (n : ℕ) (s : Svn) → satellite_answer (Ok s) ≡ satellite_of n → (is_satellite n ≡ true) × (s.0 ≡ n)
unfolding satellite_of
told_satellite n s e = go (is_satellite n) e
  where
    go : (b : Bool) → satellite_answer (Ok s) ≡ cond b (done (n ∷ [])) (refused 4) → (b ≡ true) × (s.0 ≡ n)
    go true h = (refl, cc)
    go false h = absurd (let z : ◌≡◌ {A = ℕ} 0 1 = cc in omega arith)

-- none: the number is none
pub told_no_satellite : (n : ℕ) → satellite_answer (Err NoSatellite) ≡ satellite_of n → is_satellite n ≡ false
unfolding satellite_of
told_no_satellite n e = go (is_satellite n) e
  where
    go : (b : Bool) → satellite_answer (Err NoSatellite) ≡ cond b (done (n ∷ [])) (refused 4) → b ≡ false
    go true h = absurd (let z : ◌≡◌ {A = ℕ} 0 1 = cc in omega arith)
    go false h = refl
