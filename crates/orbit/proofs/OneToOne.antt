-- What reading numbers came to is known by the paper's number and values, and by the place or the numbers: no two outcomes have the same.
-- Assumes nothing.
use native.Mathlib.Omega.{arith}
use mathlib.Core.List.{[]}
use mathlib.Core.Path.{◌≡◌, ap, ◌∙◌}
use Prim.Native.Nat.{ℕ}
use Rattle.std.specs.Prelude.{Result, Ok, Err}
use Rattle.refusals.specs.Reply.{refusal_number}
use Rattle.refusals.specs.declared.Refusal.{Refusal}
use Rattle.refusals.proofs.Answers.{same_refusal}
use Rattle.ask.specs.declared.Answering.{Answering}
use Rattle.ask.proofs.OneToOne.{answered_one}
use Rattle.orbit.specs.declared.Orbit.{Orbit}
use Rattle.orbit.specs.declared.TimingNumbers.{TimingNumbers}
use Rattle.orbit.specs.declared.Got.{Got}
use Rattle.orbit.specs.Numbers.{orbit_from, timing_from}
use Rattle.orbit.specs.Got.{placed_answer, place_placed, got_answer, numbers_or, got_orbit, got_timing_answer, got_timing}

pub placed_one : (r r' : Result Answering Refusal) → placed_answer r ≡ placed_answer r' → place_placed r ≡ place_placed r' → r ≡ r'
placed_one = answered_one

-- what was read put together again
remade : {T : Type 0} → ℕ → ℕ → ℕ → T → Result (Got T) Refusal
remade n w t x = Ok (record { authbits = n; gst = record { wn = record { 0 = w }; tow = record { 0 = t } }; numbers = x })

-- whatever the numbers are, and whatever stands for them beside a refusal
got_one :
    {T : Type 0} (none : T) (r r' : Result (Got T) Refusal)
    → got_answer r ≡ got_answer r' → numbers_or none r ≡ numbers_or none r' → r ≡ r'
unfolding remade
got_one none (Ok x) (Ok y) e p =
    let counts : x.authbits ≡ y.authbits = cc in
    let weeks : x.gst.wn.0 ≡ y.gst.wn.0 = cc in
    let times : x.gst.tow.0 ≡ y.gst.tow.0 = cc in
    ap (λ (i : ℕ). remade i x.gst.wn.0 x.gst.tow.0 x.numbers) counts
    ∙ ap (λ (w : ℕ). remade y.authbits w x.gst.tow.0 x.numbers) weeks
    ∙ ap (λ (t : ℕ). remade y.authbits y.gst.wn.0 t x.numbers) times
    ∙ ap (remade y.authbits y.gst.wn.0 y.gst.tow.0) p
got_one none (Ok x) (Err w) e p = absurd (let z : ◌≡◌ {A = ℕ} 0 1 = cc in omega arith)
got_one none (Err v) (Ok y) e p = absurd (let z : ◌≡◌ {A = ℕ} 0 1 = cc in omega arith)
got_one none (Err v) (Err w) e p = let n : refusal_number v ≡ refusal_number w = cc in ap Err (same_refusal v w n)

pub orbit_one : (r r' : Result (Got Orbit) Refusal) → got_answer r ≡ got_answer r' → got_orbit r ≡ got_orbit r' → r ≡ r'
orbit_one = got_one (orbit_from [])

pub timing_one :
    (r r' : Result (Got TimingNumbers) Refusal) → got_timing_answer r ≡ got_timing_answer r' → got_timing r ≡ got_timing r' → r ≡ r'
timing_one = got_one (timing_from [])
