-- What comes back of a record whose data was lent to the move of bits, with the age and the count behind it.
use mathlib.Core.Path.{◌≡◌}
use mathlib.Core.Bool.{Bool, cond}
use mathlib.Core.List.{List, ◌++◌}
use Prim.Native.Nat.{ℕ, ◌+◌}
use lib.ListN.{take, drop, set}
use Rattle.paper.specs.Bits.{moved, changed}
use Rattle.paper.specs.Record.{Family, ages_at, data_at, data_bytes, with_count}
use Rattle.paper.specs.Word.{owns, written}
use Rattle.paper.proofs.Parts.{part_back}

-- the record once the age is 0, and the count too if something changed
abbrev settled : Bool → ℕ → List ℕ → List ℕ
settled hit age rec = cond hit (with_count 0 (set rec (ages_at + age) 0)) (set rec (ages_at + age) 0)

pub written_back : (f : Family) (to from n age a e : ℕ) (word rec y : List ℕ) (hit : Bool) → a ≡ data_at f → e ≡ data_bytes f
    → y ≡ moved (take e (drop a rec)) to word from n → hit ≡ changed (take e (drop a rec)) to word from n
    → settled hit age (take a rec ++ (y ++ drop e (drop a rec))) ≡ written f (owns to from n age) word rec
unfolding written
written_back f to from n age a e word rec y hit ea ee ey eh =
    let back = part_back (λ (x : List ℕ). moved x to word from n) a (data_bytes f) e rec y ee ey in
    rw (back, eh, ee, ea)
