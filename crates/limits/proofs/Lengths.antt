-- The last length by what it is not (docs/TRACE.md, 11.1: the check finds `length_allowed` without it). Assumes nothing.
use mathlib.Core.Path.{◌≡◌}
use Prim.Native.Nat.{ℕ}
use borrow.Author.Tests.{ne_eqb}
use lib.Dec.{eqb}
use Rattle.paper.specs.Tag.{length_allowed}

pub no_other_length : (l : ℕ) → (l ≡ 20 → ⊥) → (l ≡ 24 → ⊥) → (l ≡ 28 → ⊥) → (l ≡ 32 → ⊥) → eqb l 40 ≡ length_allowed l
unfolding length_allowed
no_other_length l a b c d = rw (ne_eqb l 20 a, ne_eqb l 24 b, ne_eqb l 28 c, ne_eqb l 32 d)
