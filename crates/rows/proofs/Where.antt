-- Where rows lie: one behind the other, and a row that is lent. Assumes nothing.
use native.Mathlib.Omega.{arith}
use native.Mathlib.Nat.{suc-mul}
use mathlib.Core.Path.{◌≡◌, ◌∙◌}
use mathlib.Core.List.{List}
use lib.ListN.{length, take, drop}
use Prim.Native.Nat.{ℕ, suc, ◌+◌, ◌-◌, ◌≤◌, ◌<◌}
use Rattle.paper.specs.Room.{row_size, depth, slots, row_at, row_of}
use Rattle.paper.proofs.Parts.{part_lent}
use Rattle.paper.specs.Store.{InRange}
use Rattle.paper.proofs.Views.{row_inside}

-- the row behind row r
pub row_next : (n r : ℕ) → row_at n (r + 1) ≡ row_at n r + row_size n
row_next n r = let e : r + 1 ≡ suc r = omega arith in rw e (omega (arith, suc-mul r (row_size n)))

-- a row that is lent as `room[at..at + size]` lies within the room, and is the paper's row
module _ (room : List ℕ) (n r at size : ℕ) (en : n ≡ slots room) (ea : at ≡ row_at n r) (es : size ≡ row_size n) where
  pub row_lent : take (at + size - at) (drop at room) ≡ row_of r room
  row_lent = part_lent at size room ∙ rw (ea, es, en)
