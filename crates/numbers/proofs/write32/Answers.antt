-- `write32`: the bytes of the two halves are the four of the number.
use native.Mathlib.Omega.{arith}
use mathlib.Core.Path.{◌≡◌}
use Prim.Native.Nat.{suc, ◌+◌, ◌-◌, ◌/◌, ◌%◌}
use Rattle.paper.specs.Big.{put16, put32}
use Rattle.numbers.proofs.Four.{four_set}
use Rattle.numbers.proofs.write32.Goals as goal

pub returns : goal.returns
unfolding put32 put16
returns c =
    let s = c.args.s.now in
    let at = c.args.at in
    let x = c.args.x in
    let a : x / 16777216 % 256 ≡ x / 65536 / 256 = omega arith in
    let b : x / 256 % 256 ≡ x % 65536 / 256 = omega arith in
    let d : x % 256 ≡ x % 65536 % 256 = omega arith in
    let four : at + 4 - at ≡ 4 = omega arith in
    let p : at + 1 ≡ suc at = omega arith in
    let q : at + 2 ≡ suc (suc at) = omega arith in
    let r : at + 2 + 1 ≡ suc (suc (suc at)) = omega arith in
    rw (four, c.copy_from_slice.ensures.after, c.to_be_bytes.ensures, ← a, ← b, ← d, r, q, p) (four_set s at _ _ _ _ (omega arith))
