-- The data comes back from the move of bits as a changed slice of the record; then the age, and the count by the flag.
use native.Mathlib.Omega.{arith}
use mathlib.Core.Path.{◌≡◌, ◌∙◌}
use Prim.Native.Nat.{◌-◌}
use lib.ListN.{length}
use Rattle.paper.specs.Record.{family_if, data_bytes}
use Rattle.word.proofs.Written.{written_back}
use Rattle.word.proofs.write_bits.Goals as goal

pub returns : goal.returns
returns c =
    let f = family_if c.args.timing in
    let d = c.data_at-start in
    let m = c.move_bits-changed.ensures in
    let e : length c.args.bytes.now - d.result ≡ data_bytes f = omega (arith, d.ensures, c.requires) in
    c.clear_count_if.ensures ∙ written_back f _ _ _ _ _ _ _ _ _ _ d.ensures e m.0 m.1
