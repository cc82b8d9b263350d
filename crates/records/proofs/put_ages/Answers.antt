-- `records::put_ages` meets its contract: the lent slice comes back as the ages.
use native.Mathlib.Omega.{arith}
use Prim.Native.Nat.{◌+◌, ◌-◌}
use Rattle.paper.specs.Record.{ages_at}
use Rattle.paper.proofs.Parts.{part_back}
use Rattle.records.proofs.put_ages.Goals as goal

pub returns : goal.returns
returns g c = part_back _ ages_at g.row.N (3 + g.row.N - 3) _ _ (omega arith) c.copy_from_slice.ensures.after
