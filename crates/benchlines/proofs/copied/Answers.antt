-- `copied`: each length is that of the data, which is put to the start whole.
use native.Mathlib.Omega.{arith}
use lib.ListN.{length-take}
use Rattle.benchlines.proofs.Parts.{copied_whole, copied_all}
use Rattle.benchlines.proofs.copied.Goals as goal

pub returns-then-data-eq-BYTES : goal.returns-then-data-eq-BYTES
returns-then-data-eq-BYTES c = copied_all c.if-data-eq-BYTES.true c.put_bytes.ensures

pub put_bytes-requires-then-data-eq-BYTES-2 : goal.put_bytes-requires-then-data-eq-BYTES-2
put_bytes-requires-then-data-eq-BYTES-2 c = simp length-take (omega arith)

pub returns-then-data-eq-BYTES-2 : goal.returns-then-data-eq-BYTES-2
returns-then-data-eq-BYTES-2 c = copied_all c.if-data-eq-BYTES-2.true c.put_bytes-then-data-eq-BYTES-2.ensures

pub returns : goal.returns
returns c = copied_whole c.put_bytes-2.ensures

pub slice_bounds-put_bytes-end-then-data-eq-BYTES-2 : goal.slice_bounds-put_bytes-end-then-data-eq-BYTES-2
slice_bounds-put_bytes-end-then-data-eq-BYTES-2 c = simp length-take (omega arith)
