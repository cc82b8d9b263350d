-- Each slot is asked whether its record has the satellite, which is the record's first byte.
use mathlib.Core.Path.{sym, ap, ◌∙◌}
use lib.Dec.{eqb}
use lib.ListN.{get_or}
use Prim.Native.Nat.{ℕ, ◌+◌}
use borrow.Author.Rules.{rules}
use Rattle.paper.specs.Record.{family_if, satellite_at}
use Rattle.paper.specs.Room.{record_at}
use Rattle.paper.specs.Tag.{first_slot}
use Rattle.paper.proofs.First.{first_same}
use Rattle.lookup.specs.Found.{found}
use Rattle.lookup.proofs.Search.{is_of_satellite, satellite_at_lem}
use Rattle.lookup.proofs.slot_of.Goals as goal

pub returns : goal.returns
unfolding first_slot
returns c =
    let a = c.args in
    let f = family_if a.timing in
    c.first.ensures (λ i. eqb (get_or a.row.now (record_at f i + satellite_at) 0) a.sat) (λ i b h q. search rules)
    ∙ ap (found a.n) (first_same _ (is_of_satellite f a.sat a.row.now) a.n
    (λ j h. ap (λ (x : ℕ). eqb x a.sat) (sym (satellite_at_lem f j a.row.now))))
