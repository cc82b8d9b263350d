-- The row that is looked at is row r; the slot found there, and its ages, decide.
use mathlib.Core.Path.{sym, ◌∙◌}
use Prim.Native.Nat.{◌+◌, ◌-◌}
use lib.ListN.{take, drop}
use Rattle.paper.specs.Record.{family_if}
use Rattle.rows.proofs.Where.{row_lent}
use Rattle.lookup.proofs.Steps.{Looked, in_none, in_unfit, in_fit}
use Rattle.lookup.proofs.candidate_in.Goals as goal

pub returns-in_err-slot : goal.returns-in_err-slot
returns-in_err-slot c =
    let args = c.args in
    c.from_residual.ensures
    ∙ in_none (let it : let args = c.args in
    let at = c.row_start-start.result in
    Looked args.room.now args.r c.slots-n.result (take (at + c.row_size.result - at) (drop at args.room.now)) = let n = c.slots-n in
    record {
      facts = c.requires.0;
      below = c.requires.1;
      count = n.ensures.0;
      is = row_lent c.args.room.now n.result c.args.r _ _ n.ensures.0 c.row_start-start.ensures c.row_size.ensures;
    } in it) (family_if args.timing) args.sat args.cop c.slot_of.ensures (c.in_err-slot.was)

pub returns-then-not-fits_cop : goal.returns-then-not-fits_cop
returns-then-not-fits_cop c =
    let args = c.args in
    in_unfit (let it : let args = c.args in
    let at = c.row_start-start.result in
    Looked args.room.now args.r c.slots-n.result (take (at + c.row_size.result - at) (drop at args.room.now)) = let n = c.slots-n in
    record {
      facts = c.requires.0;
      below = c.requires.1;
      count = n.ensures.0;
      is = row_lent c.args.room.now n.result c.args.r _ _ n.ensures.0 c.row_start-start.ensures c.row_size.ensures;
    } in it) (family_if args.timing) args.sat args.cop c.slot_of.ensures (c.in_ok-slot.was)
    c.row_start-start.ensures c.record_start.ensures
    (sym c.fits_cop.ensures ∙ c.if-not-fits_cop.true)

pub returns : goal.returns
returns c =
    let args = c.args in
    in_fit (let it : let args = c.args in
    let at = c.row_start-start.result in
    Looked args.room.now args.r c.slots-n.result (take (at + c.row_size.result - at) (drop at args.room.now)) = let n = c.slots-n in
    record {
      facts = c.requires.0;
      below = c.requires.1;
      count = n.ensures.0;
      is = row_lent c.args.room.now n.result c.args.r _ _ n.ensures.0 c.row_start-start.ensures c.row_size.ensures;
    } in it) (family_if args.timing) args.sat args.cop c.slot_of.ensures (c.in_ok-slot.was)
    c.row_start-start.ensures c.record_start.ensures
    (sym c.fits_cop.ensures ∙ c.if-not-fits_cop.false)
