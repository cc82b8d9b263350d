-- The first row back that answers has a slot that does.
use mathlib.Core.Path.{sym, ap, ◌∙◌}
use Rattle.paper.specs.Record.{family_if}
use Rattle.paper.specs.Room.{depth}
use Rattle.paper.specs.Ask.{steps_back}
use Rattle.lookup.proofs.Search.{found_at, found_not}
use Rattle.ask.specs.Backward.{place_back}
use Rattle.ask.proofs.Enough.{answering_none, answering_place_lem}
use Rattle.ask.proofs.answering_at.Goals as goal

pub returns-in_err-j : goal.returns-in_err-j
returns-in_err-j c =
    let args = c.args in
    c.from_residual.ensures
    ∙ answering_none (family_if args.timing) args.sat args.room.now
    (found_not (depth args.room.now) (steps_back (family_if args.timing) args.sat args.room.now) (sym c.steps_back.ensures ∙ c.in_err-j.was))

pub returns : goal.returns
returns c =
    let args = c.args in
    let found = found_at _ _ _ (sym c.steps_back.ensures ∙ c.in_ok-j.was) in
    c.place_back.ensures
    ∙ ap (λ j. place_back (family_if args.timing) args.sat j args.room.now) found.0
    ∙ answering_place_lem (family_if args.timing) args.sat args.room.now found.1
