-- `accept` refuses in the paper's order and then credits every record, matched against the given data, which agrees with the candidate's.
use mathlib.Core.Path.{◌≡◌, sym, ap, ◌∙◌}
use mathlib.Core.Bool.{true}
use mathlib.Core.List.{[], ◌∷◌}
use Prim.Native.Nat.{ℕ}
use Rattle.paper.specs.Number.{done}
use Rattle.paper.specs.Parts.{part}
use Rattle.paper.specs.Record.{family_if, size}
use Rattle.paper.specs.Tag.{given_agrees, status_adds, tagged, taken_by}
use Rattle.tags.proofs.Accepts.{agreed, same_tagged_room, same_total, number_0}
use Rattle.tags.proofs.accept.Goals as goal

pub credit_rows-requires : goal.credit_rows-requires
credit_rows-requires c =
    let agrees : let a = c.args in
    let f = family_if a.timing in
    given_agrees f a.given.now (part a.at (size f) a.room.now) ≡ true = sym c.given_agrees.ensures ∙ c.if-not-given_agrees.false in
    let a = c.args in
    let f = family_if a.timing in
    (c.requires.in_range, (agreed f a.given.now (part a.at (size f) a.room.now) (agrees)).0)

pub returns-clause-result_value : goal.returns-clause-result_value
returns-clause-result_value c =
    let agrees : let a = c.args in
    let f = family_if a.timing in
    given_agrees f a.given.now (part a.at (size f) a.room.now) ≡ true = sym c.given_agrees.ensures ∙ c.if-not-given_agrees.false in
    let credit = c.credit_rows in
    let a = c.args in
    let f = family_if a.timing in
    let rec = part a.at (size f) a.room.now in
    let same = (agreed f a.given.now rec (agrees)).1 in
    let zero =
    number_0 (taken_by f rec a.room.now ∷ []) (tagged f rec a.bits a.room.now) a.room.now
    (given_agrees f a.given.now rec) a.verdict (status_adds a.status) (agrees) (c.if-not-verdict.false)
    (sym c.status_adds.ensures ∙ c.if-not-status_adds.false) in ap (λ (x : ℕ). done (x ∷ [])) (credit.ensures.1 ∙ same_total f a.given.now rec a.bits a.room.now a.sat same c.requires.timing_in_bounds.1) ∙ zero.0

pub returns-clause-room_after : goal.returns-clause-room_after
returns-clause-room_after c =
    let agrees : let a = c.args in
    let f = family_if a.timing in
    given_agrees f a.given.now (part a.at (size f) a.room.now) ≡ true = sym c.given_agrees.ensures ∙ c.if-not-given_agrees.false in
    let credit = c.credit_rows in
    let a = c.args in
    let f = family_if a.timing in
    let rec = part a.at (size f) a.room.now in
    let same = (agreed f a.given.now rec (agrees)).1 in
    let zero =
    number_0 (taken_by f rec a.room.now ∷ []) (tagged f rec a.bits a.room.now) a.room.now
    (given_agrees f a.given.now rec) a.verdict (status_adds a.status) (agrees) (c.if-not-verdict.false)
    (sym c.status_adds.ensures ∙ c.if-not-status_adds.false) in credit.ensures.0 ∙ same_tagged_room f a.given.now rec a.bits a.room.now a.sat same c.requires.timing_in_bounds.1 ∙ zero.1
