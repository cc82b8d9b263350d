-- The paper's order, and then the record that answers, its count and its time.
use mathlib.Core.Path.{◌≡◌, sym, ap, ◌∙◌}
use mathlib.Core.Bool.{true}
use native.Mathlib.Omega.{arith}
use Prim.Native.Nat.{◌+◌, ◌≤◌}
use lib.ListN.{length}
use Rattle.paper.specs.Record.{family_if, size}
use Rattle.paper.specs.Room.{head_size}
use Rattle.paper.specs.Satellite.{is_satellite}
use Rattle.paper.specs.Store.{is_store}
use Rattle.paper.proofs.StoreFacts.{store_facts}
use Rattle.gst.proofs.Told.{refuses_time}
use Rattle.gst.specs.Answer.{time_answer}
use Rattle.ask.proofs.Enough.{ask_none, ask_unknown, ask_late, ask_told, told_inside}
use Rattle.ask.proofs.ask.Goals as goal

pub answering_at-requires : goal.answering_at-requires
answering_at-requires c =
    let a-store : is_store c.args.room.now ≡ true = sym c.is_store.ensures ∙ c.if-not-is_store.false in
    store_facts _ (a-store)

pub returns-in_default : goal.returns-in_default
returns-in_default c =
    let a-store : is_store c.args.room.now ≡ true = sym c.is_store.ensures ∙ c.if-not-is_store.false in
    let a-satellite : is_satellite c.args.svn.0 ≡ true = sym c.is_satellite.ensures ∙ c.if-not-is_satellite.false in
    let args = c.args in
    ask_none (family_if args.timing) args.svn.0 args.room.now (sym c.answering_at.ensures ∙ c.in_default.is)
    (a-store) (a-satellite)

pub age_unknown-requires : goal.age_unknown-requires
age_unknown-requires c =
    let a-store : is_store c.args.room.now ≡ true = sym c.is_store.ensures ∙ c.if-not-is_store.false in
    let inside : let args = c.args in
    (c.in-Some.place.row + head_size ≤ length args.room.now) × (c.in-Some.place.at + size (family_if args.timing) ≤ length args.room.now) = let args = c.args in
    told_inside (family_if args.timing) args.svn.0 args.room.now _ _ (sym c.answering_at.ensures ∙ c.in-Some.is)
    (store_facts _ (a-store)) in
    ((store_facts _ (a-store)).long, (inside).1)

pub returns-then-age_unknown : goal.returns-then-age_unknown
returns-then-age_unknown c =
    let a-store : is_store c.args.room.now ≡ true = sym c.is_store.ensures ∙ c.if-not-is_store.false in
    let a-satellite : is_satellite c.args.svn.0 ≡ true = sym c.is_satellite.ensures ∙ c.if-not-is_satellite.false in
    let args = c.args in
    ask_unknown (family_if args.timing) args.svn.0 args.room.now _ _ (sym c.answering_at.ensures ∙ c.in-Some.is)
    (a-store) (a-satellite) (sym c.if-age_unknown.true ∙ c.age_unknown.ensures)

pub time_before-requires : goal.time_before-requires
time_before-requires c =
    let a-store : is_store c.args.room.now ≡ true = sym c.is_store.ensures ∙ c.if-not-is_store.false in
    let inside : let args = c.args in
    (c.in-Some.place.row + head_size ≤ length args.room.now) × (c.in-Some.place.at + size (family_if args.timing) ≤ length args.room.now) = let args = c.args in
    told_inside (family_if args.timing) args.svn.0 args.room.now _ _ (sym c.answering_at.ensures ∙ c.in-Some.is)
    (store_facts _ (a-store)) in
    inside

pub returns-in_default-time_before : goal.returns-in_default-time_before
returns-in_default-time_before c =
    let a-store : is_store c.args.room.now ≡ true = sym c.is_store.ensures ∙ c.if-not-is_store.false in
    let a-satellite : is_satellite c.args.svn.0 ≡ true = sym c.is_satellite.ensures ∙ c.if-not-is_satellite.false in
    let time = c.time_before in
    let args = c.args in
    ask_late (family_if args.timing) args.svn.0 args.room.now _ _ (sym c.answering_at.ensures ∙ c.in-Some.is)
    (a-store) (a-satellite) (sym c.if-age_unknown.false ∙ c.age_unknown.ensures)
    _ time.ensures (refuses_time time.result c.in_default-time_before.not-Ok)

pub overflow_add-at : goal.overflow_add-at
overflow_add-at c =
    let a-store : is_store c.args.room.now ≡ true = sym c.is_store.ensures ∙ c.if-not-is_store.false in
    let inside : let args = c.args in
    (c.in-Some.place.row + head_size ≤ length args.room.now) × (c.in-Some.place.at + size (family_if args.timing) ≤ length args.room.now) = let args = c.args in
    told_inside (family_if args.timing) args.svn.0 args.room.now _ _ (sym c.answering_at.ensures ∙ c.in-Some.is)
    (store_facts _ (a-store)) in
    omega (arith, (inside).1)

pub read16-authbits-requires : goal.read16-authbits-requires
read16-authbits-requires c =
    let a-store : is_store c.args.room.now ≡ true = sym c.is_store.ensures ∙ c.if-not-is_store.false in
    let inside : let args = c.args in
    (c.in-Some.place.row + head_size ≤ length args.room.now) × (c.in-Some.place.at + size (family_if args.timing) ≤ length args.room.now) = let args = c.args in
    told_inside (family_if args.timing) args.svn.0 args.room.now _ _ (sym c.answering_at.ensures ∙ c.in-Some.is)
    (store_facts _ (a-store)) in
    omega (arith, (inside).1)

pub returns : goal.returns
returns c =
    let a-store : is_store c.args.room.now ≡ true = sym c.is_store.ensures ∙ c.if-not-is_store.false in
    let a-satellite : is_satellite c.args.svn.0 ≡ true = sym c.is_satellite.ensures ∙ c.if-not-is_satellite.false in
    let args = c.args in
    ask_told (family_if args.timing) args.svn.0 args.room.now _ _ (sym c.answering_at.ensures ∙ c.in-Some.is)
    (a-store) (a-satellite) (sym c.if-age_unknown.false ∙ c.age_unknown.ensures)
    _ _ _ c.read16-authbits.ensures
    (sym (ap time_answer c.in-Ok.is) ∙ c.time_before.ensures)
