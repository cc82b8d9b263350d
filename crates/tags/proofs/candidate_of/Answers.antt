-- `candidate_of` tests in the paper's order; each return is the first test that fails, behind those that hold.
use mathlib.Core.Path.{sym, ap, ◌∙◌, subst}
use mathlib.Core.List.{[]}
use Rattle.paper.specs.Tag.{family_of}
use Rattle.paper.proofs.StoreFacts.{store_facts}
use Rattle.entry.specs.Mack.{mack_number}
use Rattle.gst.specs.Answer.{time_answer}
use Rattle.gst.proofs.Told.{refuses_time}
use Rattle.std.specs.Prelude.{ℕ, Result}
use Rattle.refusals.specs.declared.Refusal.{Refusal}
use Rattle.refusals.proofs.Answers.{does, handed_on}
use Rattle.tags.specs.Candidates.{Placed}
use Rattle.tags.proofs.Order.{Mack, mack_passed, mack_refused_by, not_allowed, not_known, no_time, placed}
use Rattle.tags.proofs.candidate_of.Goals as goal

pub returns-in_err-mack_entry : goal.returns-in_err-mack_entry
returns-in_err-mack_entry c =
    let a = c.args in
    subst (λ (r : Result ℕ Refusal). Placed r a.allowed a.known a.svn.0 a.kind a.cop a.mack.wn.0 a.mack.tow.0 a.room.now)
    (sym (handed_on _ _ c.from_residual.ensures))
    (mack_refused_by a.allowed a.known a.svn.0 a.kind a.cop a.mack.wn.0 a.mack.tow.0 a.room.now
    _ _ c.in_err-mack_entry.was c.mack_entry.ensures)

pub returns-then-not-allowed : goal.returns-then-not-allowed
returns-then-not-allowed c =
    let passed : let a = c.args in
    Mack a.svn.0 a.mack.tow.0 a.room.now = let a = c.args in
    mack_passed a.svn.0 a.mack.tow.0 a.room.now
    (does _ (mack_number a.svn.0 a.mack.tow.0 a.room.now) [] c.in_ok-mack_entry.was c.mack_entry.ensures) in
    let a = c.args in
    not_allowed a.allowed a.known a.svn.0 a.kind a.cop a.mack.wn.0 a.mack.tow.0 a.room.now
    (passed) (c.if-not-allowed.true)

pub returns-then-not-known : goal.returns-then-not-known
returns-then-not-known c =
    let passed : let a = c.args in
    Mack a.svn.0 a.mack.tow.0 a.room.now = let a = c.args in
    mack_passed a.svn.0 a.mack.tow.0 a.room.now
    (does _ (mack_number a.svn.0 a.mack.tow.0 a.room.now) [] c.in_ok-mack_entry.was c.mack_entry.ensures) in
    let a = c.args in
    not_known a.allowed a.known a.svn.0 a.kind a.cop a.mack.wn.0 a.mack.tow.0 a.room.now
    (passed) (c.if-not-allowed.false) (c.if-not-known.true)

pub candidate_before-requires : goal.candidate_before-requires
candidate_before-requires c =
    let passed : let a = c.args in
    Mack a.svn.0 a.mack.tow.0 a.room.now = let a = c.args in
    mack_passed a.svn.0 a.mack.tow.0 a.room.now
    (does _ (mack_number a.svn.0 a.mack.tow.0 a.room.now) [] c.in_ok-mack_entry.was c.mack_entry.ensures) in
    store_facts _ (passed).store

pub returns : goal.returns
unfolding family_of
returns c =
    let passed : let a = c.args in
    Mack a.svn.0 a.mack.tow.0 a.room.now = let a = c.args in
    mack_passed a.svn.0 a.mack.tow.0 a.room.now
    (does _ (mack_number a.svn.0 a.mack.tow.0 a.room.now) [] c.in_ok-mack_entry.was c.mack_entry.ensures) in
    let a = c.args in
    let m = passed in
    placed a.allowed a.known a.svn.0 a.kind a.cop a.mack.wn.0 a.mack.tow.0 a.room.now
    c.candidate_before.result _ _ m (store_facts _ m.store) (c.if-not-allowed.false) (c.if-not-known.false)
    (ap time_answer (sym c.in-Ok.is) ∙ c.add_seconds.ensures) c.candidate_before.ensures

pub returns-in_default : goal.returns-in_default
returns-in_default c =
    let passed : let a = c.args in
    Mack a.svn.0 a.mack.tow.0 a.room.now = let a = c.args in
    mack_passed a.svn.0 a.mack.tow.0 a.room.now
    (does _ (mack_number a.svn.0 a.mack.tow.0 a.room.now) [] c.in_ok-mack_entry.was c.mack_entry.ensures) in
    let a = c.args in
    no_time a.allowed a.known a.svn.0 a.kind a.cop a.mack.wn.0 a.mack.tow.0 a.room.now
    (passed) (c.if-not-allowed.false) (c.if-not-known.false) _ c.add_seconds.ensures
    (refuses_time c.add_seconds.result c.in_default.not-Ok)
