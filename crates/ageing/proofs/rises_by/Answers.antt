-- The rule decides, and under rule 1 the subframes gone by, held.
use mathlib.Core.Path.{◌≡◌, sym, ap, ◌∙◌}
use Prim.Native.Nat.{min}
use lib.IntN.{ℤ, nat_abs}
use mir.Facts.{to_z-of_z}
use mir.Syntax.{w32}
use Rattle.paper.specs.Time.{subframes_of}
use Rattle.paper.specs.Record.{oldest}
use Rattle.paper.specs.Room.{row_of}
use Rattle.paper.specs.Feed.{rises_by}
use Rattle.gst.specs.Answer.{apart_answer}
use Rattle.std.specs.Prelude.{Result}
use Rattle.refusals.specs.declared.Refusal.{Refusal}
use Rattle.ageing.proofs.Judged.{rise_one, rise_gone}
use Rattle.ageing.proofs.rises_by.Goals as goal

pub returns-then-not-by_time : goal.returns-then-not-by_time
returns-then-not-by_time c = rise_one _ _ _ (sym c.by_time.ensures ∙ c.if-not-by_time.true)

pub returns-in-Ok : goal.returns-in-Ok
returns-in-Ok c =
    let by_size : (a : Result ℤ Refusal) → c.after.result ≡ a
    → let args = c.args in
    min oldest (nat_abs (subframes_of (apart_answer a))) ≡ min oldest (rises_by args.wn args.tow args.room.now) = λ a told. let room = c.args.room.now in
    rise_gone _ _ room c.row.result.now (c.row.ensures.0 ∙ ap (λ r. row_of r room) c.current.ensures.0)
    (sym c.by_time.ensures ∙ c.if-not-by_time.false)
    (subframes_of (apart_answer a)) (ap subframes_of (ap apart_answer (sym told) ∙ c.after.ensures)) in
    let same = to_z-of_z {w = w32} {z = c.in-Ok.subframes} (record { sfits = c.in-Ok.known_told-1-own.given.0.1 }) in
    c.held.ensures
    ∙ ap (min oldest) (c.size.ensures ∙ ap nat_abs same)
    ∙ by_size _ c.in-Ok.is

pub returns-in-Err : goal.returns-in-Err
returns-in-Err c =
    let by_size : (a : Result ℤ Refusal) → c.after.result ≡ a
    → let args = c.args in
    min oldest (nat_abs (subframes_of (apart_answer a))) ≡ min oldest (rises_by args.wn args.tow args.room.now) = λ a told. let room = c.args.room.now in
    rise_gone _ _ room c.row.result.now (c.row.ensures.0 ∙ ap (λ r. row_of r room) c.current.ensures.0)
    (sym c.by_time.ensures ∙ c.if-not-by_time.false)
    (subframes_of (apart_answer a)) (ap subframes_of (ap apart_answer (sym told) ∙ c.after.ensures)) in
    by_size _ c.in-Err.is
