-- The rule decides first, then the mark of the current row, and then the sign of the difference.
use mathlib.Core.Bool.{not}
use mathlib.Core.Path.{◌≡◌, sym, ap, ◌∙◌}
use lib.IntN.{ℤ}
use lib.Signed.{non_neg}
use mir.Facts.{to_z-of_z}
use mir.Syntax.{w32}
use Rattle.paper.specs.Time.{start_of, subframes_of}
use Rattle.paper.specs.Room.{row_of}
use Rattle.paper.specs.Feed.{comes_earlier}
use Rattle.gst.specs.Answer.{apart_answer}
use Rattle.std.specs.Prelude.{Result}
use Rattle.refusals.specs.declared.Refusal.{Refusal}
use Rattle.ageing.proofs.Judged.{none_earlier, blank_earlier, marked_earlier}
use Rattle.ageing.proofs.comes_earlier.Goals as goal

pub returns-then-not-by_time : goal.returns-then-not-by_time
returns-then-not-by_time c = none_earlier _ _ _ (sym c.by_time.ensures ∙ c.if-not-by_time.true)

pub returns-then-not-is_marked : goal.returns-then-not-is_marked
returns-then-not-is_marked c =
    let room = c.args.room.now in
    blank_earlier _ _ room c.row-row.result.now (c.row-row.ensures.0 ∙ ap (λ r. row_of r room) c.current.ensures.0)
    (sym c.by_time.ensures ∙ c.if-not-by_time.false)
    (sym c.is_marked.ensures ∙ c.if-not-is_marked.true)

pub returns-in-Ok : goal.returns-in-Ok
returns-in-Ok c =
    let by_sign : (a : Result ℤ Refusal) → c.after.result ≡ a
    → let args = c.args in
    not (non_neg (subframes_of (apart_answer a))) ≡ comes_earlier args.gst.wn.0 (start_of args.gst.tow.0) args.room.now = λ a told. let room = c.args.room.now in
    let apart = rw c.subframe_at.ensures at c.after.ensures in
    marked_earlier _ _ room c.row-row.result.now (c.row-row.ensures.0 ∙ ap (λ r. row_of r room) c.current.ensures.0)
    (sym c.by_time.ensures ∙ c.if-not-by_time.false)
    (subframes_of (apart_answer a)) (ap subframes_of (ap apart_answer (sym told) ∙ apart))
    (sym c.is_marked.ensures ∙ c.if-not-is_marked.false) in
    let same = to_z-of_z {w = w32} {z = c.in-Ok.subframes} (record { sfits = c.in-Ok.known_told-1-own.given.0.1 }) in
    c.below_zero.ensures ∙ ap (λ (z : ℤ). not (non_neg z)) same ∙ by_sign _ c.in-Ok.is

pub returns-in-Err : goal.returns-in-Err
returns-in-Err c =
    let by_sign : (a : Result ℤ Refusal) → c.after.result ≡ a
    → let args = c.args in
    not (non_neg (subframes_of (apart_answer a))) ≡ comes_earlier args.gst.wn.0 (start_of args.gst.tow.0) args.room.now = λ a told. let room = c.args.room.now in
    let apart = rw c.subframe_at.ensures at c.after.ensures in
    marked_earlier _ _ room c.row-row.result.now (c.row-row.ensures.0 ∙ ap (λ r. row_of r room) c.current.ensures.0)
    (sym c.by_time.ensures ∙ c.if-not-by_time.false)
    (subframes_of (apart_answer a)) (ap subframes_of (ap apart_answer (sym told) ∙ apart))
    (sym c.is_marked.ensures ∙ c.if-not-is_marked.false) in
    by_sign _ c.in-Err.is
