-- `end`: behind the input's end nothing happens; else it ends between items, or inside one, whose line fits or not.
use native.Mathlib.Omega.{arith}
use mathlib.Core.Path.{refl, sym, ◌∙◌}
use mathlib.Core.List.{append-nil}
use lib.ListN.{get_or, take}
use lib.Seq.{length-take-le}
use Rattle.lines.specs.Kinds.{kind_of}
use Rattle.lines.proofs.Longest.{body_within}
use Rattle.text.proofs.Puts.{put_none}
use Rattle.intake.specs.Input.{stage_at_end, items_at_end, lines_of}
use Rattle.intake.specs.Reader.{end_fits, stage_ended, items_ended}
use Rattle.intake.proofs.Taken.{end_short, end_long}
use Rattle.intake.proofs.end.Goals as goal

pub returns-in-Ended : goal.returns-in-Ended
unfolding stage_ended items_ended end_fits items_at_end stage_at_end lines_of
returns-in-Ended c =
    let is = c.in-Ended.ensures.stands in
    rw (← is) record { reader_after = c.leave.ensures; number_value = (refl, refl); put = put_none c.args.out.now 0 (omega arith) }

pub returns-then-have-eq0 : goal.returns-then-have-eq0
unfolding stage_ended items_ended end_fits items_at_end stage_at_end lines_of
returns-then-have-eq0 c =
    let is = rw c.if-have-eq0.true at c.in-Going.ensures.stands in
    rw (← is) record { reader_after = c.leave-then-have-eq0.ensures; number_value = (refl, refl); put = put_none c.args.out.now 0 (omega arith) }

pub returns-then-out-most : goal.returns-then-out-most
unfolding lines_of
returns-then-out-most c =
    let a = c.args in
    let have = c.in-Going.have in
    let kept = c.in-Going.ensures.not_whole in
    let size = length-take-le have a.reader.now (omega (arith, kept.size, kept.within, body_within (kind_of (get_or a.reader.now 0 0)))) in
    let s = end_short a.traced a.out.now (take have a.reader.now) (λ e. c.if-have-eq0.false (sym size ∙ e)) in
    let short = s (rw c.most.ensures at c.if-out-most.true) in
    rw (← c.in-Going.ensures.stands, short.1.0, short.1.1.0, short.1.1.1, short.0) record { reader_after = c.leave-then-out-most.ensures; number_value = (refl, refl); put = put_none a.out.now 0 (omega arith) }

pub returns : goal.returns
unfolding lines_of
returns c =
    let a = c.args in
    let have = c.in-Going.have in
    let kept = c.in-Going.ensures.not_whole in
    let size = length-take-le have a.reader.now (omega (arith, kept.size, kept.within, body_within (kind_of (get_or a.reader.now 0 0)))) in
    let s = end_long a.traced a.out.now (take have a.reader.now) (λ e. c.if-have-eq0.false (sym size ∙ e)) in
    let fits = s (rw c.most.ensures at c.if-out-most.false) in
    rw (← c.in-Going.ensures.stands, fits.1.0, fits.1.1.0, fits.1.1.1, fits.0) record { reader_after = c.leave-2.ensures; number_value = (refl, refl); put = rw (append-nil _) c.put_cut-said.ensures }
