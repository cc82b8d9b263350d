-- `take`: what is left is offered again and again, and each time less is left; while the reader goes on its number is 0.
use native.Mathlib.Omega.{arith}
use mathlib.Core.Path.{refl, ◌∙◌}
use Rattle.reader.proofs.Offered.{offer_begun, fits, some, offer_more, offer_some, on, over}
use Rattle.reader.proofs.take.Goals as goal

pub loop-at-init : goal.loop-at-init
loop-at-init c = ((refl, refl), (offer_begun _ _ _, c.requires))

pub returns-then-not-print : goal.returns-then-not-print
returns-then-not-print c =
    let t = c.part-heard.ensures in
    offer_some _ _ _ _ _ _ c.loop-at.invariant.1.0 _ _ _ _ _ _ _ t.took t.reader_after

pub returns-then-over : goal.returns-then-over
returns-then-over c =
    let t = c.part-heard.ensures in
    over _ _ _ _ _ _ c.loop-at.invariant.1.0 _ _ _ _ _ _ _ t.took t.reader_after _ t.number_value c.if-over.true

pub overflow_add-at : goal.overflow_add-at
overflow_add-at c =
    let low = fits _ _ _ _ _ _ c.loop-at.invariant.1.0 _ _ c.part-heard.new.reader _ _ _ _ c.part-heard.ensures.took in
    omega (arith, low)

pub loop-at-smaller : goal.loop-at-smaller
loop-at-smaller c =
    let h = c.loop-at.invariant in
    let t = c.part-heard.ensures.took in
    let more = some _ _ _ _ _ _ h.1.0 _ _ c.part-heard.new.reader _ _ _ _ t c.loop-at-test.true (omega (arith, h.0.1)) in
    omega (arith, more, fits _ _ _ _ _ _ h.1.0 _ _ c.part-heard.new.reader _ _ _ _ t)

pub loop-at-preserved : goal.loop-at-preserved
loop-at-preserved c =
    let part = c.part-heard in
    let h = c.loop-at.invariant in
    let t = part.ensures in (
      (part.auto.room ∙ h.0.0, part.auto.out ∙ h.0.1),
      (
        offer_more _ _ _ _ _ _ h.1.0 _ _ _ _ _ _ _ t.took t.reader_after,
        on _ _ _ _ _ _ h.1.0 _ _ _ _ _ _ _ t.took t.reader_after _ t.number_value c.if-over.false,
      ),
    )
