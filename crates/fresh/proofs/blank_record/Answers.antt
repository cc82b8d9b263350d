-- `fresh::blank_record` meets its contract: zeros, and then 255 where the ages stand.
use Rattle.fresh.proofs.Blank.{record_blank}
use Rattle.fresh.proofs.blank_record.Goals as goal

pub returns : goal.returns
returns c = λ f l w. record_blank f _ _ _ _ l w (c.fill.ensures.after (λ y e. e)) (c.fill-2.ensures.after (λ y e. e))
