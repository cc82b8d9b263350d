-- STORE 14.5, for what asking came to: 0 with the count, the week and the time, or the refusal's number.
use Rattle.std.specs.Prelude.{[], ◌∷◌, Result}
use Rattle.paper.specs.Number.{Answer}
use Rattle.refusals.specs.Reply.{answer_of}
use Rattle.refusals.specs.declared.Refusal.{Refusal}
use Rattle.navmessage.specs.declared.Reading.{Reading}

abbrev pub asked_answer : Result Reading Refusal → Answer
asked_answer = answer_of (λ r. r.authbits ∷ r.gst.wn.0 ∷ r.gst.tow.0 ∷ [])
