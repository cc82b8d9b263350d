-- STORE 14.5: the number and the values for each case of an answer of `svn`.
use Rattle.std.specs.Prelude.{[], ◌∷◌, Result}
use Rattle.paper.specs.Number.{Answer}
use Rattle.refusals.specs.Reply.{answer_of}
use Rattle.refusals.specs.declared.Refusal.{Refusal}
use Rattle.svn.specs.declared.Svn.{Svn}

-- the satellite of a number: 0 with it; 4
abbrev pub satellite_answer : Result Svn Refusal → Answer
satellite_answer = answer_of (λ s. s.0 ∷ [])
