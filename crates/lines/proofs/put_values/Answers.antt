-- `put_values`: by the outcome; a refusal and a bare 0 have nothing behind them.
use native.Mathlib.Omega.{arith}
use mathlib.Core.Path.{◌≡◌, ap, ◌∙◌}
use mathlib.Core.List.{[]}
use Rattle.paper.specs.Number.{values}
use Rattle.text.proofs.Puts.{put_none}
use Rattle.lines.specs.Lines.{said_values, outcome_answer}
use Rattle.lines.proofs.put_values.Goals as goal

pub returns-in-Err : goal.returns-in-Err
returns-in-Err c = simp c.in-Err.is (put_none _ _ (omega arith), omega arith)

pub returns-in-Ok-Done : goal.returns-in-Ok-Done
returns-in-Ok-Done c =
    let done = c.in-Ok-Done in
    let none : values (outcome_answer c.args.outcome) ≡ [] = ap (λ r. values (outcome_answer r)) done.is ∙ ap said_values (rw done.is at done.field-0-is) in
    rw none (put_none _ _ (omega arith), omega arith)
