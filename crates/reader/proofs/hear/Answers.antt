-- `hear`: a failed read leaves all as it was, and the end is said by `finish`.
use mathlib.Core.Path.{sym}
use borrow.Author.Tests.{eqb-true}
use Rattle.reader.proofs.Heard.{heard_none, heard_end}
use Rattle.reader.proofs.hear.Goals as goal

pub returns-in_default : goal.returns-in_default
returns-in_default c = rw c.in_default.is (heard_none _ _, c.requires)

pub returns-then-is_empty : goal.returns-then-is_empty
returns-then-is_empty c = rw c.in-Some.is (eqb-true _ 0 (sym c.if-is_empty.ensures), heard_end _ _ _ c.finish.ensures)
