-- `records::greatest` meets its contract: the fold from the front is the greatest.
use mathlib.Core.Path.{◌≡◌, ◌∙◌}
use Prim.Native.Nat.{max}
use Rattle.std.specs.Prelude.{fold}
use Rattle.std.proofs.Common.{rules}
use Rattle.records.proofs.Folds.{greatest_is}
use Rattle.records.proofs.greatest.Goals as goal

pub returns : goal.returns
returns g c = let e : c.fold.result ≡ fold max 0 c.args.ages = search rules in e ∙ greatest_is c.args.ages
