-- `records::least` meets its contract: the fold from the front is the least.
use mathlib.Core.Path.{◌≡◌, ◌∙◌}
use Prim.Native.Nat.{min}
use Rattle.std.specs.Prelude.{fold}
use Rattle.std.proofs.Common.{rules}
use Rattle.records.proofs.Folds.{least_is}
use Rattle.records.proofs.least.Goals as goal

pub returns : goal.returns
returns g c = let e : c.fold.result ≡ fold min 255 c.args.ages = search rules in e ∙ least_is c.args.ages
