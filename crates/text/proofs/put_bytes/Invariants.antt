-- `put_bytes`: the text put whole is what is written so far with the rest of the text put behind it.
use mathlib.Core.Path.{◌≡◌}
use Prim.Native.Nat.{◌+◌}
use lib.ListN.{drop}
use Rattle.text.specs.Text.{put_text}
use Rattle.text.proofs.put_bytes.Given as goal

abbrev pub invariant-loop-i : goal.invariant-loop-i
invariant-loop-i l = put_text l.initial.out l.at l.text ≡ put_text l.out (l.at + l.i) (drop l.i l.text)
