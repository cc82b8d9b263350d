-- `put_hex`: the digits put whole are what is written so far with the digits of the other bytes put behind it.
use mathlib.Core.Path.{◌≡◌}
use Prim.Native.Nat.{◌+◌, ◌*◌}
use lib.ListN.{drop}
use Rattle.text.specs.Text.{put_text, hex_of}
use Rattle.text.proofs.put_hex.Given as goal

abbrev pub invariant-loop-byte : goal.invariant-loop-byte
invariant-loop-byte l =
    (l.to ≡ l.at + 2 * l.byte-index)
    × (put_text l.initial.out l.at (hex_of l.bytes) ≡ put_text l.out l.to (hex_of (drop l.byte-index l.bytes)))
