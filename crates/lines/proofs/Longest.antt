-- The longest item and the letter of each: no body is longer than a word's, and every letter has its space. Assumes nothing.
use mathlib.Core.Path.{◌≡◌, refl}
use native.Mathlib.Omega.{arith}
use Prim.Native.Nat.{◌<◌}
use lib.ListN.{length}
use Rattle.lines.specs.declared.Kind.{Kind}
use Rattle.lines.specs.declared.Kind.TheVariants.{Word, Tag, Reset, Ced, Timing, Fresh, FreshRuled, Unknown}
use Rattle.lines.specs.Kinds.{body_length, longest_item, letter_of}

pub letter_two : (k : Kind) → length (letter_of k) ≡ 2
letter_two Word = refl
letter_two Tag = refl
letter_two Reset = refl
letter_two Ced = refl
letter_two Timing = refl
letter_two Fresh = refl
letter_two FreshRuled = refl
letter_two Unknown = refl

pub body_within : (k : Kind) → body_length k < longest_item
body_within Word = omega arith
body_within Tag = omega arith
body_within Reset = omega arith
body_within Ced = omega arith
body_within Timing = omega arith
body_within Fresh = omega arith
body_within FreshRuled = omega arith
body_within Unknown = omega arith
