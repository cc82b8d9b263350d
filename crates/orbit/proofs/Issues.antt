-- Where the bits lie by which CED data is tested (STORE 20.6): its four IODnav, and word 4's SVID. Assumes nothing.
use mathlib.Core.Bool.{◌&&◌}
use mathlib.Core.List.{List}
use mathlib.Core.Path.{◌≡◌, refl}
use Prim.Native.Nat.{ℕ}
use lib.Dec.{eqb}
use Rattle.paper.specs.Word.{table}
use Rattle.paper.specs.Field.{named, numbers_at, fields_in, layouts, in_record, bits_at}
use Rattle.paper.specs.Orbit.{one_issue, svid_of}

pub issues_at :
    (bytes : List ℕ)
    → one_issue bytes
    ≡ (eqb (bits_at bytes 120 10) (bits_at bytes 0 10) && eqb (bits_at bytes 240 10) (bits_at bytes 0 10) && eqb (bits_at bytes 362 10) (bits_at bytes 0 10))
unfolding one_issue named numbers_at fields_in layouts in_record table
issues_at bytes = refl

pub svid_at : (bytes : List ℕ) → svid_of bytes ≡ bits_at bytes 372 6
unfolding named numbers_at fields_in layouts in_record table
svid_at bytes = refl
