-- What was read, offered to `part` until all of it is taken: the reader and the room go on as if it had been taken at once, and each time
-- something of it is. Assumes nothing.
use native.Mathlib.Omega.{arith}
use mathlib.Core.Path.{◌≡◌, refl, sym, ap, ◌∙◌}
use mathlib.Core.Bool.{Bool, true, false}
use mathlib.Core.List.{List, [], ◌∷◌}
use Prim.Native.Nat.{ℕ, ◌+◌, ◌-◌, ◌≤◌, ◌<◌}
use lib.ListN.{length, take, drop, replicate, length-drop, length-replicate}
use lib.Seq.{take_all, take-add}
use borrow.Author.Tests.{le-ltb}
use Rattle.lines.specs.Lines.{longest_line}
use Rattle.intake.specs.Input.{Item, Stage, stage_of, stage_at_end, items_at_end, trace_bytes, most_for}
use Rattle.intake.specs.Reader.{stage_in, reader_of, stage_number, full, end_fits, stage_ended, Took}
use Rattle.intake.proofs.State.{of_proper, stage_proper, stage_back}
use Rattle.intake.proofs.Taken.{part_taken_most, part_taken_some}
use Rattle.reader.specs.Turns.{HeardAll, HeardSome, GoesOn}
use Rattle.reader.proofs.Heard.{heard_none, heard_then, heard_over}

-- the rest of what was read
pub rest_is : (bytes : List ℕ) (at : ℕ) → take (length bytes - at) (drop at bytes) ≡ drop at bytes
rest_is bytes at = take_all (length bytes - at) (drop at bytes) (omega (arith, length-drop at bytes))

pub most_fits : (traced : Bool) → most_for traced ≤ longest_line + trace_bytes
most_fits true = omega arith
most_fits false = omega arith

-- so far: the first bytes of what was read are heard
pub record OfferSofar (reader₀ room₀ bytes reader room : List ℕ) (at : ℕ) : Type 0 where
  pub within : at ≤ length bytes
  pub heard : HeardAll reader₀ room₀ (take at bytes) reader room

pub offer_begun : (reader room bytes : List ℕ) → OfferSofar reader room bytes reader room 0
offer_begun reader room bytes = record { within = omega arith; heard = heard_none reader room }

module _ (reader₀ room₀ bytes reader room : List ℕ) (at : ℕ) (before : OfferSofar reader₀ room₀ bytes reader room at)
    (traced : Bool) (out reader' room' out' : List ℕ) (took said : ℕ)
    (t : Took traced (stage_in reader) (take (length bytes - at) (drop at bytes)) room out room' out' took said) where
  few : took ≤ length bytes - at
  few =
      omega (
        arith,
        t.count,
        part_taken_most traced (length out) 0 room (stage_in reader) (take (length bytes - at) (drop at bytes)),
        ap length (rest_is bytes at),
        length-drop at bytes,
      )

  pub fits : at + took ≤ length bytes
  fits = omega (arith, few, before.within)

  -- something is taken, where the output takes the longest lines
  pub some : at < length bytes → longest_line + trace_bytes ≤ length out → 0 < took
  some h long =
      let size : 0 < length (take (length bytes - at) (drop at bytes)) = rw (rest_is bytes at, length-drop at bytes) (omega arith) in
      omega (
        arith,
        t.count,
        part_taken_some traced (length out) room (stage_in reader) (take (length bytes - at) (drop at bytes))
            (omega (arith, most_fits traced, long)) size,
      )

  -- what `part` says of the reader
  module _ (e : reader' ≡ reader_of (stage_of (stage_in reader) (take took (take (length bytes - at) (drop at bytes))))) where
    stands : stage_in reader' ≡ stage_of (stage_in reader) (take took (take (length bytes - at) (drop at bytes)))
    stands = ap stage_in e ∙ stage_back _ (of_proper (stage_in reader) _ (stage_proper reader))

    pub offer_more : OfferSofar reader₀ room₀ bytes reader' room' (at + took)
    offer_more =
        let is : take took (take (length bytes - at) (drop at bytes)) ≡ take took (drop at bytes) = ap (take took) (rest_is bytes at) in
        let piece : HeardAll reader room (take took (drop at bytes)) reader' room' = record { stands = rw is at stands; leaves = rw is at t.leaves } in
        record {
          within = fits;
          heard = rw (take-add at took bytes) (heard_then before.heard piece);
        }

    pub offer_some : HeardSome reader₀ room₀ bytes reader' room'
    offer_some = record { count = at + took; heard = offer_more.heard }

    -- its number is that of the reader
    module _ (number : ℕ) (n : number ≡ stage_number (stage_of (stage_in reader) (take took (take (length bytes - at) (drop at bytes))))) where
      pub on : number ≡ 0 → GoesOn reader'
      on h = ap stage_number stands ∙ sym n ∙ h

      pub over : (number ≡ 0 → ⊥) → HeardAll reader₀ room₀ bytes reader' room' × (GoesOn reader' → ⊥)
      over h =
          let not : GoesOn reader' → ⊥ = λ g. h (n ∙ sym (ap stage_number stands) ∙ g) in
          (heard_over (at + took) bytes offer_more.heard not, not)

-- all of it
pub all_taken : (reader₀ room₀ bytes reader room : List ℕ) (at : ℕ) → OfferSofar reader₀ room₀ bytes reader room at → length bytes ≤ at
    → HeardAll reader₀ room₀ bytes reader room
all_taken reader₀ room₀ bytes reader room at S h = rw (take_all at bytes h) at S.heard

-- the end, with room for its line, is taken
pub end_fits_lem : (traced : Bool) (n : ℕ) (s : Stage) → longest_line + trace_bytes ≤ n → stage_ended traced (replicate n 0) s ≡ stage_at_end s
unfolding stage_ended end_fits
end_fits_lem traced n s h = rw (not_full (items_at_end s)) refl
  where
    not_full : (items : List Item) → full traced (length {A = ℕ} (replicate n 0)) 0 items ≡ false
    not_full [] = refl
    not_full (item ∷ rest) =
        rw (length-replicate {A = ℕ} n 0) (le-ltb n (0 + most_for traced) (omega (arith, most_fits traced, h)))
