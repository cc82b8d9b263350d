-- Two data agree in their 549 or 141 bits (STORE 6.4) where those bits, as a list, are the same; the other way round is paper's. Assumes nothing.
use mathlib.Core.Bool.{true}
use mathlib.Core.List.{List}
use mathlib.Core.Path.{◌≡◌, sym, ap, ◌∙◌}
use Prim.Native.Nat.{ℕ, ◌+◌, ◌-◌, ◌*◌, ◌/◌, ◌%◌, ◌^◌, ◌<◌}
use native.Mathlib.Omega.{arith}
use native.Mathlib.Nat.{zero-add}
use lib.ListN.{length, get_or, take}
use lib.Pow.{shr-shr}
use lib.Seq.{ext_get_or, get_or-take, length-take-le}
use Rattle.paper.specs.Parts.{Bytes}
use Rattle.paper.specs.Bits.{bit_at}
use Rattle.paper.specs.Record.{Family, record_bits, data_bytes, same_bits}
use Rattle.paper.specs.Message.{bits_from}
use Rattle.paper.proofs.Digits.{same_digits}
use Rattle.paper.proofs.Bits.{byte_digit}
use Rattle.paper.proofs.Views.{bits_and_bytes}
use Rattle.paper.proofs.Same.{true_bits}
use Rattle.packing.proofs.Behind.{same_from}

module _ (f : Family) (a b : List ℕ) (la : length a ≡ data_bytes f) (lb : length b ≡ data_bytes f) where
  n : ℕ
  n = data_bytes f - 1

  -- the bits of a byte before the last, and of the last
  pub bits_agree : Bytes a → Bytes b → bits_from a 0 (record_bits f) ≡ bits_from b 0 (record_bits f) → same_bits f a b ≡ true
  unfolding n
  bits_agree ba bb e =
      let bit : (i : ℕ) → i < record_bits f → bit_at a i ≡ bit_at b i =
      λ i h. ap (bit_at a) (sym (zero-add i)) ∙ same_from a b 0 0 (record_bits f) e i h ∙ ap (bit_at b) (zero-add i) in
      let digit : (j t : ℕ) → t < 8 → 8 * j + (7 - t) < record_bits f → get_or a j 0 / 2 ^ t % 2 ≡ get_or b j 0 / 2 ^ t % 2 =
      λ j t h g. byte_digit a j t h ∙ bit (8 * j + (7 - t)) g ∙ sym (byte_digit b j t h) in
      let whole : take n a ≡ take n b =
      ext_get_or 0 (take n a) (take n b)
      (length-take-le n a (omega arith) ∙ sym (length-take-le n b (omega arith)))
      (λ j h.
      let g : j < n = omega (arith, length-take-le n a (omega arith)) in
      get_or-take n a j 0 g
      ∙ same_digits 8 (get_or a j 0) (get_or b j 0) (ba j) (bb j) (λ t l. digit j t l (omega (arith, bits_and_bytes f)))
      ∙ sym (get_or-take n b j 0 g)) in
      let last : get_or a n 0 / 8 ≡ get_or b n 0 / 8 =
      same_digits 5 (get_or a n 0 / 8) (get_or b n 0 / 8) (omega (arith, ba n)) (omega (arith, bb n))
      (λ t l.
      ap (λ (x : ℕ). x % 2) (shr-shr (get_or a n 0) 3 t)
      ∙ digit n (3 + t) (omega arith) (omega (arith, bits_and_bytes f))
      ∙ ap (λ (x : ℕ). x % 2) (sym (shr-shr (get_or b n 0) 3 t))) in
      true_bits f a b (rw (whole, last))
