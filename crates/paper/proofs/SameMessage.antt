-- A message depends on the data's 549 or 141 bits alone: data that agrees in them (STORE 6.4) gives one message, whatever stands past them and
-- however long the lists are. Assumes nothing.
use mathlib.Core.Bool.{true}
use mathlib.Core.List.{List, ◌++◌}
use mathlib.Core.Path.{◌≡◌, refl, sym, ap, ◌∙◌}
use Prim.Native.Nat.{ℕ, zero, suc, ◌+◌, ◌<◌}
use native.Mathlib.Omega.{arith}
use native.Mathlib.Nat.{add-zero, zero-add}
use Rattle.paper.specs.Bits.{bit_at}
use Rattle.paper.specs.Record.{Family, record_bits, same_bits}
use Rattle.paper.specs.Message.{Head, form_family, head_fields, field_bits, bits_from, in_bytes, message_bits, message_bytes, message}
use Rattle.paper.proofs.Same.{same_bit}

bits_alike : (a b : List ℕ) (o n : ℕ) → ((k : ℕ) → k < n → bit_at a (o + k) ≡ bit_at b (o + k)) → bits_from a o n ≡ bits_from b o n
unfolding bits_from
bits_alike a b o zero g = refl
bits_alike a b o (suc n) g =
    let here : bit_at a o ≡ bit_at b o = ap (bit_at a) (sym (add-zero o)) ∙ g 0 (omega arith) ∙ ap (bit_at b) (add-zero o) in
    let on : (k : ℕ) → k < n → bit_at a (o + 1 + k) ≡ bit_at b (o + 1 + k) =
    λ k h. let s : o + 1 + k ≡ o + suc k = omega arith in ap (bit_at a) s ∙ g (suc k) (omega arith) ∙ ap (bit_at b) (sym s) in
    rw (here, bits_alike a b (o + 1) n on)

pub agree_bits : (f : Family) (a b : List ℕ) → same_bits f a b ≡ true → bits_from a 0 (record_bits f) ≡ bits_from b 0 (record_bits f)
agree_bits f a b e =
    bits_alike a b 0 (record_bits f) (λ k h. ap (bit_at a) (zero-add k) ∙ same_bit f a b e k h ∙ ap (bit_at b) (sym (zero-add k)))

pub same_message : (form : ℕ) (h : Head) (given bytes : List ℕ) → same_bits (form_family form) given bytes ≡ true
    → message form h given ≡ message form h bytes
unfolding message message_bits
same_message form h given bytes e =
    ap (λ (bits : List ℕ). in_bytes (message_bytes form) (field_bits (head_fields form h) ++ bits)) (agree_bits (form_family form) given bytes e)
