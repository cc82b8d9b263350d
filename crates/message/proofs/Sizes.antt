-- The sizes of the forms: the head is whole bytes and two bits, the data lacks three bits of its bytes, and so one bit is left. Assumes nothing.
use mathlib.Core.Bool.{Bool, true, false, cond}
use mathlib.Core.Path.{◌≡◌, refl}
use Prim.Native.Nat.{ℕ, ◌+◌, ◌-◌, ◌*◌, ◌/◌, ◌≤◌}
use lib.Dec.{eqb}
use native.Mathlib.Omega.{arith}
use Rattle.paper.specs.Record.{family_if, record_bits, data_bytes}
use Rattle.paper.specs.Message.{form_family, is_tag_zero, head_width, message_bytes}

module _ (form : ℕ) where
  pub head_bytes_and_two : head_width form ≡ 8 * (head_width form / 8) + 2
  head_bytes_and_two = go (is_tag_zero form)
    where
      go : (z : Bool) → cond z 0 8 + 50 ≡ 8 * ((cond z 0 8 + 50) / 8) + 2
      go true = refl
      go false = refl

  pub head_most : head_width form / 8 ≤ 7
  head_most = go (is_tag_zero form)
    where
      go : (z : Bool) → (cond z 0 8 + 50) / 8 ≤ 7
      go true = omega arith
      go false = omega arith

  pub data_but_three : record_bits (form_family form) ≡ 8 * data_bytes (form_family form) - 3
  data_but_three = go (eqb form 2)
    where
      go : (t : Bool) → record_bits (family_if t) ≡ 8 * data_bytes (family_if t) - 3
      go true = refl
      go false = refl

  pub data_least : 2 ≤ data_bytes (form_family form)
  data_least = go (eqb form 2)
    where
      go : (t : Bool) → 2 ≤ data_bytes (family_if t)
      go true = omega arith
      go false = omega arith

  pub data_most : data_bytes (form_family form) ≤ 69
  data_most = go (eqb form 2)
    where
      go : (t : Bool) → data_bytes (family_if t) ≤ 69
      go true = omega arith
      go false = omega arith

  -- the whole bytes of the head, and the data's
  pub bytes_sum : message_bytes form ≡ head_width form / 8 + data_bytes (form_family form)
  bytes_sum = omega (arith, head_bytes_and_two, data_but_three, data_least)

  -- one bit is left behind the data
  pub one_left : head_width form + record_bits (form_family form) + 1 ≡ 8 * message_bytes form
  one_left = omega (arith, bytes_sum, head_bytes_and_two, data_but_three, data_least)
