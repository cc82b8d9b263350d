-- STORE 21.5: the message is its bits in order; what was built reads back; what differs in a carried field or in the data's bits never gives one
-- message; and what reads back is what building gives. Once over the form's head and the data's width. Assumes nothing.
use mathlib.Core.Bool.{Bool, true, false, cond}
use mathlib.Core.List.{List, [], ◌∷◌, ◌++◌, append-nil}
use mathlib.Core.Path.{◌≡◌, refl, sym, ap, ◌∙◌}
use Prim.Native.Nat.{ℕ, ◌+◌, ◌-◌, ◌*◌, ◌/◌, ◌%◌, ◌^◌, ◌≤◌, ◌<◌}
use native.Mathlib.Nat.{add-zero, zero-add}
use native.Mathlib.Omega.{arith}
use native.Mathlib.Decide.{dec_lt}
use lib.ListN.{length, get_or}
use Rattle.paper.specs.Parts.{Bytes}
use Rattle.paper.specs.Bits.{bit_at}
use Rattle.paper.specs.Record.{record_bits, data_bytes, same_bits}
use Rattle.paper.specs.Field.{bits_at}
use Rattle.paper.specs.Message.{Head, is_tag_zero, form_family, after_prnd, head_fields, prnd_width, head_width, digits_of, field_bits, bits_from, in_bytes}
use Rattle.paper.specs.Message.{message_bits, message_bytes, message, read_head, read_data, padding_of, carried, clean}
use Rattle.packing.proofs.Rows.{AllBits, digits_length, digits_bits, from_length, from_at, from_bits, append_bits, append_first, append_then, past_end, bytes_length, bytes_bytes, bytes_bit, spelled}
use Rattle.packing.proofs.Behind.{from_same, from_join, digits_read, read_digits, from_bytes}
use Rattle.message.specs.Heads.{head_number, head_from}
use Rattle.message.proofs.Sizes.{head_bytes_and_two, data_but_three, one_left}
use Rattle.message.proofs.Joined.{Fits, head_digits, head_small, head_computed}
use Rattle.message.proofs.Reading.{head_read}
use Rattle.message.proofs.Agree.{bits_agree}

-- ---- the message is its bits
fields_bits : (fs : List (ℕ × ℕ)) → AllBits (field_bits fs)
unfolding field_bits
fields_bits [] i = omega arith
fields_bits (f ∷ fs) i = append_bits (digits_of f.0 f.1) (field_bits fs) (digits_bits f.0 f.1) (fields_bits fs) i

module _ (form : ℕ) (h : Head) (d : List ℕ) where
  all_bits : AllBits (message_bits form h d)
  unfolding message_bits
  all_bits =
      append_bits (field_bits (head_fields form h)) (bits_from d 0 (record_bits (form_family form)))
      (fields_bits (head_fields form h)) (from_bits d 0 (record_bits (form_family form)))

  pub message_length : length (message form h d) ≡ message_bytes form
  unfolding message
  message_length = bytes_length (message_bytes form) (message_bits form h d)

  pub message_bytes_lem : Bytes (message form h d)
  unfolding message
  message_bytes_lem = bytes_bytes (message_bytes form) (message_bits form h d) all_bits

  -- bit i of the message is element i of its bits: the fields in their order, the data, and zeros
  pub message_bit : (i : ℕ) → i < 8 * message_bytes form → bit_at (message form h d) i ≡ get_or (message_bits form h d) i 0
  unfolding message
  message_bit i l = bytes_bit (message_bytes form) (message_bits form h d) all_bits i l

  in_head : (i : ℕ) → i < length (field_bits (head_fields form h)) → get_or (message_bits form h d) i 0 ≡ get_or (field_bits (head_fields form h)) i 0
  unfolding message_bits
  in_head i l = append_first (field_bits (head_fields form h)) (bits_from d 0 (record_bits (form_family form))) i l

  behind_head : (i : ℕ) → length (field_bits (head_fields form h)) ≤ i
      → get_or (message_bits form h d) i 0 ≡ get_or (bits_from d 0 (record_bits (form_family form))) (i - length (field_bits (head_fields form h))) 0
  unfolding message_bits
  behind_head i l = append_then (field_bits (head_fields form h)) (bits_from d 0 (record_bits (form_family form))) i l

-- the padding is one bit
padding_is : (form : ℕ) (m : List ℕ) → padding_of form m ≡ bit_at m (head_width form + record_bits (form_family form))
unfolding bits_at
padding_is form m =
    let one : 8 * message_bytes form - (head_width form + record_bits (form_family form)) ≡ 1 = omega (arith, one_left form) in
    rw (one, add-zero (head_width form + record_bits (form_family form))) (omega arith)

padding_zero : (form : ℕ) (m : List ℕ) → bit_at m (head_width form + record_bits (form_family form)) ≡ 0 → padding_of form m ≡ 0
padding_zero form m e = padding_is form m ∙ e

-- ---- what was built reads back
-- the fields of a number that fields were joined to
number_fields : (p a w t c s : ℕ) → p < 2 ^ 8 → a < 2 ^ 8 → w < 2 ^ 12 → t < 2 ^ 20 → c < 2 ^ 8 → s < 2 ^ 2
    → head_from (((((p * 256 + a) * 4096 + w) * 1048576 + t) * 256 + c) * 4 + s)
    ≡ record { prnd = p; prna = a; week = w; time = t; counter = c; status = s }
unfolding head_from
number_fields p a w t c s lp la lw lt lc ls =
    let n : ℕ = ((((p * 256 + a) * 4096 + w) * 1048576 + t) * 256 + c) * 4 + s in
    let ep : n / 2 ^ 50 ≡ p = omega arith in
    let ea : n / 2 ^ 42 % 2 ^ 8 ≡ a = omega arith in
    let ew : n / 2 ^ 30 % 2 ^ 12 ≡ w = omega arith in
    let et : n / 2 ^ 10 % 2 ^ 20 ≡ t = omega arith in
    let ec : n / 2 ^ 2 % 2 ^ 8 ≡ c = omega arith in
    let es : n % 2 ^ 2 ≡ s = omega arith in
    rw (ep, ea, ew, et, ec, es)

module _ (form : ℕ) (h : Head) (d : List ℕ) (p : h.prnd < 2 ^ 8) (f : Fits h) where
  heads_long : length (field_bits (head_fields form h)) ≡ head_width form
  heads_long = ap length (sym (head_digits form h p f)) ∙ digits_length (head_width form) (head_number form h)

  head_number_back : bits_at (message form h d) 0 (head_width form) ≡ head_number form h
  head_number_back =
      read_digits (message form h d) 0 (head_width form) (head_number form h) (head_small form h p f)
      (λ k l.
      ap (bit_at (message form h d)) (zero-add k)
      ∙ message_bit form h d k (omega (arith, one_left form))
      ∙ first k l
      ∙ ap (λ (b : List ℕ). get_or b k 0) (sym (head_digits form h p f)))
    where
      first : (k : ℕ) → k < head_width form → get_or (message_bits form h d) k 0 ≡ get_or (field_bits (head_fields form h)) k 0
      first k l = in_head form h d k (omega (arith, heads_long))

  pub head_back : read_head form (message form h d) ≡ carried form h
  head_back =
      let m = message form h d in
      let w : head_width form ≡ 8 * (head_width form / 8) + 2 = head_bytes_and_two form in
      let lead : cond (is_tag_zero form) 0 h.prnd < 2 ^ 8 = small (is_tag_zero form) in
      sym (head_read form m [] (head_width form / 8) (bits_at m 0 (head_width form)) (head_from (bits_at m 0 (head_width form))) refl (ap (bits_at m 0) w) refl)
      ∙ ap head_from (head_number_back ∙ sym (head_computed form h (cond (is_tag_zero form) 0 h.prnd) refl))
      ∙ number_fields (cond (is_tag_zero form) 0 h.prnd) h.prna h.week h.time h.counter h.status lead
      f.prna_fits f.week_fits f.time_fits f.counter_fits f.status_fits
    where
      small : (z : Bool) → cond z 0 h.prnd < 2 ^ 8
      small true = omega arith
      small false = p

  -- the data's bits stand behind the head
  data_bits_back : bits_from (message form h d) (head_width form) (record_bits (form_family form)) ≡ bits_from d 0 (record_bits (form_family form))
  data_bits_back =
      from_same (message form h d) d (head_width form) 0 (record_bits (form_family form))
      (λ k l.
      message_bit form h d (head_width form + k) (omega (arith, one_left form))
      ∙ behind_head form h d (head_width form + k) (omega (arith, heads_long))
      ∙ ap (λ (n : ℕ). get_or (bits_from d 0 (record_bits (form_family form))) n 0) (omega (arith, heads_long))
      ∙ from_at d 0 (record_bits (form_family form)) k l)

  pub data_back : read_data form (message form h d) ≡ clean form d
  unfolding read_data
  data_back = ap (in_bytes (data_bytes (form_family form))) data_bits_back

  pub padding_back : padding_of form (message form h d) ≡ 0
  padding_back = padding_zero form (message form h d)
      (message_bit form h d (head_width form + record_bits (form_family form)) (omega (arith, one_left form))
      ∙ behind_head form h d (head_width form + record_bits (form_family form)) (omega (arith, heads_long))
      ∙ past_end (bits_from d 0 (record_bits (form_family form))) _ (omega (arith, heads_long, from_length d 0 (record_bits (form_family form)))))

-- ---- what differs gives two messages
-- inputs of one form whose messages are one have the same carried fields and the same data bits
pub one_message : (form : ℕ) (h g : Head) (d e : List ℕ)
    → h.prnd < 2 ^ 8 → Fits h → g.prnd < 2 ^ 8 → Fits g
    → length d ≡ data_bytes (form_family form) → length e ≡ data_bytes (form_family form) → Bytes d → Bytes e
    → message form h d ≡ message form g e
    → (carried form h ≡ carried form g) × (same_bits (form_family form) d e ≡ true)
one_message form h g d e ph fh pg fg ld le bd be q = (
  sym (head_back form h d ph fh) ∙ ap (read_head form) q ∙ head_back form g e pg fg,
  bits_agree (form_family form) d e ld le bd be
      (sym (data_bits_back form h d ph fh)
      ∙ ap (λ (m : List ℕ). bits_from m (head_width form) (record_bits (form_family form))) q
      ∙ data_bits_back form g e pg fg),
)

-- ---- what reads back is what building gives
fields_read : (m : List ℕ) (o : ℕ) (h : Head)
    → h.prna ≡ bits_at m o 8 → h.week ≡ bits_at m (o + 8) 12 → h.time ≡ bits_at m (o + 20) 20 → h.counter ≡ bits_at m (o + 40) 8
    → h.status ≡ bits_at m (o + 48) 2 → field_bits (after_prnd h) ≡ bits_from m o 50
unfolding field_bits
fields_read m o h ea ew et ec es =
    let j1 : bits_from m o 8 ++ bits_from m (o + 8) 12 ≡ bits_from m o 20 = from_join m o 8 12 in
    rw (ea, ew, et, ec, es, digits_read m o 8, digits_read m (o + 8) 12, digits_read m (o + 20) 20, digits_read m (o + 40) 8, digits_read m (o + 48) 2, append-nil (bits_from m (o + 48) 2))
    (ap (λ (l : List ℕ). bits_from m o 8 ++ (bits_from m (o + 8) 12 ++ (bits_from m (o + 20) 20 ++ l))) (step 40 8 2)
    ∙ ap (λ (l : List ℕ). bits_from m o 8 ++ (bits_from m (o + 8) 12 ++ l)) (step 20 20 10)
    ∙ ap (λ (l : List ℕ). bits_from m o 8 ++ l) (step 8 12 30)
    ∙ from_join m o 8 42)
  where
    step : (x a b : ℕ) → bits_from m (o + x) a ++ bits_from m (o + (x + a)) b ≡ bits_from m (o + x) (a + b)
    step x a b = let e : o + (x + a) ≡ o + x + a = omega arith in rw e (from_join m (o + x) a b)

module _ (form : ℕ) (m : List ℕ) (h : Head) (same : carried form h ≡ read_head form m) where
  heads_read : field_bits (head_fields form h) ≡ bits_from m 0 (head_width form)
  unfolding read_head field_bits
  heads_read = go (is_tag_zero form) (ap (λ (x : Head). x.prnd) same) after
    where
      after : field_bits (after_prnd h) ≡ bits_from m (prnd_width form) 50
      after =
          fields_read m (prnd_width form) h (ap (λ (x : Head). x.prna) same) (ap (λ (x : Head). x.week) same) (ap (λ (x : Head). x.time) same)
          (ap (λ (x : Head). x.counter) same) (ap (λ (x : Head). x.status) same)

      go : (z : Bool) → cond z 0 h.prnd ≡ bits_at m 0 (cond z 0 8) → field_bits (after_prnd h) ≡ bits_from m (cond z 0 8) 50
          → field_bits (cond z (after_prnd h) ((8, h.prnd) ∷ after_prnd h)) ≡ bits_from m 0 (cond z 0 8 + 50)
      go true e q = q
      go false e q =
          ap (λ (l : List ℕ). l ++ field_bits (after_prnd h)) (ap (digits_of 8) e ∙ digits_read m 0 8)
          ∙ ap (λ (l : List ℕ). bits_from m 0 8 ++ l) q
          ∙ from_join m 0 8 50

  pub rebuilt : length m ≡ message_bytes form → Bytes m → padding_of form m ≡ 0 → message form h (read_data form m) ≡ m
  unfolding message message_bits read_data
  rebuilt l b z =
      let w = head_width form in
      let n = record_bits (form_family form) in
      let data-read : bits_from (in_bytes (data_bytes (form_family form)) (bits_from m w n)) 0 n ≡ bits_from m w n =
      from_bytes (data_bytes (form_family form)) m w n (omega (arith, data_but_three form)) in
      let all : bits_from m 0 w ++ bits_from m w n ≡ bits_from m 0 (w + n) =
      ap (λ (o : ℕ). bits_from m 0 w ++ bits_from m o n) (sym (zero-add w)) ∙ from_join m 0 w n in
      rw (heads_read, data-read, all) (sym (spelled (message_bytes form) m (bits_from m 0 (w + n)) l b (from_bits m 0 (w + n)) (λ i h. each i h (dec_lt i (w + n)))))
    where
      each : (i : ℕ) → i < 8 * message_bytes form → Dec (i < head_width form + record_bits (form_family form))
          → bit_at m i ≡ get_or (bits_from m 0 (head_width form + record_bits (form_family form))) i 0
      each i h (yes g) =
          ap (bit_at m) (sym (zero-add i)) ∙ sym (from_at m 0 (head_width form + record_bits (form_family form)) i g)
      each i h (no g) =
          let e : i ≡ head_width form + record_bits (form_family form) = omega (arith, one_left form) in
          ap (bit_at m) e
          ∙ sym (padding_is form m)
          ∙ z
          ∙ sym (past_end (bits_from m 0 (head_width form + record_bits (form_family form))) i (omega (arith, from_length m 0 (head_width form + record_bits (form_family form)))))
