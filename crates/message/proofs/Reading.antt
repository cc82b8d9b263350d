-- What `read` does: its refusals in their order, the fields of the head's number, the padding, and the data. Assumes nothing.
use mathlib.Core.Bool.{Bool, true, false, cond, not}
use mathlib.Core.List.{List, [], ◌∷◌, ◌++◌}
use mathlib.Core.Path.{◌≡◌, refl, sym, ap, ◌∙◌}
use Prim.Native.Nat.{ℕ, ◌+◌, ◌-◌, ◌*◌, ◌/◌, ◌%◌, ◌^◌, ◌≤◌, ◌<◌}
use native.Mathlib.Nat.{lt_of_lt_of_le, add-zero}
use native.Mathlib.Omega.{arith}
use borrow.Author.Tests.{leb-true, eqb-true, eqb-false, eq-eqb, ne_eqb}
use lib.Dec.{eqb, leb}
use lib.Pow.{pow_mono, high}
use lib.ListN.{length, get_or, take, drop, length-take}
use Rattle.paper.specs.Number.{done, refused, answer, unless}
use Rattle.paper.specs.Time.{is_time, is_start}
use Rattle.paper.specs.Parts.{on_part}
use Rattle.paper.specs.Record.{record_bits, data_bytes}
use Rattle.paper.specs.Field.{bits_at}
use Rattle.paper.specs.Message.{Head, form_known, form_family, prnd_width, head_width, message_bytes, bits_from, in_bytes, satellites_read}
use Rattle.paper.specs.Message.{read_head, read_data, padding_of, head_values, read_number, read_answer, read_buffer}
use Rattle.paper.proofs.Order.{unless_zero}
use Rattle.paper.proofs.Parts.{part_back}
use Rattle.paper.proofs.StoreFacts.{both_true}
use Rattle.paper.proofs.Fields.{bits_small, bits_join, bits_inside}
use Rattle.refusals.specs.Reply.{refusal_number}
use Rattle.refusals.specs.declared.Refusal.{Refusal}
use Rattle.refusals.proofs.Answers.{done_number, done_room, refused_number, refused_room, answer_refused, above_zero}
use Rattle.message.specs.Heads.{head_from}
use Rattle.message.specs.Outcome.{well_long, lengths_number, fields_number}
use Rattle.message.proofs.Forms.{passed, same_form}
use Rattle.message.proofs.Sizes.{head_bytes_and_two, head_most, data_but_three, data_least, data_most, bytes_sum, one_left}

-- ---- the order: the lengths, then the fields, then the padding
-- a number, and where it is 0 a later one
abbrev pub and_then : ℕ → ℕ → ℕ
and_then a later = cond (eqb a 0) later a

stops : (a later : ℕ) → 1 ≤ a → and_then a later ≡ a
stops a later h = rw (ne_eqb a 0 (λ e. omega arith))

goes_on : (a later : ℕ) → a ≡ 0 → and_then a later ≡ later
goes_on a later e = rw e

both_zero : (a later : ℕ) → and_then a later ≡ 0 → (a ≡ 0) × (later ≡ 0)
both_zero a later e = go (eqb a 0) refl
  where
    go : (b : Bool) → eqb a 0 ≡ b → (a ≡ 0) × (later ≡ 0)
    go true q = (eqb-true a 0 q, sym (goes_on a later (eqb-true a 0 q)) ∙ e)
    go false q = let z : a ≡ 0 = rw q at e in (z, absurd (eqb-false a 0 q z))

pub read_order : (form : ℕ) (m buffer : List ℕ)
    → read_number form m buffer
    ≡ and_then (lengths_number form m buffer) (and_then (fields_number form (read_head form m)) (unless (eqb (padding_of form m) 0) 26 0))
unfolding read_number lengths_number fields_number
read_order form m buffer =
    let h = read_head form m in
    go (form_known form) (well_long form m buffer) (satellites_read form h) (is_time h.time) (is_start h.time) (not (eqb h.counter 0))
    (unless (eqb (padding_of form m) 0) 26 0)
  where
    go : (a b c d e f : Bool) (p : ℕ)
        → unless a 9 (unless b 8 (unless c 4 (unless d 5 (unless e 6 (unless f 8 p)))))
        ≡ and_then (unless a 9 (unless b 8 0)) (and_then (unless c 4 (unless d 5 (unless e 6 (unless f 8 0)))) p)
    go false b c d e f p = refl
    go true false c d e f p = refl
    go true true false d e f p = refl
    go true true true false e f p = refl
    go true true true true false f p = refl
    go true true true true true false p = refl
    go true true true true true true p = refl

module _ (form : ℕ) (m buffer : List ℕ) where
  -- a refusal with a number
  not_read : (k : ℕ) → 1 ≤ k → read_number form m buffer ≡ k → (refused k ≡ read_answer form m buffer) × (buffer ≡ read_buffer form m buffer)
  unfolding read_answer read_buffer
  not_read k h e =
      let v = head_values (read_head form m) in
      let a : answer (read_number form m buffer) v ≡ refused k = ap (λ (n : ℕ). answer n v) e ∙ answer_refused k v h in (
        sym a,
        refused_room k (read_number form m buffer) v (on_part (λ (_ : List ℕ). read_data form m) 0 (data_bytes (form_family form)) buffer) buffer (sym a),
      )

  pub lengths_refused : (w : Refusal) → refused (refusal_number w) ≡ answer (lengths_number form m buffer) (form ∷ [])
      → (refused (refusal_number w) ≡ read_answer form m buffer) × (buffer ≡ read_buffer form m buffer)
  lengths_refused w said =
      let k : lengths_number form m buffer ≡ refusal_number w = refused_number (refusal_number w) _ (form ∷ []) said in
      not_read (refusal_number w) (above_zero w) (read_order form m buffer ∙ rw k (stops (refusal_number w) _ (above_zero w)))

  fields_refuse : lengths_number form m buffer ≡ 0 → (w : Refusal) → refused (refusal_number w) ≡ answer (fields_number form (read_head form m)) []
      → (refused (refusal_number w) ≡ read_answer form m buffer) × (buffer ≡ read_buffer form m buffer)
  fields_refuse z w said =
      let k : fields_number form (read_head form m) ≡ refusal_number w = refused_number (refusal_number w) _ [] said in
      not_read (refusal_number w) (above_zero w)
      (read_order form m buffer ∙ goes_on (lengths_number form m buffer) _ z ∙ rw k (stops (refusal_number w) _ (above_zero w)))

  padding_refuse : lengths_number form m buffer ≡ 0 → fields_number form (read_head form m) ≡ 0 → (padding_of form m ≡ 0 → ⊥)
      → (refused 26 ≡ read_answer form m buffer) × (buffer ≡ read_buffer form m buffer)
  padding_refuse z f n =
      let p : unless (eqb (padding_of form m) 0) 26 0 ≡ 26 = rw (ne_eqb (padding_of form m) 0 n) in
      not_read 26 (omega arith)
      (read_order form m buffer ∙ goes_on (lengths_number form m buffer) _ z ∙ goes_on (fields_number form (read_head form m)) _ f ∙ p)

  pub read_zero : lengths_number form m buffer ≡ 0 → fields_number form (read_head form m) ≡ 0 → padding_of form m ≡ 0 → read_number form m buffer ≡ 0
  read_zero z f p =
      let q : unless (eqb (padding_of form m) 0) 26 0 ≡ 0 = rw (eq-eqb (padding_of form m) 0 p) in
      read_order form m buffer ∙ goes_on (lengths_number form m buffer) _ z ∙ goes_on (fields_number form (read_head form m)) _ f ∙ q

  -- and back
  pub zero_read : read_number form m buffer ≡ 0 → (lengths_number form m buffer ≡ 0) × (fields_number form (read_head form m) ≡ 0) × (padding_of form m ≡ 0)
  zero_read e =
      let a = both_zero (lengths_number form m buffer) _ (sym (read_order form m buffer) ∙ e) in
      let b = both_zero (fields_number form (read_head form m)) (unless (eqb (padding_of form m) 0) 26 0) a.1 in
      (a.0, b.0, eqb-true (padding_of form m) 0 (unless_zero (eqb (padding_of form m) 0) 26 0 (omega arith) b.1).0)

  -- what the lengths say once they are passed
  pub lengths_passed : lengths_number form m buffer ≡ 0 → (length m ≡ message_bytes form) × (data_bytes (form_family form) ≤ length buffer)
  unfolding lengths_number
  lengths_passed z =
      let a = unless_zero (form_known form) 9 _ (omega arith) z in
      let b = unless_zero (well_long form m buffer) 8 0 (omega arith) a.1 in
      let c = both_true (eqb (length m) (message_bytes form)) (leb (data_bytes (form_family form)) (length buffer)) b.0 in
      (eqb-true (length m) (message_bytes form) c.0, leb-true (data_bytes (form_family form)) (length buffer) c.1)

  -- ---- the head
  number_is : (k n : ℕ) → k ≡ head_width form / 8 → n ≡ bits_at m 0 (8 * k + 2) → n ≡ bits_at m 0 (head_width form)
  number_is k n ek en = en ∙ ap (bits_at m 0) (rw ek (sym (head_bytes_and_two form)))

  head_below : (k n : ℕ) → k ≡ head_width form / 8 → n ≡ bits_at m 0 (8 * k + 2) → n < 2 ^ 58
  head_below k n ek en =
      rw (number_is k n ek en)
      (lt_of_lt_of_le (bits_small m 0 (head_width form)) (pow_mono {i = head_width form} {j = 58} (omega (arith, head_bytes_and_two form, head_most form))))

  -- the fields from bit o on
  abbrev head_at : ℕ → Head
  head_at o =
      record {
        prnd = bits_at m 0 o;
        prna = bits_at m o 8;
        week = bits_at m (o + 8) 12;
        time = bits_at m (o + 20) 20;
        counter = bits_at m (o + 40) 8;
        status = bits_at m (o + 48) 2;
      }

  -- the fields of the number are the message's
  pub head_read : (k n : ℕ) (h : Head) → k ≡ head_width form / 8 → n ≡ bits_at m 0 (8 * k + 2) → h ≡ head_from n → h ≡ read_head form m
  unfolding head_from read_head
  head_read k n h ek en eh = eh ∙ rw (number_is k n ek en) (go (prnd_width form))
    where
      cut : (o a w c : ℕ) → o + 50 ≡ o + a + (w + c) → bits_at m 0 (o + 50) / 2 ^ c % 2 ^ w ≡ bits_at m (o + a) w
      cut o a w c e = ap (λ (n : ℕ). bits_at m 0 n / 2 ^ c % 2 ^ w) e ∙ bits_inside m 0 (o + a) w c ∙ ap (λ (x : ℕ). bits_at m x w) (omega arith)

      first : (o : ℕ) → bits_at m 0 (o + 50) / 2 ^ 50 ≡ bits_at m 0 o
      first o = ap (λ (n : ℕ). n / 2 ^ 50) (bits_join m 0 o 50) ∙ high (bits_at m 0 o) 50 (bits_small m (0 + o) 50)

      last : (o : ℕ) → bits_at m 0 (o + 50) % 2 ^ 2 ≡ bits_at m (o + 48) 2
      last o = ap (λ (n : ℕ). n % 2 ^ 2) (omega arith) ∙ cut o 48 2 0 (omega arith)

      go : (o : ℕ) → head_from (bits_at m 0 (o + 50)) ≡ head_at o
      go o = rw (first o, (cut o 0 8 42 (omega arith) ∙ ap (λ (x : ℕ). bits_at m x 8) (add-zero o)), cut o 8 12 30 (omega arith), cut o 20 20 10 (omega arith), cut o 40 8 2 (omega arith), last o)

  -- ---- the padding is the last bit
  padding_bit : lengths_number form m buffer ≡ 0 → get_or m (length m - 1) 0 % 2 ≡ padding_of form m
  unfolding bits_at
  padding_bit z =
      let p = lengths_passed z in
      let one : 8 * message_bytes form - (head_width form + record_bits (form_family form)) ≡ 1 = omega (arith, one_left form) in
      let j : (head_width form + record_bits (form_family form) + 0) / 8 ≡ length m - 1 = omega (arith, one_left form, p.0) in
      let r : (head_width form + record_bits (form_family form) + 0) % 8 ≡ 7 = omega (arith, one_left form) in
      rw (one, j, r) (omega arith)

  -- ---- the call: its tests hand out the number f as the form's
  module _ (f : ℕ) (said : done (f ∷ []) ≡ answer (lengths_number form m buffer) (form ∷ [])) where
    right : lengths_number form m buffer ≡ 0
    right = passed f (lengths_number form m buffer) form said

    same : f ≡ form
    same = same_form f (lengths_number form m buffer) form said

    long : (length m ≡ message_bytes form) × (data_bytes (form_family form) ≤ length buffer)
    long = lengths_passed right

    pub some_bytes : 1 ≤ length m
    some_bytes = omega (arith, long.0, bytes_sum form, data_least form)

    pub room_is_there : (d : ℕ) → d ≡ data_bytes (form_family f) → d ≤ length buffer
    room_is_there d ed = let e : d ≡ data_bytes (form_family form) = rw same at ed in omega (arith, long.1)

    pub room_is_long : (d : ℕ) → d ≡ data_bytes (form_family f) → d ≡ length (take d buffer)
    room_is_long d ed = omega (arith, length-take d buffer, room_is_there d ed)

    module _ (k : ℕ) (ek : k ≡ head_width f / 8) where
      its : k ≡ head_width form / 8
      its = rw same at ek

      pub head_asks : (k < length m) × (k ≤ 7)
      head_asks = (omega (arith, its, long.0, bytes_sum form, data_least form), omega (arith, its, head_most form))

      pub body_asks : (d : ℕ) → d ≡ data_bytes (form_family f)
          → (length m ≡ k + length (take d buffer)) × (1 ≤ length (take d buffer)) × (length (take d buffer) ≤ 255) × (k ≤ 7)
      body_asks d ed =
          let e : d ≡ data_bytes (form_family form) = rw same at ed in
          let l = room_is_long d ed in
          (omega (arith, its, l, long.0, bytes_sum form), omega (arith, l, data_least form), omega (arith, l, data_most form), omega (arith, its, head_most form))

      module _ (n : ℕ) (en : n ≡ bits_at m 0 (8 * k + 2)) where
        pub number_below : n < 2 ^ 58
        number_below = head_below k n its en

        module _ (h : Head) (eh : h ≡ head_from n) where
          fields : h ≡ read_head form m
          fields = head_read k n h its en eh

          pub fields_refused : (w : Refusal) → refused (refusal_number w) ≡ answer (fields_number f h) []
              → (refused (refusal_number w) ≡ read_answer form m buffer) × (buffer ≡ read_buffer form m buffer)
          fields_refused w says = fields_refuse right w (rw (same, fields) at says)

          module _ (fit : done [] ≡ answer (fields_number f h) []) where
            fields_right : fields_number form (read_head form m) ≡ 0
            fields_right = done_number (fields_number form (read_head form m)) [] [] (rw (same, fields) at fit)

            pub padding_refused : (get_or m (length m - 1) 0 % 2 ≡ 0 → ⊥) → (refused 26 ≡ read_answer form m buffer) × (buffer ≡ read_buffer form m buffer)
            padding_refused n = padding_refuse right fields_right (λ p. n (padding_bit right ∙ p))

            pub was_read : get_or m (length m - 1) 0 % 2 ≡ 0 → (d : ℕ) (y l : List ℕ) → d ≡ data_bytes (form_family f)
                → y ≡ in_bytes (length (take d buffer)) (bits_from m (8 * k + 2) (8 * length (take d buffer) - 3))
                → l ≡ y ++ drop d buffer
                → (done (head_values h) ≡ read_answer form m buffer) × (l ≡ read_buffer form m buffer)
            unfolding read_answer read_buffer read_data
            was_read pz d y l ed ey el =
                let zero = read_zero right fields_right (sym (padding_bit right) ∙ pz) in
                let e : d ≡ data_bytes (form_family form) = rw same at ed in
                let all : length (take d buffer) ≡ data_bytes (form_family form) = length-take d buffer ∙ omega (arith, long.1) in
                let w : 8 * k + 2 ≡ head_width form = rw its (sym (head_bytes_and_two form)) in
                let n : 8 * data_bytes (form_family form) - 3 ≡ record_bits (form_family form) = sym (data_but_three form) in
                let data_is : y ≡ read_data form m = ey ∙ rw (all, w, n) in (
                  rw (zero, fields),
                  el
                      ∙ part_back (λ (_ : List ℕ). read_data form m) 0 (data_bytes (form_family form)) d buffer y e data_is
                      ∙ done_room (read_number form m buffer) (on_part (λ (_ : List ℕ). read_data form m) 0 (data_bytes (form_family form)) buffer) buffer zero,
                )

-- what is asked behind the tests
pub ruleset behind_the_tests = (some_bytes, room_is_there, room_is_long, head_asks, number_below, body_asks)
