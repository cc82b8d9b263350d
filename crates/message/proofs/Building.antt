-- What `build` does behind its tests: what the writer asks, and what it leaves. Assumes nothing.
use mathlib.Core.List.{List, [], ◌∷◌, ◌++◌}
use mathlib.Core.Path.{◌≡◌, sym, ap, ◌∙◌, subst}
use Prim.Native.Nat.{ℕ, ◌+◌, ◌-◌, ◌*◌, ◌/◌, ◌^◌, ◌≤◌, ◌<◌}
use native.Mathlib.Omega.{arith}
use lib.ListN.{length, take, drop, length-take}
use Rattle.paper.specs.Number.{done, refused, answer}
use Rattle.paper.specs.Parts.{on_part}
use Rattle.paper.specs.Record.{record_bits}
use Rattle.paper.specs.Message.{Head, form_family, head_width, head_fields, message_bytes, message_bits, message, digits_of, field_bits, bits_from, in_bytes}
use Rattle.paper.specs.Message.{build_number, build_answer, build_buffer}
use Rattle.paper.proofs.Parts.{part_back}
use Rattle.refusals.specs.Reply.{refusal_number}
use Rattle.refusals.specs.declared.Refusal.{Refusal}
use Rattle.refusals.proofs.Answers.{done_room, refused_room, refused_number, answer_refused, above_zero}
use Rattle.message.specs.Heads.{head_number}
use Rattle.message.proofs.Sizes.{head_bytes_and_two, head_most, data_but_three, data_least, data_most, bytes_sum}
use Rattle.message.proofs.Forms.{passed, same_form}
use Rattle.message.proofs.Joined.{Fits, head_digits, head_small}
use Rattle.message.proofs.Passed.{Allowed, build_passed, satellite_fits, allowed_fits}

-- a refusal
pub not_built : (form : ℕ) (h : Head) (bytes buffer : List ℕ) (w : Refusal) → refused (refusal_number w) ≡ answer (build_number form h bytes buffer) (form ∷ [])
    → (refused (refusal_number w) ≡ build_answer form h bytes buffer) × (buffer ≡ build_buffer form h bytes buffer)
unfolding build_answer build_buffer
not_built form h bytes buffer w said =
    let n = build_number form h bytes buffer in
    let k : n ≡ refusal_number w = refused_number (refusal_number w) n (form ∷ []) said in (
      sym (ap (λ (i : ℕ). answer i (message_bytes form ∷ [])) k ∙ answer_refused (refusal_number w) (message_bytes form ∷ []) (above_zero w)),
      refused_room (refusal_number w) n (form ∷ []) (on_part (λ (_ : List ℕ). message form h bytes) 0 (message_bytes form) buffer) buffer said,
    )

-- behind the tests, which hand out the number f as the form's
module _ (form : ℕ) (h : Head) (bytes buffer : List ℕ) (f : ℕ) (said : done (f ∷ []) ≡ answer (build_number form h bytes buffer) (form ∷ [])) where
  zero : build_number form h bytes buffer ≡ 0
  zero = passed f (build_number form h bytes buffer) form said

  same : f ≡ form
  same = same_form f (build_number form h bytes buffer) form said

  p : Allowed form h bytes buffer
  p = build_passed form h bytes buffer zero

  pub fields_fit : Fits h
  fields_fit = allowed_fits form h bytes buffer p

  pub room_is_there : (b : ℕ) → b ≡ message_bytes f → b ≤ length buffer
  room_is_there b eb = let e : b ≡ message_bytes form = rw same at eb in omega (arith, p.with_room)

  pub room_is_long : (b : ℕ) → b ≡ message_bytes f → b ≡ length (take b buffer)
  room_is_long b eb = omega (arith, length-take b buffer, room_is_there b eb)

  pub data_is_long : (2 ≤ length bytes) × (length bytes ≤ 255)
  data_is_long = (omega (arith, p.as_long, data_least form), omega (arith, p.as_long, data_most form))

  pub with_the_head : (k b : ℕ) → k ≡ head_width f / 8 → b ≡ message_bytes f → length (take b buffer) ≡ k + length bytes
  with_the_head k b ek eb = omega (arith, room_is_long b eb, rw same at ek, rw same at eb, p.as_long, bytes_sum form)

  pub head_asks : (k n : ℕ) → k ≡ head_width f / 8 → n ≡ head_number f h → (k ≤ 7) × (n < 2 ^ (8 * k + 2))
  head_asks k n ek en = (
    omega (arith, head_most f),
    rw (en, ek, same)
        (subst (λ (w : ℕ). head_number form h < 2 ^ w) (head_bytes_and_two form) (head_small form h (satellite_fits h.prnd p.owner) fields_fit)),
  )

  -- the bits that the writer writes are the message's
  row_message : (k n : ℕ) → k ≡ head_width f / 8 → n ≡ head_number f h
      → digits_of (8 * k + 2) n ++ bits_from bytes 0 (8 * length bytes - 3) ≡ message_bits form h bytes
  unfolding message_bits
  row_message k n ek en =
      let w : 8 * k + 2 ≡ head_width form = rw (ek, same) (sym (head_bytes_and_two form)) in
      let l : 8 * length bytes - 3 ≡ record_bits (form_family form) = rw p.as_long (sym (data_but_three form)) in
      let d : digits_of (head_width form) (head_number form h) ≡ field_bits (head_fields form h) =
      head_digits form h (satellite_fits h.prnd p.owner) fields_fit in
      rw (w, l, en, same, d)

  pub built : (k n b : ℕ) (y l : List ℕ) → k ≡ head_width f / 8 → n ≡ head_number f h → b ≡ message_bytes f
      → y ≡ in_bytes (length (take b buffer)) (digits_of (8 * k + 2) n ++ bits_from bytes 0 (8 * length bytes - 3))
      → l ≡ y ++ drop b buffer
      → (done (b ∷ []) ≡ build_answer form h bytes buffer) × (l ≡ build_buffer form h bytes buffer)
  unfolding build_answer build_buffer message
  built k n b y l ek en eb ey el =
      let is : b ≡ message_bytes form = rw same at eb in
      let long : length (take b buffer) ≡ message_bytes form = length-take b buffer ∙ omega (arith, p.with_room) in
      let m : y ≡ message form h bytes = ey ∙ rw (long, row_message k n ek en) in (
        rw (zero, is),
        el
            ∙ part_back (λ (_ : List ℕ). message form h bytes) 0 (message_bytes form) b buffer y is m
            ∙ done_room (build_number form h bytes buffer) (on_part (λ (_ : List ℕ). message form h bytes) 0 (message_bytes form) buffer) buffer zero,
      )

-- what is asked there
pub ruleset behind_the_tests = (fields_fit, room_is_there, room_is_long, data_is_long, with_the_head, head_asks)
