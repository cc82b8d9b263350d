-- STORE 21.5, of calls in Rattle and through C alike: what the contract of either promises of a call is a record here, and what was built reads
-- back, what differs gives two messages and what was read is built again, of any calls that have these records. Assumes nothing.
use mathlib.Core.Bool.{true}
use mathlib.Core.List.{List, [], ◌∷◌}
use mathlib.Core.Path.{◌≡◌, sym, ap, subst, ◌∙◌}
use Prim.Native.Nat.{ℕ, ◌≤◌}
use native.Mathlib.Omega.{arith}
use lib.ListN.{length, take}
use Rattle.paper.specs.Number.{Answer, done}
use Rattle.paper.specs.Parts.{Bytes, on_part}
use Rattle.paper.specs.Record.{data_bytes, record_bits, same_bits}
use Rattle.paper.specs.Satellite.{is_satellite}
use Rattle.paper.specs.Message.{Head, form_family, head_width, message_bytes, message, head_values, build_number, build_answer, build_buffer}
use Rattle.paper.specs.Message.{carried, clean, bits_from, read_head, read_data, read_number, read_answer, read_buffer}
use Rattle.paper.proofs.Parts.{on_part_part}
use Rattle.packing.proofs.Rows.{bytes_length}
use Rattle.refusals.proofs.Answers.{done_number, done_room}
use Rattle.message.proofs.Passed.{build_passed}
use Rattle.message.proofs.Reading.{lengths_passed, zero_read}
use Rattle.message.proofs.Trips.{message_length}
use Rattle.message.proofs.Calls.{built_reads, two_messages, read_builds}

-- a call of building that had the answer x and left the buffer so
pub record BuildRan (form : ℕ) (h : Head) (given buffer after : List ℕ) (x : Answer) : Type 0 where
  pub answers : x ≡ build_answer form h given buffer
  pub leaves : after ≡ build_buffer form h given buffer
  pub bytes : Bytes given

-- a call of reading back that had the answer x and left the buffer so
pub record ReadRan (form : ℕ) (m buffer after : List ℕ) (x : Answer) : Type 0 where
  pub answers : x ≡ read_answer form m buffer
  pub leaves : after ≡ read_buffer form m buffer
  pub bytes : Bytes m

-- ---- an answer 0 leaves the message in the first bytes of the buffer, as many as it says
module _ (form : ℕ) (h : Head) (given buffer after : List ℕ) (n : ℕ) (ran : BuildRan form h given buffer after (done (n ∷ []))) where
  zero : build_number form h given buffer ≡ 0
  unfolding build_answer
  zero = done_number (build_number form h given buffer) (message_bytes form ∷ []) (n ∷ []) ran.answers

  as_many : n ≡ message_bytes form
  unfolding build_answer
  as_many = let e : done (n ∷ []) ≡ done (message_bytes form ∷ []) = rw zero at ran.answers in cc

  in_front : take n after ≡ message form h given
  unfolding build_buffer
  in_front =
      let p = build_passed form h given buffer zero in
      let f : List ℕ → List ℕ = λ (_ : List ℕ). message form h given in
      ap (take n) ran.leaves
      ∙ rw (as_many, ← done_room (build_number form h given buffer) (on_part f 0 (message_bytes form) buffer) buffer zero)
      (on_part_part f (message_bytes form) (λ r e. message_length form h given) 0 buffer (omega (arith, p.with_room)))

  -- what reading it back answers and leaves, in any buffer that the data fits
  pub reads_back : (form' : ℕ) (m lent left : List ℕ) (x : Answer) → ReadRan form' m lent left x
      → form' ≡ form → m ≡ take n after → data_bytes (form_family form) ≤ length lent
      → (x ≡ done (head_values (carried form h))) × (left ≡ on_part (λ (_ : List ℕ). clean form given) 0 (data_bytes (form_family form)) lent)
  reads_back form' m lent left x read same-form same_bytes room =
      let back = built_reads form h given buffer lent zero room in
      let is : m ≡ message form h given = same_bytes ∙ in_front in
      (read.answers ∙ rw (same-form, is) back.0, read.leaves ∙ rw (same-form, is) back.1)

-- ---- two that were built of one form and are one message carry the same
pub two_carry : (form : ℕ) (h : Head) (given buffer after : List ℕ) (n : ℕ) → BuildRan form h given buffer after (done (n ∷ []))
    → (form' : ℕ) (g : Head) (other lent left : List ℕ) (k : ℕ) → BuildRan form' g other lent left (done (k ∷ []))
    → form' ≡ form → take n after ≡ take k left
    → (carried form h ≡ carried form g) × (same_bits (form_family form) given other ≡ true)
two_carry form h given buffer after n ran form' g other lent left k ran' same-form same =
    let ran2 : BuildRan form g other lent left (done (k ∷ [])) = subst (λ f. BuildRan f g other lent left (done (k ∷ []))) same-form ran' in
    two_messages form h g given other buffer lent ran.bytes ran2.bytes (zero form h given buffer after n ran) (zero form g other lent left k ran2)
    (sym (in_front form h given buffer after n ran) ∙ same ∙ in_front form g other lent left k ran2)

-- ---- an answer 0 hands out the fields of the message, and leaves its data in the first bytes of the buffer
module _ (form : ℕ) (m buffer after : List ℕ) (h : Head) (ran : ReadRan form m buffer after (done (head_values h))) where
  no_refusal : read_number form m buffer ≡ 0
  unfolding read_answer
  no_refusal = done_number (read_number form m buffer) (head_values (read_head form m)) (head_values h) ran.answers

  its_fields : h ≡ read_head form m
  unfolding read_answer
  its_fields =
      let g = read_head form m in
      let e : done (head_values h) ≡ done (head_values g) = rw no_refusal at ran.answers in
      let p : h.prnd ≡ g.prnd = cc in
      let a : h.prna ≡ g.prna = cc in
      let w : h.week ≡ g.week = cc in
      let t : h.time ≡ g.time = cc in
      let c : h.counter ≡ g.counter = cc in
      let s : h.status ≡ g.status = cc in
      λ i. record { prnd = p i; prna = a i; week = w i; time = t i; counter = c i; status = s i }

  its_data : take (data_bytes (form_family form)) after ≡ read_data form m
  unfolding read_buffer read_data
  its_data =
      let n = data_bytes (form_family form) in
      let f : List ℕ → List ℕ = λ (_ : List ℕ). read_data form m in
      let room = (lengths_passed form m buffer (zero_read form m buffer no_refusal).0).1 in
      ap (take n) ran.leaves
      ∙ rw (← done_room (read_number form m buffer) (on_part f 0 n buffer) buffer no_refusal)
      (on_part_part f n (λ r e. bytes_length n (bits_from m (head_width form) (record_bits (form_family form)))) 0 buffer (omega (arith, room)))

  -- what building it again answers and leaves, of a head that carries these fields, in any buffer that the message fits
  pub builds_again : (form' : ℕ) (g : Head) (given lent left : List ℕ) (x : Answer) → BuildRan form' g given lent left x
      → form' ≡ form → carried form g ≡ h → is_satellite g.prnd ≡ true → given ≡ take (data_bytes (form_family form)) after
      → message_bytes form ≤ length lent
      → (x ≡ done (message_bytes form ∷ [])) × (left ≡ on_part (λ (_ : List ℕ). m) 0 (message_bytes form) lent)
  builds_again form' g given lent left x build same-form same_head owner same-data room =
      let is : given ≡ read_data form m = same-data ∙ its_data in
      let again = read_builds form m buffer lent g no_refusal (same_head ∙ its_fields) owner room ran.bytes in
      (build.answers ∙ rw (same-form, is) again.0, build.leaves ∙ rw (same-form, is) again.1)
