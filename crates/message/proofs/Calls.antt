-- STORE 21.5, of the two calls: what building answered with 0 is read back with 0, its carried fields and its data; two inputs of one form that
-- were both built and gave one message carry the same; what reading back answered with 0 is built again. Assumes nothing.
use mathlib.Core.Bool.{Bool, true, false, cond, not, ◌||◌}
use mathlib.Core.List.{List, [], ◌∷◌}
use mathlib.Core.Path.{◌≡◌, refl, sym, ap, ◌∙◌}
use Prim.Native.Nat.{ℕ, ◌+◌, ◌≤◌}
use native.Mathlib.Omega.{arith}
use borrow.Author.Tests.{leb-true, le-leb, eq-eqb, ne_eqb, eqb-false}
use lib.Dec.{eqb, leb}
use lib.ListN.{length}
use Rattle.paper.specs.Number.{done}
use Rattle.paper.specs.Time.{is_time, is_start}
use Rattle.paper.specs.Satellite.{is_satellite}
use Rattle.paper.specs.Parts.{Bytes, on_part}
use Rattle.paper.specs.Record.{record_bits, data_bytes, same_bits}
use Rattle.paper.specs.Field.{bits_at}
use Rattle.paper.specs.Tag.{status_known}
use Rattle.paper.specs.Message.{Head, is_tag_zero, form_known, form_family, prnd_width, head_width, message_bytes, message, satellites_read, head_values}
use Rattle.paper.specs.Message.{carried, clean, most_week, counter_allowed, read_head, read_data, padding_of, bits_from}
use Rattle.paper.specs.Message.{build_number, build_answer, build_buffer, read_number, read_answer, read_buffer}
use Rattle.paper.proofs.Order.{unless_zero}
use Rattle.paper.proofs.StoreFacts.{both_true, true_both}
use Rattle.paper.proofs.Fields.{bits_small}
use Rattle.packing.proofs.Rows.{bytes_length}
use Rattle.message.specs.Outcome.{lengths_number, fields_number}
use Rattle.message.proofs.Passed.{Allowed, build_passed, satellite_fits, allowed_fits}
use Rattle.message.proofs.Reading.{read_zero, zero_read, lengths_passed}
use Rattle.message.proofs.Trips.{message_length, head_back, data_back, padding_back, one_message, rebuilt}

-- ---- what was built is read back
module _ (form : ℕ) (h : Head) (d buffer lent : List ℕ) (zero : build_number form h d buffer ≡ 0) (room : data_bytes (form_family form) ≤ length lent) where
  p : Allowed form h d buffer
  p = build_passed form h d buffer zero

  m : List ℕ
  m = message form h d

  same_head : read_head form m ≡ carried form h
  unfolding m
  same_head = head_back form h d (satellite_fits h.prnd p.owner) (allowed_fits form h d buffer p)

  carried_satellites : satellites_read form (carried form h) ≡ true
  carried_satellites = true_both (is_satellite h.prna) _ p.sender (go (is_tag_zero form))
    where
      go : (z : Bool) → (z || is_satellite (cond z 0 h.prnd)) ≡ true
      go true = refl
      go false = p.owner

  fields_pass : fields_number form (read_head form m) ≡ 0
  unfolding fields_number
  fields_pass =
      let some : eqb h.counter 0 ≡ false =
      ne_eqb h.counter 0 (λ e. omega (arith, leb-true 1 h.counter (both_true (leb 1 h.counter) (leb h.counter 255) p.a_counter).0)) in
      rw (same_head, carried_satellites, p.a_time, p.a_start, some)

  lengths_pass : lengths_number form m lent ≡ 0
  unfolding lengths_number m
  lengths_pass = rw (p.a_form, eq-eqb _ _ (message_length form h d), le-leb _ _ room)

  pub built_is_read : read_number form (message form h d) lent ≡ 0
  unfolding m
  built_is_read = read_zero form m lent lengths_pass fields_pass (padding_back form h d (satellite_fits h.prnd p.owner) (allowed_fits form h d buffer p))

  -- with every field that the form carries, and the data's bits with zeros past them
  pub built_reads :
      (read_answer form (message form h d) lent ≡ done (head_values (carried form h)))
      × (read_buffer form (message form h d) lent ≡ on_part (λ (_ : List ℕ). clean form d) 0 (data_bytes (form_family form)) lent)
  unfolding read_answer read_buffer m
  built_reads = (
    rw (built_is_read, same_head),
    rw (built_is_read, data_back form h d (satellite_fits h.prnd p.owner) (allowed_fits form h d buffer p)),
  )

-- ---- two inputs of one form that differ in a field which it carries, or in the data's bits, never give one message
pub two_messages : (form : ℕ) (h g : Head) (d e buffer lent : List ℕ) → Bytes d → Bytes e
    → build_number form h d buffer ≡ 0 → build_number form g e lent ≡ 0 → message form h d ≡ message form g e
    → (carried form h ≡ carried form g) × (same_bits (form_family form) d e ≡ true)
two_messages form h g d e buffer lent bd be zh zg q =
    let p = build_passed form h d buffer zh in
    let r = build_passed form g e lent zg in
    one_message form h g d e (satellite_fits h.prnd p.owner) (allowed_fits form h d buffer p) (satellite_fits g.prnd r.owner)
    (allowed_fits form g e lent r) p.as_long r.as_long bd be q

-- ---- what was read back is built again, of a head that carries what was read: in tag 0 with any satellite for the data's
module _ (form : ℕ) (m buffer lent : List ℕ) (h : Head) (zero : read_number form m buffer ≡ 0) (same : carried form h ≡ read_head form m)
    (owner : is_satellite h.prnd ≡ true) (room : message_bytes form ≤ length lent) where
  passed : (lengths_number form m buffer ≡ 0) × (fields_number form (read_head form m) ≡ 0) × (padding_of form m ≡ 0)
  passed = zero_read form m buffer zero

  on_carried : fields_number form (carried form h) ≡ 0
  on_carried = ap (fields_number form) same ∙ passed.1

  fields_say : (is_satellite h.prna ≡ true) × (is_time h.time ≡ true) × (is_start h.time ≡ true) × (not (eqb h.counter 0) ≡ true)
  unfolding fields_number
  fields_say =
      let a = unless_zero (satellites_read form (carried form h)) 4 _ (omega arith) on_carried in
      let b = unless_zero (is_time h.time) 5 _ (omega arith) a.1 in
      let c = unless_zero (is_start h.time) 6 _ (omega arith) b.1 in
      let k = unless_zero (not (eqb h.counter 0)) 8 0 (omega arith) c.1 in
      ((both_true (is_satellite h.prna) _ a.0).0, b.0, c.0, k.0)

  a_form : form_known form ≡ true
  unfolding lengths_number
  a_form = (unless_zero (form_known form) 9 _ (omega arith) passed.0).0

  week_says : leb h.week most_week ≡ true
  unfolding read_head
  week_says =
      let e : h.week ≡ bits_at m (prnd_width form + 8) 12 = ap (λ (x : Head). x.week) same in
      le-leb h.week most_week (omega (arith, bits_small m (prnd_width form + 8) 12))

  status_says : status_known h.status ≡ true
  unfolding read_head
  status_says =
      let e : h.status ≡ bits_at m (prnd_width form + 48) 2 = ap (λ (x : Head). x.status) same in
      le-leb h.status 3 (omega (arith, bits_small m (prnd_width form + 48) 2))

  counter_says : counter_allowed h.counter ≡ true
  unfolding read_head
  counter_says =
      let e : h.counter ≡ bits_at m (prnd_width form + 40) 8 = ap (λ (x : Head). x.counter) same in
      let some : eqb h.counter 0 ≡ false = turned (eqb h.counter 0) fields_say.3 in
      let n = eqb-false h.counter 0 some in
      true_both (leb 1 h.counter) (leb h.counter 255) (le-leb 1 h.counter (omega (arith, n)))
      (le-leb h.counter 255 (omega (arith, bits_small m (prnd_width form + 40) 8)))
    where
      turned : (b : Bool) → not b ≡ true → b ≡ false
      turned true e = sym e
      turned false e = refl

  pub read_is_built : build_number form h (read_data form m) lent ≡ 0
  unfolding build_number read_data
  read_is_built =
      rw (
        fields_say.0,
        owner,
        fields_say.1,
        fields_say.2,
        a_form,
        status_says,
        week_says,
        counter_says,
        eq-eqb _ _ (bytes_length (data_bytes (form_family form)) (bits_from m (head_width form) (record_bits (form_family form)))),
        le-leb _ _ room,
      )

  pub read_builds : Bytes m
      → (build_answer form h (read_data form m) lent ≡ done (message_bytes form ∷ []))
      × (build_buffer form h (read_data form m) lent ≡ on_part (λ (_ : List ℕ). m) 0 (message_bytes form) lent)
  unfolding build_answer build_buffer
  read_builds bytes = (
    rw read_is_built,
    rw (read_is_built, rebuilt form m h same (lengths_passed form m buffer passed.0).0 bytes passed.2),
  )
