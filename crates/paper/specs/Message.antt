-- STORE 21: the message under a tag, built from the fields in front of the data and the data, and read back.
use Rattle.std.specs.Prelude.{ℕ, zero, suc, ◌+◌, ◌-◌, ◌*◌, ◌/◌, ◌%◌, ◌^◌, Bool, cond, not, ◌&&◌, ◌||◌, List, [], ◌∷◌, ◌++◌, length, get_or, drop, leb, eqb}
use Rattle.paper.specs.Number.{Answer, answer, unless}
use Rattle.paper.specs.Time.{is_time, is_start}
use Rattle.paper.specs.Satellite.{is_satellite}
use Rattle.paper.specs.Bits.{bit_at}
use Rattle.paper.specs.Parts.{on_part}
use Rattle.paper.specs.Record.{Family, family_if, record_bits, data_bytes}
use Rattle.paper.specs.Field.{bits_at}
use Rattle.paper.specs.Tag.{status_known}
use Rattle.paper.specs.Answer.{room_for}

-- STORE 21.1: the forms are 0 CED, 1 tag 0, 2 timing
abbrev pub form_known : ℕ → Bool
form_known form = leb form 2

abbrev pub is_tag_zero : ℕ → Bool
is_tag_zero form = eqb form 1

-- the family whose data a form carries
abbrev pub form_family : ℕ → Family
form_family form = family_if (eqb form 2)

-- what stands in front of the data: PRN of the data's satellite and of the sender, the time, the tag's counter and the status
pub record Head : Type 0 where
  pub prnd : ℕ
  pub prna : ℕ
  pub week : ℕ
  pub time : ℕ
  pub counter : ℕ
  pub status : ℕ

-- STORE 21.2: how many bits each of them has
abbrev pub prn_width : ℕ
prn_width = 8

abbrev pub week_width : ℕ
week_width = 12

abbrev pub time_width : ℕ
time_width = 20

abbrev pub counter_width : ℕ
counter_width = 8

abbrev pub status_width : ℕ
status_width = 2

-- the fields in their order, each with its bits and its number
abbrev pub after_prnd : Head → List (ℕ × ℕ)
after_prnd h =
    (prn_width, h.prna) ∷ (week_width, h.week) ∷ (time_width, h.time) ∷ (counter_width, h.counter) ∷ (status_width, h.status) ∷ []

-- tag 0 has no PRN of the data's satellite
abbrev pub head_fields : ℕ → Head → List (ℕ × ℕ)
head_fields form h = cond (is_tag_zero form) (after_prnd h) ((prn_width, h.prnd) ∷ after_prnd h)

-- how many bits that PRN has in a form, and all the fields together
abbrev pub prnd_width : ℕ → ℕ
prnd_width form = cond (is_tag_zero form) 0 prn_width

abbrev pub head_width : ℕ → ℕ
head_width form = prnd_width form + (prn_width + week_width + time_width + counter_width + status_width)

-- the w digits of a number in base 2, the top one first
unfoldable pub digits_of : ℕ → ℕ → List ℕ
digits_of zero v = []
digits_of (suc w) v = v / 2 ^ w % 2 ∷ digits_of w v

-- fields one behind the other
unfoldable pub field_bits : List (ℕ × ℕ) → List ℕ
field_bits [] = []
field_bits (f ∷ fs) = digits_of f.0 f.1 ++ field_bits fs

-- the n bits of some bytes from bit o on
unfoldable pub bits_from : List ℕ → ℕ → ℕ → List ℕ
bits_from bytes o zero = []
bits_from bytes o (suc n) = bit_at bytes o ∷ bits_from bytes (o + 1) n

-- eight bits as a byte; a bit that is not there is 0
abbrev pub byte_of : List ℕ → ℕ
byte_of b =
    get_or b 0 0 * 128
    + get_or b 1 0 * 64
    + get_or b 2 0 * 32
    + get_or b 3 0 * 16
    + get_or b 4 0 * 8
    + get_or b 5 0 * 4
    + get_or b 6 0 * 2
    + get_or b 7 0

-- k bytes of some bits, with zeros behind the last of them
unfoldable pub in_bytes : ℕ → List ℕ → List ℕ
in_bytes zero bits = []
in_bytes (suc k) bits = byte_of bits ∷ in_bytes k (drop 8 bits)

-- STORE 21.2: the bits of the message: the fields, then the data's 549 or 141
unfoldable pub message_bits : ℕ → Head → List ℕ → List ℕ
message_bits form h bytes = field_bits (head_fields form h) ++ bits_from bytes 0 (record_bits (form_family form))

-- its bytes: 76, 75, 25
abbrev pub message_bytes : ℕ → ℕ
message_bytes form = (head_width form + record_bits (form_family form) + 7) / 8

-- and the message, with zeros up to a whole byte
unfoldable pub message : ℕ → Head → List ℕ → List ℕ
message form h bytes = in_bytes (message_bytes form) (message_bits form h bytes)

-- STORE 21.3: the greatest week of 12 bits
abbrev pub most_week : ℕ
most_week = 4095

abbrev pub counter_allowed : ℕ → Bool
counter_allowed c = leb 1 c && leb c 255

-- STORE 14.2, building: 4, 5, 6, 9, 7, 8
unfoldable pub build_number : ℕ → Head → List ℕ → List ℕ → ℕ
build_number form h bytes buffer =
    unless (is_satellite h.prna && is_satellite h.prnd) 4
    (unless (is_time h.time) 5
    (unless (is_start h.time) 6
    (unless (form_known form && status_known h.status) 9
    (unless (leb h.week most_week) 7
    (unless (counter_allowed h.counter && eqb (length bytes) (data_bytes (form_family form)) && leb (message_bytes form) (length buffer)) 8 0)))))

-- beside 0 how many bytes the message has
unfoldable pub build_answer : ℕ → Head → List ℕ → List ℕ → Answer
build_answer form h bytes buffer = answer (build_number form h bytes buffer) (message_bytes form ∷ [])

-- the lent buffer: the message at its start, and what stood behind that
unfoldable pub build_buffer : ℕ → Head → List ℕ → List ℕ → List ℕ
build_buffer form h bytes buffer =
    room_for (build_number form h bytes buffer) (on_part (λ (_ : List ℕ). message form h bytes) 0 (message_bytes form) buffer) buffer

-- STORE 21.4: the fields read back, each from its place; in tag 0, which does not carry it, the PRN of the data's satellite is 0
unfoldable pub read_head : ℕ → List ℕ → Head
read_head form m =
    let o = prnd_width form in
    record {
      prnd = bits_at m 0 o;
      prna = bits_at m o prn_width;
      week = bits_at m (o + prn_width) week_width;
      time = bits_at m (o + (prn_width + week_width)) time_width;
      counter = bits_at m (o + (prn_width + week_width + time_width)) counter_width;
      status = bits_at m (o + (prn_width + week_width + time_width + counter_width)) status_width;
    }

-- the data read back, with zeros past its width
unfoldable pub read_data : ℕ → List ℕ → List ℕ
read_data form m =
    in_bytes (data_bytes (form_family form)) (bits_from m (head_width form) (record_bits (form_family form)))

-- the bits behind the data, as a number
abbrev pub padding_of : ℕ → List ℕ → ℕ
padding_of form m =
    let used = head_width form + record_bits (form_family form) in
    bits_at m used (8 * message_bytes form - used)

-- the satellites that a form carries are satellites
abbrev pub satellites_read : ℕ → Head → Bool
satellites_read form h = is_satellite h.prna && (is_tag_zero form || is_satellite h.prnd)

-- STORE 14.2, reading back: 9, 8, and of what was read 4, 5, 6, 8, 26
unfoldable pub read_number : ℕ → List ℕ → List ℕ → ℕ
read_number form m buffer =
    let h = read_head form m in
    unless (form_known form) 9
    (unless (eqb (length m) (message_bytes form) && leb (data_bytes (form_family form)) (length buffer)) 8
    (unless (satellites_read form h) 4
    (unless (is_time h.time) 5
    (unless (is_start h.time) 6 (unless (not (eqb h.counter 0)) 8 (unless (eqb (padding_of form m) 0) 26 0))))))

abbrev pub head_values : Head → List ℕ
head_values h = h.prnd ∷ h.prna ∷ h.week ∷ h.time ∷ h.counter ∷ h.status ∷ []

-- beside 0 the fields
unfoldable pub read_answer : ℕ → List ℕ → List ℕ → Answer
read_answer form m buffer = answer (read_number form m buffer) (head_values (read_head form m))

-- the lent buffer: the data at its start, and what stood behind that
unfoldable pub read_buffer : ℕ → List ℕ → List ℕ → List ℕ
read_buffer form m buffer =
    room_for (read_number form m buffer) (on_part (λ (_ : List ℕ). read_data form m) 0 (data_bytes (form_family form)) buffer) buffer

-- STORE 21.5: of a head what a form carries
abbrev pub carried : ℕ → Head → Head
carried form h =
    record {
      prnd = cond (is_tag_zero form) 0 h.prnd;
      prna = h.prna;
      week = h.week;
      time = h.time;
      counter = h.counter;
      status = h.status;
    }

-- and of its data the 549 or 141 bits, with zeros past them
abbrev pub clean : ℕ → List ℕ → List ℕ
clean form bytes = in_bytes (data_bytes (form_family form)) (bits_from bytes 0 (record_bits (form_family form)))
