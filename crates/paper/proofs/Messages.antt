-- Small examples of messages, computed: the fields in their order, the three forms, the bits past the data, and the order of refusals. Assumes
-- nothing.
use mathlib.Core.List.{List, [], ◌∷◌, ◌++◌}
use mathlib.Core.Path.{◌≡◌, refl}
use Prim.Native.Nat.{ℕ}
use lib.ListN.{replicate}
use Rattle.paper.specs.Field.{bits_at}
use Rattle.paper.specs.Message.{Head, digits_of, field_bits, bits_from, in_bytes, message_bytes, message_bits, message, build_number, read_head, read_data, read_number}

-- each form's bytes
pub forms : (message_bytes 0 ≡ 76) × (message_bytes 1 ≡ 75) × (message_bytes 2 ≡ 25)
forms = (refl, refl, refl)

abbrev head : Head
head = record { prnd = 1; prna = 2; week = 0x345; time = 0x1e; counter = 6; status = 1 }

-- timing data whose first bit is set, and so are all that lie past its 141 bits
abbrev ends : List ℕ
ends = 0x80 ∷ (replicate 16 0 ++ (0x07 ∷ []))

-- satellites, week, time, counter; 01 of the status and the first six bits of the data; the padding is 0 whatever lies past the data
pub timing_message : message 2 head ends ≡ 0x01 ∷ 0x02 ∷ 0x34 ∷ 0x50 ∷ 0x00 ∷ 0x1e ∷ 0x06 ∷ 0x60 ∷ replicate 17 0
unfolding message message_bits field_bits digits_of bits_from in_bytes
timing_message = refl

-- tag 0 has no PRN of the data's satellite
pub tag_0_message : message 1 head (0x80 ∷ replicate 68 0) ≡ 0x02 ∷ 0x34 ∷ 0x50 ∷ 0x00 ∷ 0x1e ∷ 0x06 ∷ 0x60 ∷ replicate 68 0
unfolding message message_bits field_bits digits_of bits_from in_bytes
tag_0_message = refl

-- read back: the fields, and the data with zeros past its width
pub timing_read :
    (read_head 2 (0x01 ∷ 0x02 ∷ 0x34 ∷ 0x50 ∷ 0x00 ∷ 0x1e ∷ 0x06 ∷ 0x60 ∷ replicate 17 0) ≡ head)
    × (read_data 2 (0x01 ∷ 0x02 ∷ 0x34 ∷ 0x50 ∷ 0x00 ∷ 0x1e ∷ 0x06 ∷ 0x60 ∷ replicate 17 0) ≡ 0x80 ∷ replicate 17 0)
unfolding read_head read_data bits_at bits_from in_bytes
timing_read = (refl, refl)

-- the padding is the last bit; it is looked at last
pub padding_set : read_number 2 (0x01 ∷ 0x02 ∷ 0x34 ∷ 0x50 ∷ 0x00 ∷ 0x1e ∷ 0x06 ∷ 0x60 ∷ (replicate 16 0 ++ (0x01 ∷ []))) (replicate 18 0) ≡ 26
unfolding read_number read_head bits_at
padding_set = refl

pub counter_before_padding : read_number 2 (0x01 ∷ 0x02 ∷ 0x34 ∷ 0x50 ∷ 0x00 ∷ 0x1e ∷ 0x00 ∷ 0x60 ∷ (replicate 16 0 ++ (0x01 ∷ []))) (replicate 18 0) ≡ 8
unfolding read_number read_head bits_at
counter_before_padding = refl

-- building: a week of 13 bits is 7, a form or a status comes before it, a counter behind it
pub week_of_13_bits : build_number 2 (record { prnd = 1; prna = 2; week = 4096; time = 30; counter = 0; status = 3 }) ends (replicate 25 0) ≡ 7
unfolding build_number
week_of_13_bits = refl

pub status_before_week : build_number 2 (record { prnd = 1; prna = 2; week = 4096; time = 30; counter = 6; status = 4 }) ends (replicate 25 0) ≡ 9
unfolding build_number
status_before_week = refl

pub counter_of_a_byte : build_number 2 (record { prnd = 1; prna = 2; week = 4095; time = 30; counter = 256; status = 3 }) ends (replicate 25 0) ≡ 8
unfolding build_number
counter_of_a_byte = refl
