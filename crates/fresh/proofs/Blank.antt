-- What blanking leaves, in the words of "Fresh room": a record after its bytes and then its ages are filled, a slot after its two
-- records, and the header. Assumes nothing.
use native.Mathlib.Omega.{arith}
use mathlib.Core.Path.{◌≡◌, ap, ◌∙◌}
use mathlib.Core.List.{List, [], ◌++◌, append-nil}
use Prim.Native.Nat.{ℕ, ◌+◌, ◌-◌, ◌≤◌}
use lib.ListN.{length, take, drop, set, replicate, length-drop, length-replicate, drop_of_length-le}
use lib.Seq.{take_at, drop_at}
use Rattle.paper.proofs.Parts.{length_part, length_lent, part_back}
use Rattle.paper.proofs.Lengths.{length_blank}
use Rattle.paper.specs.Fresh.{header, blank_slot}
use Rattle.paper.specs.Parts.{on_part}
use Rattle.paper.specs.Record.{Family, CED, Timing, ages_at, size, ages, oldest, never_there, blank_record}
use Rattle.paper.specs.Room.{depth_at, slots_at, rule_at, header_size, slot_size}

-- the ages of a record of zeros made the oldest
pub record_blank : (f : Family) (words k : ℕ) (z y : List ℕ) → k ≡ size f → words ≡ ages f → z ≡ replicate k 0
    → y ≡ replicate (length (take (ages_at + words - ages_at) (drop ages_at z))) oldest
    → take ages_at z ++ (y ++ drop (ages_at + words - ages_at) (drop ages_at z)) ≡ blank_record f
unfolding blank_record
record_blank f words k z y l w p q =
    let e : z ≡ replicate (size f) 0 = p ∙ ap (λ (j : ℕ). replicate j 0) l in
    let n : length z ≡ size f = ap length e ∙ length-replicate (size f) 0 in
    let m : length (take (ages_at + words - ages_at) (drop ages_at z)) ≡ ages f = length_lent ages_at words z (omega arith) ∙ w in
    part_back (λ (_ : List ℕ). replicate (ages f) oldest) ages_at (ages f) (ages_at + words - ages_at) z y (omega arith)
    (q ∙ ap (λ (j : ℕ). replicate j oldest) m)
    ∙ ap (never_there f) e

-- its two records blanked, one after the other
pub slot_blank : (slot c t : List ℕ) → length slot ≡ slot_size → c ≡ blank_record CED
    → (length (take (size Timing) (drop (size CED) (c ++ drop (size CED) slot))) ≡ size Timing → t ≡ blank_record Timing)
    → take (size CED) (c ++ drop (size CED) slot) ++ (t ++ drop (size Timing) (drop (size CED) (c ++ drop (size CED) slot))) ≡ blank_slot
unfolding blank_slot
slot_blank slot c t l p q =
    let n : length c ≡ size CED = ap length p ∙ length_blank CED in
    let behind : drop (size CED) (c ++ drop (size CED) slot) ≡ drop (size CED) slot = drop_at c (drop (size CED) slot) (size CED) n in
    let h : length (drop (size CED) slot) ≤ size Timing = omega (arith, length-drop (size CED) slot) in
    let e : drop (size Timing) (drop (size CED) slot) ≡ [] = drop_of_length-le (drop (size CED) slot) h in
    let s : t ≡ blank_record Timing = q (rw behind (length_part (size CED) (size Timing) slot (omega arith))) in
    rw (behind, take_at c (drop (size CED) slot) (size CED) n, e, p, s, append-nil)

-- D, N and the rule among the zeros
pub header_put : (d n rule : ℕ) (room y : List ℕ) → header_size ≤ length room → y ≡ replicate (length (take header_size (drop 0 room))) 0
    → set (set (set (take 0 room ++ (y ++ drop header_size (drop 0 room))) depth_at d) slots_at n) rule_at rule
    ≡ on_part (λ _. header d n rule) 0 header_size room
unfolding on_part
header_put d n rule room y h p =
    let e : length (take header_size (drop 0 room)) ≡ header_size = length_part 0 header_size room h in
    rw (p, e)
