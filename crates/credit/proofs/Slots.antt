-- Laws of what one slot does with a tag, over the family. Assumes nothing.
use native.Mathlib.Omega.{arith}
use mathlib.Core.Path.{◌≡◌, refl, sym, ap, ◌∙◌}
use mathlib.Core.Bool.{Bool, true, false, cond, ◌&&◌}
use mathlib.Core.List.{List, ◌++◌}
use borrow.Author.Tests.{eq-eqb, ne_eqb}
use lib.Dec.{eqb}
use lib.ListN.{length, get_or, take, drop}
use Prim.Native.Nat.{ℕ, ◌+◌, ◌-◌, ◌*◌, ◌≤◌, min}
use Rattle.paper.specs.Parts.{part, on_part, on_parts, sum_parts}
use Rattle.paper.specs.Record.{Family, data_bytes, satellite_at, data_at, size, satellite, count, most_count, data_of, same_bits, with_count}
use Rattle.paper.specs.Room.{head_size, base, slot_size, row_size, in_slot, each_record}
use Rattle.paper.specs.Tag.{matches, credited}
use Rattle.paper.proofs.Parts.{Keeps, part_part, get_d_part, part_back_at, part_lent, on_part_by, on_part_none, on_part_length, on_parts_length, on_parts_after, parts_turn, sum_turn}
use Rattle.paper.proofs.Views.{slot_fits}
use Rattle.paper.proofs.Lengths.{keeps_credited}
use Rattle.credit.specs.Slot.{takes}

module _ (f : Family) (sat : ℕ) (given : List ℕ) (l : ℕ) where
  pub keeps_slot : Keeps (in_slot f (credited f sat given l)) slot_size
  keeps_slot r e =
      on_part_length (credited f sat given l) (size f) (keeps_credited (size f) f sat given l) (base f) r (omega (arith, slot_fits f)) ∙ e

  pub keeps_row : (n : ℕ) → Keeps (each_record f n (credited f sat given l)) (row_size n)
  unfolding each_record
  keeps_row n r e = on_parts_length (in_slot f (credited f sat given l)) slot_size keeps_slot n head_size r (omega arith) ∙ e

and_false : (b : Bool) → (b && false) ≡ false
and_false true = refl
and_false false = refl

pub takes_one : (f : Family) (sat : ℕ) (given slot : List ℕ) → takes f sat given slot ≤ 1
takes_one f sat given slot = go (matches f sat given (part (base f) (size f) slot))
  where
    go : (b : Bool) → cond b 1 0 ≤ 1
    go true = omega arith
    go false = omega arith

module _ (f : Family) (sat : ℕ) (given : List ℕ) (l : ℕ) (slot : List ℕ) where
  abbrev rec : List ℕ
  rec = part (base f) (size f) slot

  at_base : satellite rec ≡ get_or slot (base f + satellite_at) 0
  at_base = get_d_part (base f) (size f) slot satellite_at (omega arith)

  at_data : data_of f rec ≡ part (base f + data_at f) (data_bytes f) slot
  at_data = part_part (data_at f) (data_bytes f) (base f) (size f) slot (omega arith)

  skips : matches f sat given rec ≡ false → (slot ≡ in_slot f (credited f sat given l) slot) × (0 ≡ takes f sat given slot)
  unfolding credited
  skips m =
      (sym (on_part_none (credited f sat given l) (base f) (size f) slot (rw m)), rw m)

  -- another satellite
  pub of_another : (get_or slot (base f + satellite_at) 0 ≡ sat → ⊥) → (slot ≡ in_slot f (credited f sat given l) slot) × (0 ≡ takes f sat given slot)
  unfolding matches
  of_another d = skips (rw (ne_eqb (satellite rec) sat (λ e. d (sym at_base ∙ e))))

  -- other bits
  pub differs : same_bits f (part (base f + data_at f) (data_bytes f) slot) given ≡ false
      → (slot ≡ in_slot f (credited f sat given l) slot) × (0 ≡ takes f sat given slot)
  unfolding matches
  differs d = skips (rw (at_data, d) (and_false (eqb (satellite rec) sat)))

  -- this satellite and these bits
  pub agrees_all : (out : List ℕ) → get_or slot (base f + satellite_at) 0 ≡ sat → same_bits f (part (base f + data_at f) (data_bytes f) slot) given ≡ true
      → out ≡ on_part (λ (r : List ℕ). with_count (min most_count (count r + l)) r) (base f) (size f) slot
      → (out ≡ in_slot f (credited f sat given l) slot) × (1 ≡ takes f sat given slot)
  unfolding matches credited
  agrees_all out s d o =
      let m : matches f sat given rec ≡ true = rw (at_data, d, eq-eqb (satellite rec) sat (at_base ∙ s)) in
      (o ∙ on_part_by (λ (r : List ℕ). with_count (min most_count (count r + l)) r) (credited f sat given l) (base f) (size f) slot (rw m), rw m)

-- the same in the words of the code: a, s and q are where the record starts, its size and where its data starts
module _ (f : Family) (sat : ℕ) (given : List ℕ) (l : ℕ) (slot : List ℕ)
    (a s q : ℕ) (ea : a ≡ base f) (es : s ≡ size f) (eq : q ≡ data_at f) where
  data_lent : take (a + s - (a + q)) (drop (a + q) slot) ≡ part (base f + data_at f) (data_bytes f) slot
  data_lent = let e : a + s - (a + q) ≡ data_bytes f = omega arith in rw (e, ea, eq)

  pub other_lent : (get_or slot (a + satellite_at) 0 ≡ sat → ⊥) → (slot ≡ in_slot f (credited f sat given l) slot) × (0 ≡ takes f sat given slot)
  other_lent d = of_another f sat given l slot (rw ea at d)

  pub differs_lent : (r : Bool) → r ≡ same_bits f (take (a + s - (a + q)) (drop (a + q) slot)) given → r ≡ false
      → (slot ≡ in_slot f (credited f sat given l) slot) × (0 ≡ takes f sat given slot)
  differs_lent r e n = differs f sat given l slot (ap (λ (x : List ℕ). same_bits f x given) (sym data_lent) ∙ sym e ∙ n)

  pub agrees_lent : (r : Bool) (y : List ℕ) → get_or slot (a + satellite_at) 0 ≡ sat → r ≡ same_bits f (take (a + s - (a + q)) (drop (a + q) slot)) given → r ≡ true
      → y ≡ with_count (min most_count (count (take (a + s - a) (drop a slot)) + l)) (take (a + s - a) (drop a slot))
      → (take a slot ++ (y ++ drop (a + s - a) (drop a slot)) ≡ in_slot f (credited f sat given l) slot) × (1 ≡ takes f sat given slot)
  agrees_lent r y h e t p =
      agrees_all f sat given l slot (take a slot ++ (y ++ drop (a + s - a) (drop a slot))) (rw ea at h)
      (ap (λ (x : List ℕ). same_bits f x given) (sym data_lent) ∙ sym e ∙ t)
      (part_back_at (λ (r : List ℕ). with_count (min most_count (count r + l)) r) a s slot y p ∙ rw (ea, es))

-- a turn of a loop that changes part after part and adds up what each says of itself before its change; `size` is k in the code's words
pub turn : (g : List ℕ → List ℕ) (h : List ℕ → ℕ) (k i at from size : ℕ) (r l y : List ℕ) (total x : ℕ)
    → Keeps g k → from + k ≤ length r → size ≡ k → from ≡ at + i * k → l ≡ on_parts g k i at r → total ≡ sum_parts h k i at r
    → y ≡ g (take (from + size - from) (drop from l)) → x ≡ h (take (from + size - from) (drop from l))
    → (take from l ++ (y ++ drop (from + size - from) (drop from l)) ≡ on_parts g k (i + 1) at r) × (total + x ≡ sum_parts h k (i + 1) at r)
turn g h k i at from size r l y total x keeps fits es p e q f t =
    let same : part (at + i * k) k (on_parts g k i at r) ≡ part (at + i * k) k r =
    on_parts_after g k keeps i at (at + i * k) k r (omega (arith, p)) (omega arith) in
    let lent : take (from + size - from) (drop from l) ≡ part (at + i * k) k r = rw es (part_lent from k l ∙ rw (p, e, same)) in
    (rw es (parts_turn g k i at from r l y p e (rw es at f)), sum_turn h k i at r total x q (t ∙ ap h lent))
