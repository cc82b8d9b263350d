-- Laws of what is accepted: where a record's data lies, and that the given data stands for the candidate's. Assumes nothing.
use native.Mathlib.Omega.{arith}
use mathlib.Core.Path.{◌≡◌, refl, sym, ap, ◌∙◌}
use mathlib.Core.Bool.{Bool, true, false, cond, ◌&&◌}
use mathlib.Core.List.{List}
use Prim.Native.Nat.{ℕ, ◌+◌, min}
use lib.Dec.{eqb}
use lib.ListN.{length}
use borrow.Author.Tests.{eqb-true}
use Rattle.paper.specs.Number.{Answer, done, refused, answer, unless}
use Rattle.paper.specs.Answer.{room_for}
use Rattle.paper.specs.Parts.{part}
use Rattle.paper.specs.Record.{Family, size, data_at, data_bytes, satellite, count, most_count, data_of, in_bits, same_list, same_bits, with_count}
use Rattle.paper.specs.Room.{every_record, how_many_in}
use Rattle.paper.specs.Tag.{given_agrees, matches, credited, tagged, taken_by}
use Rattle.paper.proofs.Parts.{part_part}
use Rattle.paper.proofs.Same.{bits_true}
use Rattle.paper.proofs.StoreFacts.{both_true}

pub data_here : (f : Family) (at : ℕ) (l : List ℕ) → part (at + data_at f) (data_bytes f) l ≡ data_of f (part at (size f) l)
data_here f at l = sym (part_part (data_at f) (data_bytes f) at (size f) l (omega arith))

-- what the test of the given data says
pub agreed : (f : Family) (given rec : List ℕ) → given_agrees f given rec ≡ true → (length given ≡ data_bytes f) × (in_bits f given ≡ in_bits f (data_of f rec))
unfolding given_agrees
agreed f given rec e =
    let p = both_true (eqb (length given) (data_bytes f)) _ e in
    (eqb-true (length given) (data_bytes f) p.0, bits_true f given (data_of f rec) p.1)

-- records are matched against the given data as against the candidate's
module _ (f : Family) (given rec : List ℕ) (l : ℕ) (room : List ℕ) (sat : ℕ)
    (e : in_bits f given ≡ in_bits f (data_of f rec)) (q : satellite rec ≡ sat) where
  -- a record matches, over the satellite and the bits that are compared
  abbrev hit : ℕ → List ℕ → List ℕ → Bool
  hit s x r = eqb (satellite r) s && same_list (in_bits f (data_of f r)) x

  pub same_tagged_room : every_record f (credited f sat given l) room ≡ tagged f rec l room
  unfolding tagged credited matches same_bits
  same_tagged_room =
      ap (λ (s : ℕ). every_record f (credited f s given l) room) (sym q)
      ∙ ap
      (λ (x : List ℕ). every_record f (λ (r : List ℕ). cond (hit (satellite rec) x r) (with_count (min most_count (count r + l)) r) r) room)
      e

  pub same_total : how_many_in f (matches f sat given) room ≡ taken_by f rec room
  unfolding taken_by matches same_bits
  same_total =
      ap (λ (s : ℕ). how_many_in f (matches f s given) room) (sym q)
      ∙ ap (λ (x : List ℕ). how_many_in f (hit (satellite rec) x) room) e

-- "11, 17, 18, 0", over the three tests
abbrev numbered : Bool → Bool → Bool → ℕ
numbered a b c = unless a 11 (unless b 17 (unless c 18 0))

module _ (v after room : List ℕ) where
  pub number_11 : (a b c : Bool) → a ≡ false
      → (refused 11 ≡ answer (numbered a b c) v) × (room ≡ room_for (numbered a b c) after room)
  number_11 true b c e = absurd (let z : ◌≡◌ {A = ℕ} 0 1 = cc in omega arith)
  number_11 false b c e = (refl, refl)

  pub number_17 : (a b c : Bool) → a ≡ true → b ≡ false
      → (refused 17 ≡ answer (numbered a b c) v) × (room ≡ room_for (numbered a b c) after room)
  number_17 false b c e g = absurd (let z : ◌≡◌ {A = ℕ} 0 1 = cc in omega arith)
  number_17 true true c e g = absurd (let z : ◌≡◌ {A = ℕ} 0 1 = cc in omega arith)
  number_17 true false c e g = (refl, refl)

  pub number_18 : (a b c : Bool) → a ≡ true → b ≡ true → c ≡ false
      → (refused 18 ≡ answer (numbered a b c) v) × (room ≡ room_for (numbered a b c) after room)
  number_18 false b c e g h = absurd (let z : ◌≡◌ {A = ℕ} 0 1 = cc in omega arith)
  number_18 true false c e g h = absurd (let z : ◌≡◌ {A = ℕ} 0 1 = cc in omega arith)
  number_18 true true true e g h = absurd (let z : ◌≡◌ {A = ℕ} 0 1 = cc in omega arith)
  number_18 true true false e g h = (refl, refl)

  pub number_0 : (a b c : Bool) → a ≡ true → b ≡ true → c ≡ true
      → (done v ≡ answer (numbered a b c) v) × (after ≡ room_for (numbered a b c) after room)
  number_0 false b c e g h = absurd (let z : ◌≡◌ {A = ℕ} 0 1 = cc in omega arith)
  number_0 true false c e g h = absurd (let z : ◌≡◌ {A = ℕ} 0 1 = cc in omega arith)
  number_0 true true false e g h = absurd (let z : ◌≡◌ {A = ℕ} 0 1 = cc in omega arith)
  number_0 true true true e g h = (refl, refl)
