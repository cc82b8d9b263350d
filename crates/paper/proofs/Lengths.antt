-- Which changes keep the length of a record and of a row. Assumes nothing.
use mathlib.Core.Bool.{Bool, true, false, cond, ◌||◌}
use mathlib.Core.List.{List, map}
use mathlib.Core.Path.{◌≡◌, refl, ◌∙◌}
use Prim.Native.Nat.{ℕ, zero, suc, ◌+◌, ◌<◌, ◌≤◌, min}
use native.Mathlib.Omega.{arith}
use native.Mathlib.Decide.{dec_lt}
use lib.Dec.{eqb, leb}
use lib.ListN.{length, set, replicate, length-set, length-append, length-replicate, length-map}
use Rattle.paper.specs.Big.{put16}
use Rattle.paper.specs.Bits.{moved, changed}
use Rattle.paper.specs.Parts.{on_part}
use Rattle.paper.specs.Record.{Family, CED, Timing, data_bytes, ages, satellite_at, count_at, ages_at, data_at, size, satellite}
use Rattle.paper.specs.Record.{count, most_count, data_of, with_count, with_ages, never_there, oldest, older, aged, blank_record}
use Rattle.paper.specs.Room.{mark_at, week_at, time_at, head_size, slot_size, row_size, record_of, each_record}
use Rattle.paper.specs.Word.{Owned, nothing, owns, owned, type_of, takeover, written, fed_record}
use Rattle.paper.specs.Fresh.{blank_slot, blank_row}
use Rattle.paper.specs.Feed.{aged_row, marked_at, last_greatest, chosen, key, fed_family, fed_row}
use Rattle.paper.specs.Tag.{matches, credited}
use Rattle.paper.proofs.Big.{length_put16, length_put32}
use Rattle.paper.proofs.Bits.{length_moved}
use Rattle.paper.proofs.Parts.{Keeps, on_part_length, on_parts_length}
use Rattle.paper.proofs.Views.{on_record_length, each_record_length}

-- ---- changes that keep the length of a record
pub keeps_const : (k : ℕ) (l : List ℕ) → length l ≡ k → Keeps (λ (_ : List ℕ). l) k
keeps_const k l e r h = e

pub keeps_map : (k : ℕ) (g : ℕ → ℕ) → Keeps (map g) k
keeps_map k g r h = length-map r g ∙ h

pub keeps_with_count : (k c : ℕ) → Keeps (with_count c) k
keeps_with_count k c r h = length_put16 r count_at c ∙ h

pub keeps_aged : (f : Family) (by : ℕ) → Keeps (aged f by) (size f)
unfolding aged
keeps_aged f by r h =
    on_part_length (map (older by)) (ages f) (keeps_map (ages f) (older by)) ages_at r (omega arith) ∙ h

pub keeps_with_ages : (f : Family) (new : List ℕ) → length new ≡ ages f → Keeps (with_ages f new) (size f)
keeps_with_ages f new e r h = on_part_length (λ (_ : List ℕ). new) (ages f) (keeps_const (ages f) new e) ages_at r (omega arith) ∙ h

pub keeps_never_there : (f : Family) → Keeps (never_there f) (size f)
keeps_never_there f r h = keeps_with_ages f (replicate (ages f) oldest) (length-replicate (ages f) oldest) r h

pub length_blank : (f : Family) → length (blank_record f) ≡ size f
unfolding blank_record
length_blank f = keeps_never_there f (replicate (size f) 0) (length-replicate (size f) 0)

pub keeps_takeover : (f : Family) (sat : ℕ) → Keeps (takeover f sat) (size f)
unfolding takeover
keeps_takeover f sat r h = go (eqb (satellite r) sat || eqb (satellite r) 0)
  where
    mine : List ℕ
    mine = set r satellite_at sat

    length_mine : length mine ≡ size f
    length_mine = length-set r satellite_at sat ∙ h

    go : (b : Bool) → length (cond b mine (never_there f (with_count 0 mine))) ≡ size f
    go true = length_mine
    go false = keeps_never_there f (with_count 0 mine) (keeps_with_count (size f) 0 mine length_mine)

pub keeps_moved : (k to : ℕ) (word : List ℕ) (from n : ℕ) → Keeps (λ (x : List ℕ). moved x to word from n) k
keeps_moved k to word from n x h = length_moved x to word from n ∙ h

pub keeps_written : (f : Family) (o : Owned) (word : List ℕ) → Keeps (written f o word) (size f)
unfolding written
keeps_written f nothing word r h = h
keeps_written f (owns to from n age) word r h = go (changed (data_of f r) to word from n)
  where
    move : List ℕ
    move = on_part (λ (x : List ℕ). moved x to word from n) (data_at f) (data_bytes f) r

    length_move : length move ≡ size f
    length_move =
        on_part_length (λ (x : List ℕ). moved x to word from n) (data_bytes f) (keeps_moved (data_bytes f) to word from n) (data_at f) r
        (omega arith)
        ∙ h

    go : (b : Bool) → length (cond b (with_count 0 (set move (ages_at + age) 0)) (set move (ages_at + age) 0)) ≡ size f
    go true = keeps_with_count (size f) 0 (set move (ages_at + age) 0) (length-set move (ages_at + age) 0 ∙ length_move)
    go false = length-set move (ages_at + age) 0 ∙ length_move

pub keeps_fed_record : (f : Family) (sat band : ℕ) (word : List ℕ) → Keeps (fed_record f sat band word) (size f)
unfolding fed_record
keeps_fed_record f sat band word r h =
    keeps_written f (owned f (type_of word) band) word (takeover f sat r) (keeps_takeover f sat r h)

pub keeps_credited : (k : ℕ) (f : Family) (sat : ℕ) (bits : List ℕ) (l : ℕ) → Keeps (credited f sat bits l) k
unfolding credited
keeps_credited k f sat bits l r h = go (matches f sat bits r)
  where
    go : (b : Bool) → length (cond b (with_count (min most_count (count r + l)) r) r) ≡ k
    go true = keeps_with_count k (min most_count (count r + l)) r h
    go false = h

-- ---- changes that keep the length of a row
pub keeps_marked_at : (k w t : ℕ) → Keeps (marked_at w t) k
unfolding marked_at
keeps_marked_at k w t r h = length_put32 (put16 (set r mark_at 1) week_at w) time_at t ∙ length_put16 (set r mark_at 1) week_at w ∙ length-set r mark_at 1 ∙ h

pub keeps_aged_row : (by n : ℕ) → Keeps (aged_row by n) (row_size n)
unfolding aged_row
keeps_aged_row by n row l =
    each_record_length Timing (aged Timing by) (keeps_aged Timing by) n (each_record CED n (aged CED by) row)
    (each_record_length CED (aged CED by) (keeps_aged CED by) n row l)

pub length_blank_slot : length blank_slot ≡ slot_size
unfolding blank_slot
length_blank_slot = length-append (blank_record CED) (blank_record Timing) ∙ omega (arith, length_blank CED, length_blank Timing)

pub keeps_blank_row : (n : ℕ) → Keeps (blank_row n) (row_size n)
unfolding blank_row
keeps_blank_row n row l =
    let h : List ℕ = on_part (λ (_ : List ℕ). replicate head_size 0) 0 head_size row in
    let e : length h ≡ row_size n = on_part_length (λ (_ : List ℕ). replicate head_size 0) head_size (keeps_const head_size (replicate head_size 0) refl) 0 row (omega arith) ∙ l in
    on_parts_length (λ (_ : List ℕ). blank_slot) slot_size (keeps_const slot_size blank_slot length_blank_slot) n head_size h (omega arith) ∙ e

-- the last of the greatest keys lies among them
pub last_greatest_lt : (k : ℕ → ℕ) (n : ℕ) → 1 ≤ n → last_greatest k n < n
unfolding last_greatest
last_greatest_lt k zero h = absurd (omega arith)
last_greatest_lt k (suc n) h = go (dec_lt 0 n) (λ l. last_greatest_lt k n l) (leb (k (last_greatest k n)) (k n))
  where
    none : (n : ℕ) → (0 < n → ⊥) → last_greatest k n ≡ 0
    none zero g = refl
    none (suc n) g = absurd (omega (arith, g))

    go : Dec (0 < n) → (1 ≤ n → last_greatest k n < n) → (b : Bool) → cond b n (last_greatest k n) < suc n
    go d ih true = omega arith
    go (yes l) ih false = omega (arith, ih l)
    go (no l) ih false = omega (arith, none n l)

pub chosen_lt : (f : Family) (sat n : ℕ) (row : List ℕ) → 1 ≤ n → chosen f sat n row < n
unfolding chosen
chosen_lt f sat n row h = last_greatest_lt (λ (i : ℕ). key f sat (record_of f i row)) n h

pub keeps_fed_family : (f : Family) (n sat band : ℕ) (word : List ℕ) → 1 ≤ n → Keeps (fed_family f n sat band word) (row_size n)
unfolding fed_family
keeps_fed_family f n sat band word h row l =
    on_record_length f n (chosen f sat n row) (fed_record f sat band word) (keeps_fed_record f sat band word) row l (chosen_lt f sat n row h)

pub keeps_fed_row : (n sat band : ℕ) (word : List ℕ) → 1 ≤ n → Keeps (fed_row n sat band word) (row_size n)
unfolding fed_row
keeps_fed_row n sat band word h row l =
    keeps_fed_family Timing n sat band word h (fed_family CED n sat band word row) (keeps_fed_family CED n sat band word h row l)
