-- What stands where in a record after a change of it: its satellite, its count, its ages, its data and its last byte. Assumes nothing.
use mathlib.Core.Bool.{Bool, true, false, cond, ◌||◌}
use mathlib.Core.List.{List, map}
use mathlib.Core.Path.{◌≡◌, refl, sym, ap, fun_ext, ◌∙◌}
use Prim.Native.Nat.{ℕ, ◌+◌, ◌-◌, ◌<◌, ◌≤◌, min}
use native.Mathlib.Omega.{arith}
use native.Mathlib.Decide.{dec_lt}
use lib.Dec.{eqb}
use lib.ListN.{length, take, drop, get_or, set, replicate, length-set, length-replicate, get_or-replicate}
use lib.Seq.{get_or-set_same, get_or-set_other, drop-set-lt, take-set-le, take-set-lt, drop-set-add, set_out}
use Rattle.paper.specs.Big.{be16}
use Rattle.paper.specs.Bits.{moved, changed}
use Rattle.paper.specs.Parts.{on_part}
use Rattle.paper.specs.Record.{Family, CED, Timing, data_bytes, ages, satellite_at, count_at, ages_at, data_at, size, satellite}
use Rattle.paper.specs.Record.{count, most_count, ages_of, data_of, with_count, with_ages, never_there, oldest, older, aged, blank_record}
use Rattle.paper.specs.Word.{owns, takeover, written}
use Rattle.paper.specs.Tag.{matches, credited}
use Rattle.paper.proofs.Big.{put16_other, put16_drop, be16_put16, be16_before}
use Rattle.paper.proofs.Parts.{Keeps, length_part, get_d_part, get_d_same_before, on_part_length, on_part_part, on_part_take, on_part_before, on_part_drop, part_replicate}
use Rattle.paper.proofs.Lengths.{keeps_const, keeps_map, keeps_moved, keeps_with_count}

-- ---- fields of a record
-- what lies before the data is read the same in records that agree there, and so is the data
pub same_count : (x y : List ℕ) → take ages_at x ≡ take ages_at y → count x ≡ count y
same_count x y e = be16_before ages_at count_at x y e (omega arith)

pub same_satellite : (x y : List ℕ) → take ages_at x ≡ take ages_at y → satellite x ≡ satellite y
same_satellite x y e = get_d_same_before ages_at satellite_at x y e (omega arith)

pub data_behind : (f : Family) (x y : List ℕ) → drop (data_at f) x ≡ drop (data_at f) y → data_of f x ≡ data_of f y
data_behind f x y e = ap (take (data_bytes f)) e

-- the last byte of a record is that of its data
pub last_byte : (f : Family) (rec : List ℕ) → get_or rec (size f - 1) 0 ≡ get_or (data_of f rec) (data_bytes f - 1) 0
last_byte CED rec = sym (get_d_part (data_at CED) (data_bytes CED) rec (data_bytes CED - 1) (omega arith))
last_byte Timing rec = sym (get_d_part (data_at Timing) (data_bytes Timing) rec (data_bytes Timing - 1) (omega arith))

pub same_last : (f : Family) (x y : List ℕ) → data_of f x ≡ data_of f y → get_or x (size f - 1) 0 ≡ get_or y (size f - 1) 0
same_last f x y e = last_byte f x ∙ ap (λ (d : List ℕ). get_or d (data_bytes f - 1) 0) e ∙ sym (last_byte f y)

-- ---- another count
module _ (c : ℕ) (rec : List ℕ) where
  pub with_count_satellite : satellite (with_count c rec) ≡ satellite rec
  with_count_satellite = put16_other rec count_at c satellite_at (omega arith) (omega arith)

  pub with_count_count : ages_at ≤ length rec → count (with_count c rec) ≡ c
  with_count_count h = be16_put16 rec count_at c (omega arith)

  pub with_count_ages : (f : Family) → ages_of f (with_count c rec) ≡ ages_of f rec
  with_count_ages f = ap (take (ages f)) (put16_drop rec count_at c ages_at (omega arith))

  pub with_count_data : (f : Family) → data_of f (with_count c rec) ≡ data_of f rec
  with_count_data f = data_behind f (with_count c rec) rec (put16_drop rec count_at c (data_at f) (omega arith))

-- ---- other ages
module _ (f : Family) (new : List ℕ) (n : length new ≡ ages f) (rec : List ℕ) (l : length rec ≡ size f) where
  pub with_ages_head : take ages_at (with_ages f new rec) ≡ take ages_at rec
  with_ages_head = on_part_take (λ (_ : List ℕ). new) (ages f) (keeps_const (ages f) new n) ages_at rec (omega arith) ages_at (omega arith)

  pub with_ages_ages : ages_of f (with_ages f new rec) ≡ new
  with_ages_ages = on_part_part (λ (_ : List ℕ). new) (ages f) (keeps_const (ages f) new n) ages_at rec (omega arith)

  pub with_ages_data : data_of f (with_ages f new rec) ≡ data_of f rec
  with_ages_data =
      data_behind f (with_ages f new rec) rec
      (on_part_drop (λ (_ : List ℕ). new) (ages f) (keeps_const (ages f) new n) ages_at rec (omega arith) (data_at f) (omega arith))

-- ---- ages that rise
module _ (f : Family) (by : ℕ) (rec : List ℕ) (l : length rec ≡ size f) where
  ages_inside : ages_at + ages f ≤ length rec
  ages_inside = omega arith

  aged_take : take ages_at (aged f by rec) ≡ take ages_at rec
  unfolding aged
  aged_take = on_part_take (map (older by)) (ages f) (keeps_map (ages f) (older by)) ages_at rec ages_inside ages_at (omega arith)

  pub aged_satellite : satellite (aged f by rec) ≡ satellite rec
  aged_satellite = same_satellite (aged f by rec) rec aged_take

  pub aged_count : count (aged f by rec) ≡ count rec
  aged_count = same_count (aged f by rec) rec aged_take

  pub aged_ages : ages_of f (aged f by rec) ≡ map (older by) (ages_of f rec)
  unfolding aged
  aged_ages = on_part_part (map (older by)) (ages f) (keeps_map (ages f) (older by)) ages_at rec ages_inside

  aged_drop : drop (data_at f) (aged f by rec) ≡ drop (data_at f) rec
  unfolding aged
  aged_drop = on_part_drop (map (older by)) (ages f) (keeps_map (ages f) (older by)) ages_at rec ages_inside (data_at f) (omega arith)

  pub aged_data : data_of f (aged f by rec) ≡ data_of f rec
  aged_data = data_behind f (aged f by rec) rec aged_drop

-- what is more than the greatest age may be held there first
older_held : (by : ℕ) → older (min oldest by) ≡ older by
older_held by = fun_ext (λ a. omega arith)

pub aged_held : (f : Family) (by : ℕ) → aged f (min oldest by) ≡ aged f by
unfolding aged
aged_held f by = fun_ext (λ rec. ap (λ (g : ℕ → ℕ). on_part (map g) ages_at (ages f) rec) (older_held by))

-- ---- a satellite taken
-- whether the record held that satellite or none
abbrev pub held_or_free : ℕ → List ℕ → Bool
held_or_free sat rec = eqb (satellite rec) sat || eqb (satellite rec) 0

module _ (f : Family) (sat : ℕ) (rec : List ℕ) (l : length rec ≡ size f) where
  -- the record with the satellite, and then as it is if it held another
  abbrev mine : List ℕ
  mine = set rec satellite_at sat

  abbrev taken_over : List ℕ
  taken_over = never_there f (with_count 0 mine)

  length_mine : length mine ≡ size f
  length_mine = length-set rec satellite_at sat ∙ l

  length_cleared : length (with_count 0 mine) ≡ size f
  length_cleared = keeps_with_count (size f) 0 mine length_mine

  over_head : take ages_at taken_over ≡ take ages_at (with_count 0 mine)
  over_head = with_ages_head f (replicate (ages f) oldest) (length-replicate (ages f) oldest) (with_count 0 mine) length_cleared

  pub takeover_satellite : satellite (takeover f sat rec) ≡ sat
  unfolding takeover
  takeover_satellite = go (held_or_free sat rec)
    where
      mine_satellite : satellite mine ≡ sat
      mine_satellite = get_or-set_same rec satellite_at sat 0 (omega arith)

      go : (b : Bool) → satellite (cond b mine taken_over) ≡ sat
      go true = mine_satellite
      go false = same_satellite taken_over (with_count 0 mine) over_head ∙ with_count_satellite 0 mine ∙ mine_satellite

  pub takeover_count : count (takeover f sat rec) ≡ cond (held_or_free sat rec) (count rec) 0
  unfolding takeover be16
  takeover_count = go (held_or_free sat rec)
    where
      go : (b : Bool) → count (cond b mine taken_over) ≡ cond b (count rec) 0
      go true =
          rw (
            get_or-set_other rec satellite_at count_at sat 0 (omega arith),
            get_or-set_other rec satellite_at (count_at + 1) sat 0 (omega arith),
          )
      go false = same_count taken_over (with_count 0 mine) over_head ∙ with_count_count 0 mine (omega (arith, length_mine))

  pub takeover_ages : ages_of f (takeover f sat rec) ≡ cond (held_or_free sat rec) (ages_of f rec) (replicate (ages f) oldest)
  unfolding takeover
  takeover_ages = go (held_or_free sat rec)
    where
      go : (b : Bool) → ages_of f (cond b mine taken_over) ≡ cond b (ages_of f rec) (replicate (ages f) oldest)
      go true = ap (take (ages f)) (drop-set-lt ages_at rec satellite_at sat (omega arith))
      go false = with_ages_ages f (replicate (ages f) oldest) (length-replicate (ages f) oldest) (with_count 0 mine) length_cleared

  pub takeover_data : data_of f (takeover f sat rec) ≡ data_of f rec
  unfolding takeover
  takeover_data = go (held_or_free sat rec)
    where
      mine_data : data_of f mine ≡ data_of f rec
      mine_data = data_behind f mine rec (drop-set-lt (data_at f) rec satellite_at sat (omega arith))

      go : (b : Bool) → data_of f (cond b mine taken_over) ≡ data_of f rec
      go true = mine_data
      go false =
          with_ages_data f (replicate (ages f) oldest) (length-replicate (ages f) oldest) (with_count 0 mine) length_cleared
          ∙ with_count_data 0 mine f
          ∙ mine_data

-- ---- a word written
module _ (f : Family) (to from n age : ℕ) (word rec : List ℕ) (l : length rec ≡ size f) where
  abbrev move : List ℕ
  move = on_part (λ (x : List ℕ). moved x to word from n) (data_at f) (data_bytes f) rec

  -- the word written and the age 0, the count not yet looked at
  abbrev touched : List ℕ
  touched = set move (ages_at + age) 0

  data_inside : data_at f + data_bytes f ≤ length rec
  data_inside = omega arith

  keeps_move : Keeps (λ (x : List ℕ). moved x to word from n) (data_bytes f)
  keeps_move = keeps_moved (data_bytes f) to word from n

  touched_length : length touched ≡ size f
  touched_length =
      length-set move (ages_at + age) 0
      ∙ on_part_length (λ (x : List ℕ). moved x to word from n) (data_bytes f) keeps_move (data_at f) rec data_inside
      ∙ l

  touched_take : take ages_at touched ≡ take ages_at rec
  touched_take =
      take-set-le ages_at move (ages_at + age) 0 (omega arith)
      ∙ on_part_take (λ (x : List ℕ). moved x to word from n) (data_bytes f) keeps_move (data_at f) rec data_inside ages_at (omega arith)

  touched_ages : ages_of f touched ≡ set (ages_of f rec) age 0
  touched_ages = go (dec_lt age (ages f))
    where
      before : ages_of f move ≡ ages_of f rec
      before = on_part_before (λ (x : List ℕ). moved x to word from n) (data_bytes f) keeps_move (data_at f) rec data_inside ages_at (ages f) (omega arith)

      one : Dec (age < ages f) → take (ages f) (set (drop ages_at move) age 0) ≡ set (take (ages f) (drop ages_at move)) age 0
      one (yes h) = take-set-lt (ages f) (drop ages_at move) age 0 h
      one (no h) =
          take-set-le (ages f) (drop ages_at move) age 0 (omega arith)
          ∙ sym (set_out (take (ages f) (drop ages_at move)) age 0 (omega (arith, length_part ages_at (ages f) move (omega (arith, touched_length, length-set move (ages_at + age) 0)))))

      go : Dec (age < ages f) → ages_of f touched ≡ set (ages_of f rec) age 0
      go h = ap (take (ages f)) (drop-set-add ages_at move age 0) ∙ one h ∙ ap (λ (x : List ℕ). set x age 0) before

  touched_data : age < ages f → data_of f touched ≡ moved (data_of f rec) to word from n
  touched_data h =
      data_behind f touched move (drop-set-lt (data_at f) move (ages_at + age) 0 (omega arith))
      ∙ on_part_part (λ (x : List ℕ). moved x to word from n) (data_bytes f) keeps_move (data_at f) rec data_inside

  pub written_satellite : satellite (written f (owns to from n age) word rec) ≡ satellite rec
  unfolding written
  written_satellite = go (changed (data_of f rec) to word from n)
    where
      go : (b : Bool) → satellite (cond b (with_count 0 touched) touched) ≡ satellite rec
      go true = with_count_satellite 0 touched ∙ same_satellite touched rec touched_take
      go false = same_satellite touched rec touched_take

  pub written_count : count (written f (owns to from n age) word rec) ≡ cond (changed (data_of f rec) to word from n) 0 (count rec)
  unfolding written
  written_count = go (changed (data_of f rec) to word from n)
    where
      go : (b : Bool) → count (cond b (with_count 0 touched) touched) ≡ cond b 0 (count rec)
      go true = with_count_count 0 touched (omega (arith, touched_length))
      go false = same_count touched rec touched_take

  pub written_ages : ages_of f (written f (owns to from n age) word rec) ≡ set (ages_of f rec) age 0
  unfolding written
  written_ages = go (changed (data_of f rec) to word from n)
    where
      go : (b : Bool) → ages_of f (cond b (with_count 0 touched) touched) ≡ set (ages_of f rec) age 0
      go true = with_count_ages 0 touched f ∙ touched_ages
      go false = touched_ages

  pub written_data : age < ages f → data_of f (written f (owns to from n age) word rec) ≡ moved (data_of f rec) to word from n
  unfolding written
  written_data h = go (changed (data_of f rec) to word from n)
    where
      go : (b : Bool) → data_of f (cond b (with_count 0 touched) touched) ≡ moved (data_of f rec) to word from n
      go true = with_count_data 0 touched f ∙ touched_data h
      go false = touched_data h

-- ---- a tag counted
module _ (f : Family) (sat : ℕ) (bits : List ℕ) (l : ℕ) (rec : List ℕ) where
  pub credited_satellite : satellite (credited f sat bits l rec) ≡ satellite rec
  unfolding credited
  credited_satellite = go (matches f sat bits rec)
    where
      go : (b : Bool) → satellite (cond b (with_count (min most_count (count rec + l)) rec) rec) ≡ satellite rec
      go true = with_count_satellite (min most_count (count rec + l)) rec
      go false = refl

  pub credited_ages : ages_of f (credited f sat bits l rec) ≡ ages_of f rec
  unfolding credited
  credited_ages = go (matches f sat bits rec)
    where
      go : (b : Bool) → ages_of f (cond b (with_count (min most_count (count rec + l)) rec) rec) ≡ ages_of f rec
      go true = with_count_ages (min most_count (count rec + l)) rec f
      go false = refl

  pub credited_data : data_of f (credited f sat bits l rec) ≡ data_of f rec
  unfolding credited
  credited_data = go (matches f sat bits rec)
    where
      go : (b : Bool) → data_of f (cond b (with_count (min most_count (count rec + l)) rec) rec) ≡ data_of f rec
      go true = with_count_data (min most_count (count rec + l)) rec f
      go false = refl

  pub credited_count : ages_at ≤ length rec → count (credited f sat bits l rec) ≡ cond (matches f sat bits rec) (min most_count (count rec + l)) (count rec)
  unfolding credited
  credited_count h = go (matches f sat bits rec)
    where
      go : (b : Bool) → count (cond b (with_count (min most_count (count rec + l)) rec) rec) ≡ cond b (min most_count (count rec + l)) (count rec)
      go true = with_count_count (min most_count (count rec + l)) rec h
      go false = refl

-- ---- a blank record
module _ (f : Family) where
  blank_head_lem : take ages_at (blank_record f) ≡ take ages_at (replicate (size f) 0)
  unfolding blank_record
  blank_head_lem = with_ages_head f (replicate (ages f) oldest) (length-replicate (ages f) oldest) (replicate (size f) 0) (length-replicate (size f) 0)

  pub blank_satellite : satellite (blank_record f) ≡ 0
  blank_satellite =
      same_satellite (blank_record f) (replicate (size f) 0) blank_head_lem ∙ get_or-replicate (size f) satellite_at 0 0 (omega arith)

  pub blank_count : count (blank_record f) ≡ 0
  unfolding be16
  blank_count =
      same_count (blank_record f) (replicate (size f) 0) blank_head_lem
      ∙ rw (get_or-replicate {A = ℕ} (size f) count_at 0 0 (omega arith), get_or-replicate {A = ℕ} (size f) (count_at + 1) 0 0 (omega arith))

  pub blank_ages : ages_of f (blank_record f) ≡ replicate (ages f) oldest
  unfolding blank_record
  blank_ages = with_ages_ages f (replicate (ages f) oldest) (length-replicate (ages f) oldest) (replicate (size f) 0) (length-replicate (size f) 0)

  pub blank_data : data_of f (blank_record f) ≡ replicate (data_bytes f) 0
  unfolding blank_record
  blank_data =
      with_ages_data f (replicate (ages f) oldest) (length-replicate (ages f) oldest) (replicate (size f) 0) (length-replicate (size f) 0)
      ∙ part_replicate (data_at f) (data_bytes f) (size f) 0 (omega arith)
