-- What each change of a record does to what it is made of: a row's copy keeps its words and makes them older, a word takes the place of the
-- one of its age and leaves the others', and a satellite that takes the record over finds none. Assumes nothing.
use mathlib.Core.Bool.{Bool, true, false, cond, ◌||◌, false≢true}
use mathlib.Core.List.{List, [], ◌∷◌, map}
use mathlib.Core.Logic.{◌≢◌}
use mathlib.Core.Path.{◌≡◌, refl, sym, ap, subst, ◌∙◌}
use Prim.Native.Nat.{ℕ, zero, suc, ◌+◌, ◌<◌, ◌≤◌}
use native.Mathlib.Omega.{arith}
use native.Mathlib.Decide.{dec_lt}
use lib.Dec.{eqb}
use borrow.Author.Tests.{eqb-true, eqb-false, eq-eqb, ne_eqb}
use lib.ListN.{length, get_or, set, replicate, get_or-replicate}
use lib.Seq.{get_or-set_same, get_or-set_other}
use Rattle.paper.specs.Bits.{bit_at, moved}
use Rattle.paper.specs.Time.{seconds_of}
use Rattle.paper.specs.Record.{Family, CED, Timing, size, ages, ages_at, data_at, data_bytes, satellite, ages_of, data_of, oldest, older, aged, blank_record}
use Rattle.paper.specs.Word.{Owned, nothing, owns, InBounds, type_of, takeover, written, fed_record}
use Rattle.paper.specs.Room.{mark_at, week, time, marked}
use Rattle.paper.proofs.Bits.{moved_before, moved_after, moved_inside}
use Rattle.paper.proofs.Parts.{length_part}
use Rattle.paper.proofs.Lengths.{keeps_takeover}
use Rattle.paper.proofs.RecordViews.{aged_satellite, aged_ages, aged_data, takeover_satellite, takeover_ages, takeover_data, written_ages, written_data, blank_ages}
use Rattle.paper.proofs.WordTable.{owned_in_bounds}
use Rattle.stays.proofs.Rows.{SameHead, same_week, same_time}
use Rattle.history.proofs.Records.{written_same}
use Rattle.since.specs.Brought.{Fed, Origin, no_word, fed_as, owned_by, owns_age, held_by, StandIn, Holds, age_of, MadeOf, AgeSays}
use Rattle.since.proofs.Shares.{IsShare, owned_share, share_rises}

-- under rule 1 the age says when the word came; under either rule nothing of it is said
abbrev pub AgeIf : Bool → ℕ → List ℕ → Origin → Type 0
AgeIf true age row x = AgeSays age row x
AgeIf false age row x = Unit {0}

-- what is carried along a line, of one age of a record and its row: what it is made of, and that a record without a satellite has no age
pub record Stands (timed : Bool) (k : ℕ) (f : Family) (row rec : List ℕ) (x : Origin) : Type 0 where
  pub free : satellite rec ≡ 0 → age_of k f rec ≡ oldest
  pub made : MadeOf k f rec x
  pub age : AgeIf timed (age_of k f rec) row x

-- ---- the same satellite and the same data
holds_same : (k : ℕ) (f : Family) (rec rec' : List ℕ) (w : Fed) → satellite rec' ≡ satellite rec → data_of f rec' ≡ data_of f rec
    → Holds k f rec w → Holds k f rec' w
holds_same k f rec rec' w s d h =
    record { same = s ∙ h.same; owner = h.owner; bits = subst (λ (b : List ℕ). StandIn b (owned_by f w) w.bytes) (sym d) h.bits }

made_same : (k : ℕ) (f : Family) (rec rec' : List ℕ) (x : Origin) → satellite rec' ≡ satellite rec → data_of f rec' ≡ data_of f rec
    → (age_of k f rec ≡ oldest → age_of k f rec' ≡ oldest) → MadeOf k f rec x → MadeOf k f rec' x
made_same k f rec rec' no_word s d a m = a m
made_same k f rec rec' (fed_as w) s d a m = holds_same k f rec rec' w s d m

-- ---- the same head of a row
module _ (row row' : List ℕ) (h : SameHead row row') where
  pub head_marked : marked row' ≡ marked row
  head_marked = rw (h mark_at (omega arith))

  pub head_seconds : seconds_of (week row') (time row') ≡ seconds_of (week row) (time row)
  head_seconds = rw (same_week row row' h, same_time row row' h)

  head_age : (timed : Bool) (age : ℕ) (x : Origin) → AgeIf timed age row x → AgeIf timed age row' x
  head_age false age x a = tt
  head_age true age no_word a = a
  head_age true age (fed_as w) a =
      record { marks = head_marked ∙ a.marks; subframes = a.subframes; apart = head_seconds ∙ a.apart; says = a.says }

-- ---- a call that leaves the row's head and the record's satellite, ages and data
pub record Same (f : Family) (row row' rec rec' : List ℕ) : Type 0 where
  pub head : SameHead row row'
  pub satellites : satellite rec' ≡ satellite rec
  pub ages : ages_of f rec' ≡ ages_of f rec
  pub datas : data_of f rec' ≡ data_of f rec

pub same_stands : (timed : Bool) (k : ℕ) (f : Family) (row row' rec rec' : List ℕ) (x : Origin) → Same f row row' rec rec'
    → Stands timed k f row rec x → Stands timed k f row' rec' (held_by (satellite rec') (satellite rec) x)
same_stands timed k f row row' rec rec' x e s =
    let is : age_of k f rec' ≡ age_of k f rec = ap (λ (l : List ℕ). get_or l k 0) e.ages in
    rw (eq-eqb (satellite rec') (satellite rec) e.satellites)
    (record {
      free = λ z. is ∙ s.free (sym e.satellites ∙ z);
      made = made_same k f rec rec' x e.satellites e.datas (λ o. is ∙ o) s.made;
      age = head_age row row' e.head timed (age_of k f rec') x (subst (λ (n : ℕ). AgeIf timed n row x) (sym is) s.age);
    })

-- ---- a fresh record
pub blank_stands : (timed : Bool) (k : ℕ) (f : Family) → k < ages f → (row : List ℕ) → Stands timed k f row (blank_record f) no_word
blank_stands timed k f h row = record { free = λ z. is; made = is; age = go timed }
  where
    is : age_of k f (blank_record f) ≡ oldest
    is = ap (λ (l : List ℕ). get_or l k 0) (blank_ages f) ∙ get_or-replicate (ages f) k oldest 0 h

    go : (b : Bool) → AgeIf b (age_of k f (blank_record f)) row no_word
    go true = is
    go false = tt

-- ---- a record so much older
older_at : (by : ℕ) (l : List ℕ) (k : ℕ) → k < length l → get_or (map (older by) l) k 0 ≡ older by (get_or l k 0)
older_at by [] k h = omega arith
older_at by (a ∷ l) zero h = refl
older_at by (a ∷ l) (suc k) h = older_at by l k (omega arith)

module _ (k : ℕ) (f : Family) (h : k < ages f) (rec : List ℕ) (l : length rec ≡ size f) where
  pub aged_age : (by : ℕ) → age_of k f (aged f by rec) ≡ older by (age_of k f rec)
  aged_age by =
      ap (λ (x : List ℕ). get_or x k 0) (aged_ages f by rec l)
      ∙ older_at by (ages_of f rec) k (omega (arith, length_part ages_at (ages f) rec (omega arith)))

  -- in another row, of which the age that it then has is right
  pub aged_stands : (timed : Bool) (by : ℕ) (row row' : List ℕ) (x : Origin) → Stands timed k f row rec x
      → AgeIf timed (older by (age_of k f rec)) row' x → Stands timed k f row' (aged f by rec) x
  aged_stands timed by row row' x s a =
      record {
        free = λ z. omega (arith, aged_age by, s.free (sym (aged_satellite f by rec l) ∙ z));
        made = made_same k f rec (aged f by rec) x (aged_satellite f by rec l) (aged_data f by rec l) (λ o. omega (arith, aged_age by)) s.made;
        age = subst (λ (n : ℕ). AgeIf timed n row' x) (sym (aged_age by)) a;
      }

-- ---- the data after a word
abbrev after_word : Owned → List ℕ → List ℕ → List ℕ
after_word nothing w d = d
after_word (owns to from n age) w d = moved d to w from n

-- what it owns is its own
own_bits : (f : Family) (k : ℕ) (o : Owned) → InBounds f o → owns_age k o ≡ true → (w d : List ℕ) → length d ≡ data_bytes f → StandIn (after_word o w d) o w
own_bits f k nothing b y w d l = absurd (false≢true y)
own_bits CED k (owns to from n age) b y w d l = λ i h. moved_inside d to w from n i (omega (arith, b.0)) h
own_bits Timing k (owns to from n age) b y w d l = λ i h. moved_inside d to w from n i (omega (arith, b.0)) h

-- what the word of another age owns stays
other_bits : (k : ℕ) (f : Family) (o o' : Owned) → IsShare f o → IsShare f o' → owns_age k o ≡ false → owns_age k o' ≡ true → (w w' d : List ℕ)
    → StandIn d o' w' → StandIn (after_word o w d) o' w'
other_bits k f nothing o' p p' n y w w' d st = st
other_bits k f (owns to from m age) nothing p p' n y w w' d st = st
other_bits k f (owns to from m age) (owns to' from' m' age') p p' n y w w' d st = λ i h. beside i h (dec_lt age age') ∙ st i h
  where
    mine : age' ≡ k
    mine = eqb-true age' k y

    another : age ≢ k
    another = eqb-false age k n

    beside : (i : ℕ) → i < m' → Dec (age < age') → bit_at (moved d to w from m) (to' + i) ≡ bit_at d (to' + i)
    beside i h (yes b) = moved_after d to w from m (to' + i) (omega (arith, share_rises f (suc age) age' (omega arith)))
    beside i h (no b) =
        let c : age' < age = omega (arith, another, mine) in
        moved_before d to w from m (to' + i) (omega (arith, share_rises f (suc age') age (omega arith)))

-- ---- a record that a word comes to, in a row of which age 0 is right for that word
module _ (timed : Bool) (k : ℕ) (f : Family) (h : k < ages f) (row rec : List ℕ) (l : length rec ≡ size f) (x : Origin) (s : Stands timed k f row rec x)
    (w : Fed) (known : 1 ≤ w.satellite) (now : AgeIf timed 0 row (fed_as w)) where
  abbrev o : Owned
  o = owned_by f w

  abbrev mine : List ℕ
  mine = takeover f w.satellite rec

  abbrev after : List ℕ
  after = written f o w.bytes mine

  mine_long : length mine ≡ size f
  mine_long = keeps_takeover f w.satellite rec l

  after_satellite : satellite after ≡ w.satellite
  after_satellite = written_same f w.bytes mine mine_long o ∙ takeover_satellite f w.satellite rec l

  after_data : data_of f after ≡ after_word o w.bytes (data_of f rec)
  unfolding written
  after_data = go o (owned_in_bounds f (type_of w.bytes) w.band)
    where
      go : (q : Owned) → InBounds f q → data_of f (written f q w.bytes mine) ≡ after_word q w.bytes (data_of f rec)
      go nothing b = takeover_data f w.satellite rec l
      go (owns to from n age) b =
          written_data f to from n age w.bytes mine mine_long b.2
          ∙ ap (λ (d : List ℕ). moved d to w.bytes from n) (takeover_data f w.satellite rec l)

  -- its age: 0 where the word owns it, else that of the record as the satellite took it
  after_age : age_of k f after ≡ cond (owns_age k o) 0 (age_of k f mine)
  unfolding written
  after_age = go o (owned_in_bounds f (type_of w.bytes) w.band)
    where
      set_age : (age : ℕ) (own : Bool) → eqb age k ≡ own → get_or (set (ages_of f mine) age 0) k 0 ≡ cond own 0 (age_of k f mine)
      set_age age true e =
          rw (eqb-true age k e)
          (get_or-set_same (ages_of f mine) k 0 0 (omega (arith, mine_long, length_part ages_at (ages f) mine (omega (arith, mine_long)))))
      set_age age false e = get_or-set_other (ages_of f mine) age k 0 0 (λ q. eqb-false age k e (sym q))

      go : (q : Owned) → InBounds f q → age_of k f (written f q w.bytes mine) ≡ cond (owns_age k q) 0 (age_of k f mine)
      go nothing b = refl
      go (owns to from n age) b =
          ap (λ (r : List ℕ). get_or r k 0) (written_ages f to from n age w.bytes mine mine_long) ∙ set_age age (eqb age k) refl

  -- a satellite keeps the ages of its record, and comes to another's without one
  mine_age : (own : Bool) → eqb (satellite rec) w.satellite ≡ own → age_of k f mine ≡ cond own (age_of k f rec) oldest
  mine_age own e = ap (λ (r : List ℕ). get_or r k 0) (takeover_ages f w.satellite rec l) ∙ rw e (go own (eqb (satellite rec) 0) refl)
    where
      go : (b free : Bool) → eqb (satellite rec) 0 ≡ free
          → get_or (cond (b || free) (ages_of f rec) (replicate (ages f) oldest)) k 0 ≡ cond b (age_of k f rec) oldest
      go true free z = refl
      go false true z = s.free (eqb-true (satellite rec) 0 z)
      go false false z = get_or-replicate (ages f) k oldest 0 h

  -- the word is the one of this age
  its_own : owns_age k o ≡ true → Stands timed k f row after (fed_as w)
  its_own e =
      let zero-age : age_of k f after ≡ 0 = after_age ∙ rw e in
      record {
        free = λ z. omega (arith, after_satellite);
        made =
            record {
              same = after_satellite;
              owner = e;
              bits =
                  subst (λ (d : List ℕ). StandIn d o w.bytes) (sym after_data)
                  (own_bits f k o (owned_in_bounds f (type_of w.bytes) w.band) e w.bytes (data_of f rec) (length_part (data_at f) (data_bytes f) rec (omega arith)));
            };
        age = subst (λ (n : ℕ). AgeIf timed n row (fed_as w)) (sym zero-age) now;
      }

  -- it is not, and the satellite is another
  lost : owns_age k o ≡ false → eqb (satellite rec) w.satellite ≡ false → Stands timed k f row after no_word
  lost e other =
      let is : age_of k f after ≡ oldest = after_age ∙ rw e (mine_age false other) in
      record { free = λ z. is; made = is; age = go timed is }
    where
      go : (b : Bool) → age_of k f after ≡ oldest → AgeIf b (age_of k f after) row no_word
      go true is = is
      go false is = tt

  -- it is not, and the satellite stays
  kept : owns_age k o ≡ false → eqb (satellite rec) w.satellite ≡ true → Stands timed k f row after x
  kept e same =
      let is : age_of k f after ≡ age_of k f rec = after_age ∙ rw e (mine_age true same) in
      record {
        free = λ z. omega (arith, after_satellite);
        made = go x is s.made;
        age = subst (λ (n : ℕ). AgeIf timed n row x) (sym is) s.age;
      }
    where
      go : (y : Origin) → age_of k f after ≡ age_of k f rec → MadeOf k f rec y → MadeOf k f after y
      go no_word is m = is ∙ m
      go (fed_as v) is m =
          record {
            same = after_satellite ∙ sym (eqb-true (satellite rec) w.satellite same) ∙ m.same;
            owner = m.owner;
            bits =
                subst (λ (d : List ℕ). StandIn d (owned_by f v) v.bytes) (sym after_data)
                (other_bits k f o (owned_by f v) (owned_share f (type_of w.bytes) w.band) (owned_share f (type_of v.bytes) v.band) e m.owner
                w.bytes v.bytes (data_of f rec) m.bits);
          }

  pub fed_stands : Stands timed k f row (fed_record f w.satellite w.band w.bytes rec)
      (cond (owns_age k o) (fed_as w) (held_by (satellite (fed_record f w.satellite w.band w.bytes rec)) (satellite rec) x))
  unfolding fed_record
  fed_stands = rw after_satellite (go (owns_age k o) refl (eqb (satellite rec) w.satellite) refl)
    where
      go : (own : Bool) → owns_age k o ≡ own → (same : Bool) → eqb (satellite rec) w.satellite ≡ same
          → Stands timed k f row after (cond own (fed_as w) (held_by w.satellite (satellite rec) x))
      go true e same q = its_own e
      go false e true q = rw (eq-eqb w.satellite (satellite rec) (sym (eqb-true (satellite rec) w.satellite q))) (kept e q)
      go false e false q = rw (ne_eqb w.satellite (satellite rec) (λ z. eqb-false (satellite rec) w.satellite q (sym z))) (lost e q)
