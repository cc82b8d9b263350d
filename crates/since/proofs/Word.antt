-- A word that is answered 0 comes to the row that is then current: that row starts with the word's subframe, under rule 1 its ages have
-- risen by just the seconds that lie between, and of the records of the row the chosen one takes the word. Assumes nothing.
use mathlib.Core.Bool.{Bool, true, false, not, cond, ◌&&◌}
use mathlib.Core.List.{List, []}
use mathlib.Core.Path.{◌≡◌, refl, sym, ap, ◌∙◌}
use Prim.Native.Nat.{ℕ, ◌+◌, ◌*◌, ◌<◌, ◌≤◌}
use native.Mathlib.Omega.{arith}
use lib.Dec.{eqb, leb}
use lib.ListN.{length, get_or}
use borrow.Author.Tests.{eqb-true, eq-eqb, ltb-true}
use Rattle.paper.specs.Satellite.{is_satellite}
use Rattle.paper.specs.Time.{week_seconds, start_of, is_time, is_earlier, seconds_of}
use Rattle.paper.specs.Record.{Family, size, ages, satellite, older, aged}
use Rattle.paper.specs.Word.{word_bytes, fed_record}
use Rattle.paper.specs.Room.{head_size, row_size, record_of, slots, current, row_of, by_time, mark, week, time, marked, is_at}
use Rattle.paper.specs.Store.{InRange, is_store}
use Rattle.paper.specs.Feed.{moves, rises_by, comes_earlier, marked_at, chosen, fed}
use Rattle.paper.specs.Answer.{feed_number}
use Rattle.paper.specs.Call.{feed_call, answer_to}
use Rattle.paper.proofs.Seconds.{gone_seconds}
use Rattle.paper.proofs.Lengths.{keeps_marked_at}
use Rattle.paper.proofs.Order.{unless_zero}
use Rattle.paper.proofs.RecordViews.{aged_satellite}
use Rattle.paper.proofs.StoreFacts.{both_true, store_facts, store_row, row_facts}
use Rattle.paper.proofs.Views.{length_row_of, length_record}
use Rattle.paper.proofs.WordViews.{row_settled, row_taken, row_taken_length, row_taken_record, marked_at_mark, marked_at_week, marked_at_time, fed_row_head, fed_here, fed_record_lem}
use Rattle.stays.proofs.Rooms.{feed_allowed, satellite_known}
use Rattle.stays.proofs.Rows.{SameHead}
use Rattle.stays.proofs.Stays.{number_answer}
use Rattle.history.specs.Line.{succeeds}
use Rattle.since.specs.Brought.{Fed, Origin, no_word, fed_as, owned_by, owns_age, held_by, age_of}
use Rattle.since.proofs.Changes.{AgeIf, Stands, head_marked, head_seconds, aged_stands, fed_stands}

-- under rule 1, or under either
abbrev pub Ruled : Bool → List ℕ → Type 0
Ruled true room = by_time room ≡ true
Ruled false room = Unit {0}

-- the word as a call
abbrev pub accepted : Fed → List ℕ → Bool
accepted w room = succeeds (feed_call w.bytes w.satellite w.week w.time w.band) room

module _ (w : Fed) (room : List ℕ) (s : is_store room ≡ true) (e : accepted w room ≡ true) where
  abbrev T : ℕ
  T = start_of w.time

  F : InRange room
  F = store_facts room s

  -- ---- what the answer says
  answered_0 : feed_number w.bytes w.satellite w.week w.time w.band room ≡ 0
  unfolding answer_to
  answered_0 = sym (number_answer (feed_number w.bytes w.satellite w.week w.time w.band room) []) ∙ eqb-true _ 0 e

  known : 1 ≤ w.satellite
  known = (satellite_known w.satellite (feed_allowed w.bytes w.satellite w.week w.time w.band room answered_0).0).0

  passed : (is_time w.time ≡ true) × (not (comes_earlier w.week T room) ≡ true)
  unfolding feed_number
  passed =
      let a = unless_zero (is_store room) 3 _ (omega arith) answered_0 in
      let b = unless_zero (is_satellite w.satellite) 4 _ (omega arith) a.1 in
      let c = unless_zero (is_time w.time) 5 _ (omega arith) b.1 in
      let d = unless_zero (eqb (length w.bytes) word_bytes) 8 _ (omega arith) c.1 in
      let f = unless_zero (leb w.band 1) 9 _ (omega arith) d.1 in
      (c.0, (unless_zero (not (comes_earlier w.week T room)) 15 0 (omega arith) f.1).0)

  in_week : T < week_seconds
  in_week = let l = ltb-true w.time week_seconds passed.0 in omega arith

  -- ---- the row before, and the row that is then current
  abbrev cur : List ℕ
  cur = row_of (current room) room

  abbrev after : List ℕ
  after = row_of (row_settled w.week T room) (fed w.week T w.satellite w.band w.bytes room)

  abbrev ready : List ℕ
  ready = marked_at w.week T (row_taken w.week T room)

  taken_long : head_size ≤ length (row_taken w.week T room)
  taken_long = omega (arith, row_taken_length w.week T room F)

  after_head : SameHead ready after
  after_head j h =
      ap (λ (row : List ℕ). get_or row j 0) (fed_here w.week T w.satellite w.band w.bytes room F)
      ∙ fed_row_head (slots room) w.satellite w.band w.bytes ready F.some_slot
      (keeps_marked_at (row_size (slots room)) w.week T (row_taken w.week T room) (row_taken_length w.week T room F)) j h

  after_marked : marked after ≡ true
  after_marked = head_marked ready after after_head ∙ rw (marked_at_mark w.week T (row_taken w.week T room) taken_long)

  after_seconds : seconds_of (week after) (time after) ≡ seconds_of w.week T
  after_seconds =
      head_seconds ready after after_head
      ∙ rw (marked_at_week w.week T (row_taken w.week T room) taken_long, marked_at_time w.week T (row_taken w.week T room) taken_long)

  -- ---- ages, under rule 1
  module _ (ruled : by_time room ≡ true) where
    -- a marked row was not later than the word
    not_earlier : marked cur ≡ true → is_earlier w.week T (week cur) (time cur) ≡ false
    unfolding comes_earlier
    not_earlier m = turn _ (rw (ruled, m) at passed.1)
      where
        turn : (b : Bool) → not b ≡ true → b ≡ false
        turn true q = sym q
        turn false q = refl

    gone : marked cur ≡ true → seconds_of w.week T ≡ seconds_of (week cur) (time cur) + rises_by w.week T room * 30
    unfolding rises_by
    gone m =
        let q = (row_facts (slots room) cur (store_row room s (current room) F.in_ring)).subframe (eqb-true (mark cur) 1 m) in
        rw ruled (gone_seconds w.week T (week cur) (time cur) (omega arith) q.1 in_week (omega (arith, q.0)) (not_earlier m))

    -- the ring moved: the row starts as many seconds later as the ages say
    age_moved : (age : ℕ) (x : Origin) → AgeIf true age cur x → AgeIf true (older (rises_by w.week T room) age) after x
    age_moved age no_word a = omega arith
    age_moved age (fed_as v) a =
        record {
          marks = after_marked;
          subframes = a.subframes + rises_by w.week T room;
          apart = after_seconds ∙ omega (arith, gone a.marks, a.apart);
          says = omega (arith, a.says);
        }

    -- it did not: a marked row is of the word's own subframe
    same_start : moves w.week T room ≡ false → marked cur ≡ true → seconds_of (week cur) (time cur) ≡ seconds_of w.week T
    unfolding moves
    same_start stays m =
        let is : is_at w.week T cur ≡ true = turn (is_at w.week T cur) (rw m at stays) in
        let p = both_true (eqb (week cur) w.week) (eqb (time cur) T) is in
        rw (eqb-true (week cur) w.week p.0, eqb-true (time cur) T p.1)
      where
        turn : (b : Bool) → true && not b ≡ false → b ≡ true
        turn true q = refl
        turn false q = sym q

    age_stayed : moves w.week T room ≡ false → (age : ℕ) (x : Origin) → AgeIf true age cur x → AgeIf true age after x
    age_stayed stays age no_word a = a
    age_stayed stays age (fed_as v) a =
        record {
          marks = after_marked;
          subframes = a.subframes;
          apart = after_seconds ∙ sym (same_start stays a.marks) ∙ a.apart;
          says = a.says;
        }

  moved_age : (timed : Bool) → Ruled timed room → (age : ℕ) (x : Origin) → AgeIf timed age cur x → AgeIf timed (older (rises_by w.week T room) age) after x
  moved_age true ruled age x a = age_moved ruled age x a
  moved_age false ruled age x a = tt

  stayed_age : (timed : Bool) → Ruled timed room → moves w.week T room ≡ false → (age : ℕ) (x : Origin) → AgeIf timed age cur x → AgeIf timed age after x
  stayed_age true ruled stays age x a = age_stayed ruled stays age x a
  stayed_age false ruled stays age x a = tt

  -- the word's own age there
  own_age : (timed : Bool) → AgeIf timed 0 after (fed_as w)
  own_age true = record { marks = after_marked; subframes = 0; apart = after_seconds ∙ omega arith; says = omega arith }
  own_age false = tt

  -- ---- a record of the current row
  module _ (timed : Bool) (ruled : Ruled timed room) (k : ℕ) (f : Family) (h : k < ages f) (i : ℕ) (g : i < slots room) (x : Origin)
      (stands : Stands timed k f cur (record_of f i cur) x) where
    abbrev before : List ℕ
    before = record_of f i cur

    abbrev there : List ℕ
    there = record_of f i (row_taken w.week T room)

    before_long : length before ≡ size f
    before_long = length_record f (slots room) i cur (length_row_of room F (current room) F.in_ring) g

    there_long : length there ≡ size f
    there_long = length_record f (slots room) i (row_taken w.week T room) (row_taken_length w.week T room F) g

    -- as the row is taken
    there_stands : (satellite there ≡ satellite before) × Stands timed k f after there x
    there_stands = rw (row_taken_record w.week T room F f i g) (go (moves w.week T room) refl)
      where
        by : ℕ
        by = rises_by w.week T room

        go : (b : Bool) → moves w.week T room ≡ b
            → (satellite (cond b (aged f by before) before) ≡ satellite before) × Stands timed k f after (cond b (aged f by before) before) x
        go true q = (
          aged_satellite f by before before_long,
          aged_stands k f h before before_long timed by cur after x stands (moved_age timed ruled (age_of k f before) x stands.age),
        )
        go false q = (
          refl,
          record { free = stands.free; made = stands.made; age = stayed_age timed ruled q (age_of k f before) x stands.age },
        )

    -- and after the word
    abbrev became : List ℕ
    became = record_of f i after

    pub word_stands : Stands timed k f after became
        (cond (eqb i (chosen f w.satellite (slots room) (row_taken w.week T room)) && owns_age k (owned_by f w)) (fed_as w)
        (held_by (satellite became) (satellite before) x))
    word_stands =
        rw (fed_record_lem w.week T w.satellite w.band w.bytes room F f i g)
        (go (eqb i (chosen f w.satellite (slots room) (row_taken w.week T room))))
      where
        given : List ℕ
        given = fed_record f w.satellite w.band w.bytes there

        go : (b : Bool)
            → Stands timed k f after (cond b given there)
            (cond (b && owns_age k (owned_by f w)) (fed_as w) (held_by (satellite (cond b given there)) (satellite before) x))
        go true = rw there_stands.0 at (fed_stands timed k f h after there there_long x there_stands.1 w known (own_age timed))
        go false = rw (eq-eqb (satellite there) (satellite before) there_stands.0) there_stands.1
