-- What each call makes of a store is a store again: its header, each of its rows and each of its records stay allowed. Assumes nothing.
use mathlib.Core.Bool.{Bool, true, false, cond, ◌&&◌, not}
use mathlib.Core.List.{List}
use mathlib.Core.Logic.{◌≢◌}
use mathlib.Core.Path.{◌≡◌, refl, sym, ap, ◌∙◌, subst}
use Prim.Native.Nat.{ℕ, ◌%◌, ◌<◌, ◌≤◌, ◌+◌}
use native.Mathlib.Omega.{arith}
use native.Mathlib.Decide.{ℕ_discrete}
use lib.Dec.{eqb, leb, ltb}
use borrow.Author.Tests.{ltb-true, leb-true, eqb-true}
use lib.ListN.{length, get_or}
use Rattle.paper.specs.Big.{be16, be32}
use Rattle.paper.specs.Record.{Family, satellite, data_of, aged}
use Rattle.paper.specs.Room.{row_size, room_size, depth, slots, current, row_of, record_of, rule_at, zeros_at, header_size, current_at, slots_at, head_size, mark_at, depth_at, spare_at}
use Rattle.paper.specs.Word.{fed_record}
use Rattle.paper.specs.Store.{InRange, sizes_allowed, rule_known, header_rest, most_in, row_allowed, is_store}
use Rattle.paper.specs.Fresh.{fresh}
use Rattle.paper.specs.Feed.{moves, rises_by, marked_at, chosen, fed}
use Rattle.paper.specs.Tag.{tagged, family_of, kind_known, status_known, cop_allowed, length_allowed, thirty_before, first_slot, candidate_row, candidate_slot, candidate_record, has_candidate}
use Rattle.paper.specs.Reset.{reset}
use Rattle.paper.specs.Satellite.{most_satellites, is_satellite}
use Rattle.paper.specs.Number.{number, unless}
use Rattle.paper.specs.Answer.{room_for, fresh_number, fresh_room, feed_number, feed_room, until_candidate, tag_number, tag_room, reset_number, reset_room}
use Rattle.paper.specs.Time.{is_time, is_start, start_of, week_seconds, last_start, subframe_seconds}
use Rattle.paper.proofs.First.{first_holds}
use Rattle.paper.proofs.Views.{length_row_of, other, length_record}
use Rattle.paper.proofs.Lengths.{keeps_marked_at}
use Rattle.paper.proofs.WordViews.{marked_at_spare, marked_at_mark, marked_at_time, row_settled, row_taken, row_settled_lt, row_taken_length, row_taken_record}
use Rattle.paper.proofs.WordViews.{row_taken_head, fed_row_head, fed_header, fed_facts, fed_here, fed_record_lem, fed_there}
use Rattle.paper.proofs.CallViews.{fresh_length, fresh_header, fresh_depth, fresh_slots, fresh_current, fresh_head, fresh_record, tagged_header}
use Rattle.paper.proofs.CallViews.{tagged_facts, tagged_head, tagged_record, tagged_other, reset_header, reset_facts, reset_head, reset_record}
use Rattle.paper.proofs.StoreFacts.{both_true, sizes_facts, store_facts, store_rest, store_row, facts_store, rest_same, RecordFacts, RowFacts, most_in_most, row_facts, row_allowed_lem, store_record}
use Rattle.stays.proofs.Records.{record_more, aged_stays, uncounted_stays, fed_record_stays, credited_stays}
use Rattle.stays.proofs.Rows.{either_family, SameHead, same_time, row_stays, blank_row_lem, marked_row}
use Rattle.paper.proofs.Order.{unless_zero}

-- ---- refusals
-- the room of a call: the new one after number 0, else the old one
pub room_for_lem : (P : List ℕ → Type 0) (k : ℕ) (after room : List ℕ) → (k ≡ 0 → P after) → P room → P (room_for k after room)
room_for_lem P k after room a r = go (eqb k 0) refl
  where
    go : (b : Bool) → eqb k 0 ≡ b → P (cond b after room)
    go true e = a (eqb-true k 0 e)
    go false e = r

pub satellite_known : (sat : ℕ) → is_satellite sat ≡ true → (1 ≤ sat) × (sat ≤ most_satellites)
satellite_known sat e =
    let a = both_true (leb 1 sat) (leb sat most_satellites) e in
    (leb-true 1 sat a.0, leb-true sat most_satellites a.1)

-- ---- a fresh room
pub fresh_allowed : (d n rule : ℕ) (room : List ℕ) → fresh_number d n rule room ≡ 0 → (sizes_allowed d n ≡ true) × (room_size d n ≤ length room) × (rule_known rule ≡ true)
unfolding fresh_number
fresh_allowed d n rule room e =
    let a = unless_zero (sizes_allowed d n && rule_known rule) 1 (unless (leb (room_size d n) (length room)) 2 0) (omega arith) e in
    let b = unless_zero (leb (room_size d n) (length room)) 2 0 (omega arith) a.1 in
    let c = both_true (sizes_allowed d n) (rule_known rule) a.0 in
    (c.0, leb-true (room_size d n) (length room) b.0, c.1)

module _ (d n rule : ℕ) (room : List ℕ) (made : fresh_number d n rule room ≡ 0) where
  fresh_fits : room_size d n ≤ length room
  fresh_fits = (fresh_allowed d n rule room made).1

  pub fresh_facts : InRange (fresh d n rule room)
  fresh_facts =
      let s = sizes_facts d n (fresh_allowed d n rule room made).0 in
      let ed = fresh_depth d n rule room fresh_fits in
      let en = fresh_slots d n rule room fresh_fits in
      let el = fresh_length d n rule room fresh_fits in
      record {
        long = omega (arith, el, fresh_fits);
        some_row = rw ed s.0;
        rows_within = rw ed s.1;
        some_slot = rw en s.2;
        slots_within = rw en s.3;
        in_ring = rw (fresh_current d n rule room fresh_fits, ed) s.0;
        fits = rw (ed, en, el) fresh_fits;
      }

  fresh_rest : header_rest (fresh d n rule room) ≡ true
  unfolding header_rest be32 be16
  fresh_rest =
      rw (
        fresh_header d n rule room fresh_fits rule_at (omega arith),
        fresh_header d n rule room fresh_fits zeros_at (omega arith),
        fresh_header d n rule room fresh_fits (zeros_at + 1) (omega arith),
        fresh_header d n rule room fresh_fits (zeros_at + 2) (omega arith),
        fresh_header d n rule room fresh_fits (zeros_at + 3) (omega arith),
        (fresh_allowed d n rule room made).2,
      )

  fresh_row_allowed : (r : ℕ) → r < depth (fresh d n rule room) → row_allowed (slots (fresh d n rule room)) (row_of r (fresh d n rule room)) ≡ true
  fresh_row_allowed r h =
      let b : r < d = rw (fresh_depth d n rule room fresh_fits) at h in
      row_allowed_lem (slots (fresh d n rule room)) (row_of r (fresh d n rule room))
      (blank_row_lem (slots (fresh d n rule room)) (row_of r (fresh d n rule room)) (fresh_head d n rule room fresh_fits r b)
      (λ f i g. fresh_record d n rule room fresh_fits f r b i (rw (fresh_slots d n rule room fresh_fits) at g)))

  fresh_store : is_store (fresh d n rule room) ≡ true
  fresh_store = facts_store (fresh d n rule room) fresh_facts fresh_rest fresh_row_allowed

  -- what a fresh call that succeeds leaves is a store
  pub fresh_stores : is_store (fresh_room d n rule room) ≡ true
  unfolding fresh_room
  fresh_stores = rw made fresh_store

-- a store stays one after any fresh call
pub fresh_stays : (d n rule : ℕ) (room : List ℕ) → is_store room ≡ true → is_store (fresh_room d n rule room) ≡ true
unfolding fresh_room
fresh_stays d n rule room s =
    room_for_lem (λ (x : List ℕ). is_store x ≡ true) (fresh_number d n rule room) (fresh d n rule room) room (λ e. fresh_store d n rule room e) s

-- ---- a change that leaves the header, and every row allowed
store_still : (x y : List ℕ) → is_store x ≡ true → InRange y → ((i : ℕ) → i < header_size → i ≢ current_at → get_or y i 0 ≡ get_or x i 0)
    → ((r : ℕ) → r < depth x → RowFacts (slots x) (row_of r y)) → is_store y ≡ true
store_still x y s F e rows =
    facts_store y F (rest_same x y e (store_rest x s))
    (λ r h. row_allowed_lem (slots y) (row_of r y)
    (subst (λ (n : ℕ). RowFacts n (row_of r y)) (sym (e slots_at (omega arith) (omega arith))) (rows r (rw (e depth_at (omega arith) (omega arith)) at h))))

row_was : (x : List ℕ) → is_store x ≡ true → (r : ℕ) → r < depth x → RowFacts (slots x) (row_of r x)
row_was x s r h = row_facts (slots x) (row_of r x) (store_row x s r h)

-- ---- a word
start_fits : (t : ℕ) → t < week_seconds → (start_of t ≤ last_start) × (start_of t % subframe_seconds ≡ 0)
start_fits t h = (omega arith, omega arith)

module _ (w t sat band : ℕ) (word room : List ℕ) (s : is_store room ≡ true) (one : 1 ≤ sat) (known : sat ≤ most_satellites) (h : t ≤ last_start) (g : t % subframe_seconds ≡ 0) where
  F : InRange room
  F = store_facts room s

  -- a record of the row that is current then, before the word
  taken_allowed : (f : Family) (i : ℕ) → i < slots room → RecordFacts f most_satellites (record_of f i (row_taken w t room))
  taken_allowed f i b = rw (row_taken_record w t room F f i b) (go (moves w t room))
    where
      rec : List ℕ
      rec = record_of f i (row_of (current room) room)

      was : RecordFacts f most_satellites rec
      was =
          record_more f (most_in (row_of (current room) room)) most_satellites rec (most_in_most (row_of (current room) room))
          (store_record room s f (current room) F.in_ring i b)

      go : (b : Bool) → RecordFacts f most_satellites (cond b (aged f (rises_by w t room) rec) rec)
      go true = aged_stays f (rises_by w t room) most_satellites rec (length_record f (slots room) i (row_of (current room) room) (length_row_of room F (current room) F.in_ring) b) was
      go false = was

  fed_allowed : (f : Family) (i : ℕ) → i < slots room → RecordFacts f most_satellites (record_of f i (row_of (row_settled w t room) (fed w t sat band word room)))
  fed_allowed f i b =
      rw (fed_record_lem w t sat band word room F f i b) (go (eqb i (chosen f sat (slots room) (row_taken w t room))))
    where
      rec : List ℕ
      rec = record_of f i (row_taken w t room)

      go : (b : Bool) → RecordFacts f most_satellites (cond b (fed_record f sat band word rec) rec)
      go true =
          fed_record_stays f most_satellites sat band word rec (length_record f (slots room) i (row_taken w t room) (row_taken_length w t room F) b) one known
          (taken_allowed f i b)
      go false = taken_allowed f i b

  long_taken : head_size ≤ length (row_taken w t room)
  long_taken = omega (arith, row_taken_length w t room F)

  -- the head of the current row is that of the row marked
  fed_head : SameHead (marked_at w t (row_taken w t room)) (row_of (row_settled w t room) (fed w t sat band word room))
  fed_head k b =
      ap (λ (row : List ℕ). get_or row k 0) (fed_here w t sat band word room F)
      ∙ fed_row_head (slots room) sat band word (marked_at w t (row_taken w t room)) F.some_slot
      (keeps_marked_at (row_size (slots room)) w t (row_taken w t room) (row_taken_length w t room F)) k b

  fed_current_row : RowFacts (slots room) (row_of (row_settled w t room) (fed w t sat band word room))
  fed_current_row =
      marked_row (slots room) t (row_of (row_settled w t room) (fed w t sat band word room))
      (fed_head mark_at (omega arith) ∙ marked_at_mark w t (row_taken w t room) long_taken)
      (fed_head spare_at (omega arith)
      ∙ marked_at_spare w t (row_taken w t room)
      ∙ row_taken_head w t room F spare_at (omega arith)
      ∙ (row_was room s (row_settled w t room) (row_settled_lt w t room F)).spare0)
      (same_time (marked_at w t (row_taken w t room)) (row_of (row_settled w t room) (fed w t sat band word room)) fed_head
      ∙ marked_at_time w t (row_taken w t room) long_taken)
      h g fed_allowed

  fed_row_lem : (r : ℕ) → r < depth room → RowFacts (slots room) (row_of r (fed w t sat band word room))
  fed_row_lem r b = go (ℕ_discrete r (row_settled w t room))
    where
      go : Dec (r ≡ row_settled w t room) → RowFacts (slots room) (row_of r (fed w t sat band word room))
      go (yes e) = rw e fed_current_row
      go (no e) = rw (fed_there w t sat band word room F r e) (row_was room s r b)

  fed_store : is_store (fed w t sat band word room) ≡ true
  fed_store = store_still room (fed w t sat band word room) s (fed_facts w t sat band word room F) (fed_header w t sat band word room F) fed_row_lem

-- what a word asks for, where its number is 0
pub feed_allowed : (word : List ℕ) (sat w t band : ℕ) (room : List ℕ) → feed_number word sat w t band room ≡ 0 → (is_satellite sat ≡ true) × (is_time t ≡ true)
unfolding feed_number
feed_allowed word sat w t band room e =
    let a = unless_zero (is_store room) 3 _ (omega arith) e in
    let b = unless_zero (is_satellite sat) 4 _ (omega arith) a.1 in
    let c = unless_zero (is_time t) 5 _ (omega arith) b.1 in
    (b.0, c.0)

-- a store stays one after any word
pub feed_stays : (word : List ℕ) (sat w t band : ℕ) (room : List ℕ) → is_store room ≡ true → is_store (feed_room word sat w t band room) ≡ true
unfolding feed_room
feed_stays word sat w t band room s =
    room_for_lem (λ (x : List ℕ). is_store x ≡ true) (feed_number word sat w t band room) (fed w (start_of t) sat band word room) room
    (λ e.
    let a = feed_allowed word sat w t band room e in
    let k = satellite_known sat a.0 in
    let b = start_fits t (ltb-true t week_seconds a.1) in
    fed_store w (start_of t) sat band word room s k.0 k.1 b.0 b.1)
    s

-- ---- a tag
-- a candidate has the satellite that was asked for
pub candidate_satellite : (f : Family) (sat cop w t : ℕ) (room : List ℕ) → has_candidate f sat cop w t room ≡ true
    → satellite (candidate_record f sat w t room) ≡ sat
unfolding has_candidate candidate_record candidate_slot first_slot
candidate_satellite f sat cop w t room e =
    let a = both_true (ltb (candidate_row w t room) (depth room) && ltb (candidate_slot f sat w t room) (slots room)) _ e in
    let b = both_true (ltb (candidate_row w t room) (depth room)) (ltb (candidate_slot f sat w t room) (slots room)) a.0 in
    eqb-true (satellite (candidate_record f sat w t room)) sat
    (first_holds (λ (i : ℕ). eqb (satellite (record_of f i (row_of (candidate_row w t room) room))) sat) (slots room)
    (ltb-true (candidate_slot f sat w t room) (slots room) b.1))

module _ (f : Family) (candidate : List ℕ) (l : ℕ) (room : List ℕ) (s : is_store room ≡ true) (one : 1 ≤ satellite candidate) where
  tagged_row : (r : ℕ) → r < depth room → RowFacts (slots room) (row_of r (tagged f candidate l room))
  tagged_row r h =
      row_stays (slots room) (row_of r room) (row_of r (tagged f candidate l room)) (tagged_head f candidate l room (store_facts room s) r h)
      (λ f' i g. records i g f')
      (row_was room s r h)
    where
      records : (i : ℕ) → i < slots room → (f' : Family) → RecordFacts f' (most_in (row_of r room)) (record_of f' i (row_of r (tagged f candidate l room)))
      records i g =
          either_family (λ (f' : Family). RecordFacts f' (most_in (row_of r room)) (record_of f' i (row_of r (tagged f candidate l room)))) f
          (rw (tagged_record f candidate l room (store_facts room s) r h i g)
          (credited_stays f (most_in (row_of r room)) (satellite candidate) (data_of f candidate) l (record_of f i (row_of r room))
          (length_record f (slots room) i (row_of r room) (length_row_of room (store_facts room s) r h) g) one (store_record room s f r h i g)))
          (rw (tagged_other f candidate l room (store_facts room s) r h i g) (store_record room s (other f) r h i g))

  tagged_store : is_store (tagged f candidate l room) ≡ true
  tagged_store =
      store_still room (tagged f candidate l room) s (tagged_facts f candidate l room (store_facts room s))
      (λ i h e. tagged_header f candidate l room (store_facts room s) i h)
      tagged_row

-- what a tag asks for, where its number is 0 or comes from what is asked later
pub candidate_allowed : (allowed known : Bool) (sat kind cop w t : ℕ) (room : List ℕ) (later : ℕ)
    → until_candidate allowed known sat kind cop w t room later ≡ 0
    → (is_satellite sat ≡ true) × (has_candidate (family_of kind) sat cop w t room ≡ true)
unfolding until_candidate
candidate_allowed allowed known sat kind cop w t room later e =
    let a = unless_zero (is_store room) 3 _ (omega arith) e in
    let b = unless_zero (is_satellite sat) 4 _ (omega arith) a.1 in
    let c = unless_zero (is_time t) 5 _ (omega arith) b.1 in
    let d = unless_zero (is_start t) 6 _ (omega arith) c.1 in
    let f = unless_zero allowed 8 _ (omega arith) d.1 in
    let g = unless_zero known 9 _ (omega arith) f.1 in
    let h = unless_zero (eqb (number (thirty_before w t)) 0) 7 _ (omega arith) g.1 in
    let i = unless_zero (not (eqb cop 0)) 16 _ (omega arith) h.1 in
    let j = unless_zero (has_candidate (family_of kind) sat cop w t room) 10 later (omega arith) i.1 in
    (b.0, j.0)

pub tag_allowed : (sat kind cop l status w t : ℕ) (given : List ℕ) (verdict : Bool) (room : List ℕ) → tag_number sat kind cop l status w t given verdict room ≡ 0
    → (is_satellite sat ≡ true) × (has_candidate (family_of kind) sat cop w t room ≡ true)
unfolding tag_number
tag_allowed sat kind cop l status w t given verdict room e =
    candidate_allowed (cop_allowed cop && length_allowed l) (kind_known kind && status_known status) sat kind cop w t room _ e

-- a store stays one after any tag
pub tag_stays : (sat kind cop l status w t : ℕ) (given : List ℕ) (verdict : Bool) (room : List ℕ) → is_store room ≡ true
    → is_store (tag_room sat kind cop l status w t given verdict room) ≡ true
unfolding tag_room
tag_stays sat kind cop l status w t given verdict room s =
    let f : Family = family_of kind in
    let candidate : List ℕ = candidate_record f sat w t room in
    room_for_lem (λ (x : List ℕ). is_store x ≡ true) (tag_number sat kind cop l status w t given verdict room) (tagged f candidate l room) room
    (λ e.
    let a = tag_allowed sat kind cop l status w t given verdict room e in
    tagged_store f candidate l room s (rw (candidate_satellite f sat cop w t room a.1) (satellite_known sat a.0).0))
    s

-- ---- a reset
module _ (room : List ℕ) (s : is_store room ≡ true) where
  reset_row : (r : ℕ) → r < depth room → RowFacts (slots room) (row_of r (reset room))
  reset_row r h =
      row_stays (slots room) (row_of r room) (row_of r (reset room)) (reset_head room (store_facts room s) r h)
      (λ f i g. rw (reset_record room (store_facts room s) r h f i g)
      (uncounted_stays f (most_in (row_of r room)) (record_of f i (row_of r room))
      (length_record f (slots room) i (row_of r room) (length_row_of room (store_facts room s) r h) g)
      (store_record room s f r h i g)))
      (row_was room s r h)

  reset_store : is_store (reset room) ≡ true
  reset_store =
      store_still room (reset room) s (reset_facts room (store_facts room s)) (λ i h e. reset_header room (store_facts room s) i h) reset_row

-- a store stays one after a reset
pub reset_stays : (room : List ℕ) → is_store room ≡ true → is_store (reset_room room) ≡ true
unfolding reset_room
reset_stays room s = room_for_lem (λ (x : List ℕ). is_store x ≡ true) (reset_number room) (reset room) room (λ e. reset_store room s) s
