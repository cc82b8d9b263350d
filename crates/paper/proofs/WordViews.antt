-- What a word leaves where in a room: the ring advanced, the row marked, and the records chosen in it. Assumes nothing.
use mathlib.Core.Bool.{Bool, true, false, cond}
use mathlib.Core.List.{List}
use mathlib.Core.Logic.{◌≢◌}
use mathlib.Core.Path.{◌≡◌, refl, sym, ap, ◌∙◌}
use Prim.Native.Nat.{ℕ, zero, suc, ◌+◌, ◌*◌, ◌<◌, ◌≤◌, min}
use native.Mathlib.Omega.{arith}
use lib.Dec.{eqb, ltb}
use borrow.Author.Tests.{ltb-true, eqb-true, eqb-false}
use lib.ListN.{length, take, drop, get_or, set, length-set}
use lib.Seq.{get_or-set_same, get_or-set_other, drop-set-lt}
use Rattle.paper.specs.Big.{put16, put32}
use Rattle.paper.specs.Parts.{part, on_part}
use Rattle.paper.specs.Record.{Family, CED, Timing, size, oldest, aged}
use Rattle.paper.specs.Room.{depth_at, slots_at, current_at, header_size, mark_at, week_at, time_at, spare_at, head_size, slot_size, base, row_size, room_size}
use Rattle.paper.specs.Room.{depth, slots, current, row_at, row_of, mark, week, time, spare, record_at, record_of, each_record}
use Rattle.paper.specs.Word.{fed_record}
use Rattle.paper.specs.Feed.{next_row, moves, rises_by, copied, aged_row, advanced, marked_at, current_marked, settled, last_greatest, chosen, key, fed_family, fed_row, fed_current, fed}
use Rattle.paper.specs.Store.{InRange}
use Rattle.paper.proofs.Big.{length_put16, put16_other, put16_drop, put32_take, put32_drop, be16_put16, be16_before, be32_put32}
use Rattle.paper.proofs.Parts.{Keeps, length_part, part_part, get_d_same_before, get_d_same_after, on_part_length, on_part_get_d_before, on_part_within, on_part_nested}
use Rattle.paper.proofs.Views.{row_in, row_fits, row_inside, length_row_of, facts_same, other, slot_fits, on_row_length, on_row_header, on_row_here, on_row_there}
use Rattle.paper.proofs.Views.{on_row_past, header_set_row, on_record_head, on_record_here, on_record_there, on_record_other, each_record_length, each_record_head, each_record_here, each_record_other}
use Rattle.paper.proofs.RecordViews.{aged_held}
use Rattle.paper.proofs.Lengths.{keeps_const, keeps_aged, keeps_fed_record, keeps_marked_at, keeps_aged_row, last_greatest_lt, chosen_lt, keeps_fed_family, keeps_fed_row}

-- ---- a row filled with the records of another
abbrev pub filled : ℕ → List ℕ → List ℕ → List ℕ
filled n from row = on_part (λ (_ : List ℕ). part head_size (n * slot_size) from) head_size (n * slot_size) row

module _ (n : ℕ) (from row : List ℕ) (lf : length from ≡ row_size n) (l : length row ≡ row_size n) where
  records_keep : Keeps (λ (_ : List ℕ). part head_size (n * slot_size) from) (n * slot_size)
  records_keep = keeps_const (n * slot_size) (part head_size (n * slot_size) from) (length_part head_size (n * slot_size) from (omega arith))

  pub filled_length : length (filled n from row) ≡ row_size n
  filled_length = on_part_length (λ (_ : List ℕ). part head_size (n * slot_size) from) (n * slot_size) records_keep head_size row (omega arith) ∙ l

  pub filled_head : (k : ℕ) → k < head_size → get_or (filled n from row) k 0 ≡ get_or row k 0
  filled_head k h = on_part_get_d_before (λ (_ : List ℕ). part head_size (n * slot_size) from) (n * slot_size) records_keep head_size row (omega arith) k h

  pub filled_record : (f : Family) (i : ℕ) → i < n → record_of f i (filled n from row) ≡ record_of f i from
  filled_record f i h =
      let e : record_at f i ≡ head_size + (i * slot_size + base f) = omega arith in
      let g : i * slot_size + base f + size f ≤ n * slot_size = omega (arith, slot_fits f) in
      rw e
      (on_part_within (λ (_ : List ℕ). part head_size (n * slot_size) from) (n * slot_size) records_keep head_size row (omega arith) (i * slot_size + base f) (size f) g
      ∙ part_part (i * slot_size + base f) (size f) head_size (n * slot_size) from g)

-- the records of row c copied to row e: that row filled
pub copied_row : (n c e : ℕ) (room : List ℕ) → row_at n e + row_size n ≤ length room
    → copied n (row_at n c) (row_at n e) room ≡ on_part (filled n (row_in n c room)) (row_at n e) (row_size n) room
unfolding copied
copied_row n c e room h =
    ap (λ (x : List ℕ). on_part (λ (_ : List ℕ). x) (row_at n e + head_size) (n * slot_size) room)
    (sym (part_part head_size (n * slot_size) (row_at n c) (row_size n) room (omega arith)))
    ∙ sym (on_part_nested (λ (_ : List ℕ). part head_size (n * slot_size) (row_in n c room)) head_size (n * slot_size) (row_at n e) (row_size n) room (omega arith) h)

-- ---- a row aged
module _ (by n : ℕ) (row : List ℕ) (l : length row ≡ row_size n) where
  first_aged : length (each_record CED n (aged CED by) row) ≡ row_size n
  first_aged = each_record_length CED (aged CED by) (keeps_aged CED by) n row l

  pub aged_row_head : (k : ℕ) → k < head_size → get_or (aged_row by n row) k 0 ≡ get_or row k 0
  unfolding aged_row
  aged_row_head k h =
      each_record_head Timing (aged Timing by) (keeps_aged Timing by) n (each_record CED n (aged CED by) row) first_aged k h
      ∙ each_record_head CED (aged CED by) (keeps_aged CED by) n row l k h

  pub aged_row_record : (f : Family) (i : ℕ) → i < n → record_of f i (aged_row by n row) ≡ aged f by (record_of f i row)
  unfolding aged_row
  aged_row_record CED i h =
      each_record_other Timing (aged Timing by) (keeps_aged Timing by) n (each_record CED n (aged CED by) row) first_aged i h
      ∙ each_record_here CED (aged CED by) (keeps_aged CED by) n row l i h
  aged_row_record Timing i h =
      each_record_here Timing (aged Timing by) (keeps_aged Timing by) n (each_record CED n (aged CED by) row) first_aged i h
      ∙ ap (aged Timing by) (each_record_other CED (aged CED by) (keeps_aged CED by) n row l i h)

-- ---- the ring advanced
pub next_row_lt : (d c : ℕ) → 1 ≤ d → next_row d c < d
unfolding next_row
next_row_lt d c h = go (ltb (c + 1) d) refl
  where
    go : (b : Bool) → ltb (c + 1) d ≡ b → cond b (c + 1) 0 < d
    go true e = ltb-true (c + 1) d e
    go false e = omega arith

-- the row that the ring goes to
abbrev pub row_ahead : List ℕ → ℕ
row_ahead room = next_row (depth room) (current room)

module _ (room : List ℕ) (F : InRange room) where
  ahead_lt : row_ahead room < depth room
  ahead_lt = next_row_lt (depth room) (current room) F.some_row

  length_ahead : length (row_of (row_ahead room) room) ≡ row_size (slots room)
  length_ahead = length_row_of room F (row_ahead room) ahead_lt

  length_now : length (row_of (current room) room) ≡ row_size (slots room)
  length_now = length_row_of room F (current room) F.in_ring

  keeps_filled : Keeps (filled (slots room) (row_of (current room) room)) (row_size (slots room))
  keeps_filled row l = filled_length (slots room) (row_of (current room) room) row length_now l

  -- the room with the records copied, and then with the row current: its ages have yet to rise
  abbrev copy : List ℕ
  copy = on_part (filled (slots room) (row_of (current room) room)) (row_at (slots room) (row_ahead room)) (row_size (slots room)) room

  abbrev ahead : List ℕ
  ahead = set copy current_at (row_ahead room)

  -- its ages risen by so much
  module _ (by : ℕ) where
    advanced_is : advanced by room ≡ on_part (aged_row by (slots room)) (row_at (slots room) (row_ahead room)) (row_size (slots room)) ahead
    unfolding advanced
    advanced_is =
        ap (λ (x : List ℕ). on_part (aged_row by (slots room)) (row_at (slots room) (row_ahead room)) (row_size (slots room)) (set x current_at (row_ahead room)))
        (copied_row (slots room) (current room) (row_ahead room) room (row_inside room F (row_ahead room) ahead_lt))

    length_before : length ahead ≡ length room
    length_before =
        length-set copy current_at (row_ahead room)
        ∙ on_row_length (slots room) (row_ahead room) (filled (slots room) (row_of (current room) room)) keeps_filled room (row_inside room F (row_ahead room) ahead_lt)

    ahead_inside : row_at (slots room) (row_ahead room) + row_size (slots room) ≤ length ahead
    ahead_inside = rw length_before (row_inside room F (row_ahead room) ahead_lt)

    pub advanced_length : length (advanced by room) ≡ length room
    advanced_length =
        ap length advanced_is
        ∙ on_row_length (slots room) (row_ahead room) (aged_row by (slots room)) (keeps_aged_row by (slots room)) ahead ahead_inside
        ∙ length_before

    pub advanced_header : (i : ℕ) → i < header_size → i ≢ current_at → get_or (advanced by room) i 0 ≡ get_or room i 0
    advanced_header i h e =
        ap (λ (x : List ℕ). get_or x i 0) advanced_is
        ∙ on_row_header (slots room) (row_ahead room) (aged_row by (slots room)) (keeps_aged_row by (slots room)) ahead ahead_inside i h
        ∙ get_or-set_other copy current_at i (row_ahead room) 0 e
        ∙ on_row_header (slots room) (row_ahead room) (filled (slots room) (row_of (current room) room)) keeps_filled room (row_inside room F (row_ahead room) ahead_lt) i h

    pub advanced_current : current (advanced by room) ≡ row_ahead room
    advanced_current =
        ap current advanced_is
        ∙ on_row_header (slots room) (row_ahead room) (aged_row by (slots room)) (keeps_aged_row by (slots room)) ahead ahead_inside current_at (omega arith)
        ∙ get_or-set_same copy current_at (row_ahead room) 0
        (omega (arith, length_before, length-set copy current_at (row_ahead room), F.long))

    pub advanced_facts : InRange (advanced by room)
    advanced_facts =
        facts_same room (advanced by room) F advanced_length (advanced_header depth_at (omega arith) (omega arith)) (advanced_header slots_at (omega arith) (omega arith))
        (rw advanced_current ahead_lt)

    -- the row that became current: a copy of the one before it, aged
    pub advanced_here : row_of (row_ahead room) (advanced by room) ≡ aged_row by (slots room) (filled (slots room) (row_of (current room) room) (row_of (row_ahead room) room))
    advanced_here =
        rw (advanced_header slots_at (omega arith) (omega arith))
        (ap (row_in (slots room) (row_ahead room)) advanced_is
        ∙ on_row_here (slots room) (row_ahead room) (aged_row by (slots room)) (keeps_aged_row by (slots room)) ahead ahead_inside
        ∙ ap (aged_row by (slots room))
        (header_set_row (slots room) (row_ahead room) current_at (row_ahead room) copy (omega arith)
        ∙ on_row_here (slots room) (row_ahead room) (filled (slots room) (row_of (current room) room)) keeps_filled room (row_inside room F (row_ahead room) ahead_lt)))

    pub advanced_there : (r : ℕ) → r ≢ row_ahead room → row_of r (advanced by room) ≡ row_of r room
    advanced_there r e =
        rw (advanced_header slots_at (omega arith) (omega arith))
        (ap (row_in (slots room) r) advanced_is
        ∙ on_row_there (slots room) (row_ahead room) (aged_row by (slots room)) (keeps_aged_row by (slots room)) ahead ahead_inside r e
        ∙ header_set_row (slots room) r current_at (row_ahead room) copy (omega arith)
        ∙ on_row_there (slots room) (row_ahead room) (filled (slots room) (row_of (current room) room)) keeps_filled room (row_inside room F (row_ahead room) ahead_lt) r e)

    pub advanced_past : (k : ℕ) → room_size (depth room) (slots room) ≤ k → drop k (advanced by room) ≡ drop k room
    advanced_past k h =
        let e : row_at (slots room) (row_ahead room) + row_size (slots room) ≤ k = omega (arith, row_fits (depth room) (slots room) (row_ahead room) ahead_lt) in
        ap (drop k) advanced_is
        ∙ on_row_past (slots room) (row_ahead room) (aged_row by (slots room)) (keeps_aged_row by (slots room)) ahead ahead_inside k e
        ∙ drop-set-lt k copy current_at (row_ahead room) (omega arith)
        ∙ on_row_past (slots room) (row_ahead room) (filled (slots room) (row_of (current room) room)) keeps_filled room (row_inside room F (row_ahead room) ahead_lt) k e

pub advanced_held : (by : ℕ) (room : List ℕ) → advanced (min oldest by) room ≡ advanced by room
unfolding advanced aged_row on_part
advanced_held by room = rw (aged_held CED by, aged_held Timing by)

-- ---- a row marked
module _ (w t : ℕ) (row : List ℕ) where
  pub marked_at_past : (b : ℕ) → spare_at ≤ b → drop b (marked_at w t row) ≡ drop b row
  unfolding marked_at
  marked_at_past b h =
      put32_drop (put16 (set row mark_at 1) week_at w) time_at t b (omega arith) ∙ put16_drop (set row mark_at 1) week_at w b (omega arith) ∙ drop-set-lt b row mark_at 1 (omega arith)

  pub marked_at_record : (f : Family) (i : ℕ) → record_of f i (marked_at w t row) ≡ record_of f i row
  marked_at_record f i = ap (take (size f)) (marked_at_past (record_at f i) (omega arith))

  pub marked_at_spare : spare (marked_at w t row) ≡ spare row
  marked_at_spare = get_d_same_after spare_at spare_at (marked_at w t row) row (marked_at_past spare_at (omega arith)) (omega arith)

  module _ (long : head_size ≤ length row) where
    pub marked_at_mark : mark (marked_at w t row) ≡ 1
    unfolding marked_at
    marked_at_mark =
        let dated : List ℕ = put16 (set row mark_at 1) week_at w in
        get_d_same_before time_at mark_at (put32 dated time_at t) dated (put32_take dated time_at t time_at (omega arith)) (omega arith)
        ∙ put16_other (set row mark_at 1) week_at w mark_at (omega arith) (omega arith)
        ∙ get_or-set_same row mark_at 1 0 (omega arith)

    pub marked_at_week : week (marked_at w t row) ≡ w
    unfolding marked_at
    marked_at_week =
        let dated : List ℕ = put16 (set row mark_at 1) week_at w in
        be16_before time_at week_at (put32 dated time_at t) dated (put32_take dated time_at t time_at (omega arith)) (omega arith)
        ∙ be16_put16 (set row mark_at 1) week_at w (simp length-set (omega arith))

    pub marked_at_time : time (marked_at w t row) ≡ t
    unfolding marked_at
    marked_at_time = be32_put32 (put16 (set row mark_at 1) week_at w) time_at t (simp (length_put16, length-set) (omega arith))

-- ---- the current row marked
module _ (w t : ℕ) (room : List ℕ) (F : InRange room) where
  pub current_marked_length : length (current_marked w t room) ≡ length room
  unfolding current_marked
  current_marked_length =
      on_row_length (slots room) (current room) (marked_at w t) (keeps_marked_at (row_size (slots room)) w t) room (row_inside room F (current room) F.in_ring)

  pub current_marked_header : (i : ℕ) → i < header_size → get_or (current_marked w t room) i 0 ≡ get_or room i 0
  unfolding current_marked
  current_marked_header i h =
      on_row_header (slots room) (current room) (marked_at w t) (keeps_marked_at (row_size (slots room)) w t) room (row_inside room F (current room) F.in_ring) i h

  marked_here : row_in (slots room) (current room) (current_marked w t room) ≡ marked_at w t (row_of (current room) room)
  unfolding current_marked
  marked_here =
      on_row_here (slots room) (current room) (marked_at w t) (keeps_marked_at (row_size (slots room)) w t) room (row_inside room F (current room) F.in_ring)

  marked_there : (r : ℕ) → r ≢ current room → row_in (slots room) r (current_marked w t room) ≡ row_of r room
  unfolding current_marked
  marked_there r e =
      on_row_there (slots room) (current room) (marked_at w t) (keeps_marked_at (row_size (slots room)) w t) room (row_inside room F (current room) F.in_ring) r e

  pub current_marked_here : row_of (current room) (current_marked w t room) ≡ marked_at w t (row_of (current room) room)
  current_marked_here = rw (current_marked_header slots_at (omega arith)) marked_here

  pub current_marked_there : (r : ℕ) → r ≢ current room → row_of r (current_marked w t room) ≡ row_of r room
  current_marked_there r e = rw (current_marked_header slots_at (omega arith)) (marked_there r e)

  pub current_marked_past : (k : ℕ) → room_size (depth room) (slots room) ≤ k → drop k (current_marked w t room) ≡ drop k room
  unfolding current_marked
  current_marked_past k h =
      on_row_past (slots room) (current room) (marked_at w t) (keeps_marked_at (row_size (slots room)) w t) room (row_inside room F (current room) F.in_ring) k
      (omega (arith, row_fits (depth room) (slots room) (current room) F.in_ring))

  pub current_marked_facts : InRange (current_marked w t room)
  current_marked_facts =
      facts_same room (current_marked w t room) F current_marked_length (current_marked_header depth_at (omega arith)) (current_marked_header slots_at (omega arith))
      (rw (current_marked_header current_at (omega arith)) F.in_ring)

-- ---- the ring settled
-- the row that is current then, and what it holds before it is marked
abbrev pub row_settled : ℕ → ℕ → List ℕ → ℕ
row_settled w t room = cond (moves w t room) (row_ahead room) (current room)

abbrev pub row_taken : ℕ → ℕ → List ℕ → List ℕ
row_taken w t room =
    cond (moves w t room) (aged_row (rises_by w t room) (slots room) (filled (slots room) (row_of (current room) room) (row_of (row_ahead room) room)))
    (row_of (current room) room)

-- the ring, advanced or not
module _ (by : ℕ) (room : List ℕ) (F : InRange room) where
  reached_facts : (b : Bool) → InRange (cond b (advanced by room) room)
  reached_facts true = advanced_facts room F by
  reached_facts false = F

  reached_length : (b : Bool) → length (cond b (advanced by room) room) ≡ length room
  reached_length true = advanced_length room F by
  reached_length false = refl

  reached_header : (b : Bool) (i : ℕ) → i < header_size → i ≢ current_at → get_or (cond b (advanced by room) room) i 0 ≡ get_or room i 0
  reached_header true i h e = advanced_header room F by i h e
  reached_header false i h e = refl

  reached_current : (b : Bool) → current (cond b (advanced by room) room) ≡ cond b (row_ahead room) (current room)
  reached_current true = advanced_current room F by
  reached_current false = refl

  reached_here : (b : Bool) → row_of (cond b (row_ahead room) (current room)) (cond b (advanced by room) room)
      ≡ cond b (aged_row by (slots room) (filled (slots room) (row_of (current room) room) (row_of (row_ahead room) room))) (row_of (current room) room)
  reached_here true = advanced_here room F by
  reached_here false = refl

  reached_there : (b : Bool) (r : ℕ) → r ≢ cond b (row_ahead room) (current room) → row_of r (cond b (advanced by room) room) ≡ row_of r room
  reached_there true r e = advanced_there room F by r e
  reached_there false r e = refl

  reached_past : (b : Bool) (k : ℕ) → room_size (depth room) (slots room) ≤ k → drop k (cond b (advanced by room) room) ≡ drop k room
  reached_past true k h = advanced_past room F by k h
  reached_past false k h = refl

  -- a record of the row that became current, if it did
  taken_record : (b : Bool) (f : Family) (i : ℕ) → i < slots room
      → record_of f i (cond b (aged_row by (slots room) (filled (slots room) (row_of (current room) room) (row_of (row_ahead room) room))) (row_of (current room) room))
      ≡ cond b (aged f by (record_of f i (row_of (current room) room))) (record_of f i (row_of (current room) room))
  taken_record true f i h =
      aged_row_record by (slots room) (filled (slots room) (row_of (current room) room) (row_of (row_ahead room) room))
      (filled_length (slots room) (row_of (current room) room) (row_of (row_ahead room) room) (length_now room F) (length_ahead room F))
      f i h
      ∙ ap (aged f by) (filled_record (slots room) (row_of (current room) room) (row_of (row_ahead room) room) (length_now room F) (length_ahead room F) f i h)
  taken_record false f i h = refl

  -- the head of that row: the mark, week, time and spare byte that it had itself
  taken_head : (b : Bool) (k : ℕ) → k < head_size
      → get_or (cond b (aged_row by (slots room) (filled (slots room) (row_of (current room) room) (row_of (row_ahead room) room))) (row_of (current room) room)) k 0
      ≡ get_or (row_of (cond b (row_ahead room) (current room)) room) k 0
  taken_head true k h =
      aged_row_head by (slots room) (filled (slots room) (row_of (current room) room) (row_of (row_ahead room) room))
      (filled_length (slots room) (row_of (current room) room) (row_of (row_ahead room) room) (length_now room F) (length_ahead room F))
      k h
      ∙ filled_head (slots room) (row_of (current room) room) (row_of (row_ahead room) room) (length_now room F) (length_ahead room F) k h
  taken_head false k h = refl

  taken_length : (b : Bool)
      → length (cond b (aged_row by (slots room) (filled (slots room) (row_of (current room) room) (row_of (row_ahead room) room))) (row_of (current room) room))
      ≡ row_size (slots room)
  taken_length true =
      keeps_aged_row by (slots room) (filled (slots room) (row_of (current room) room) (row_of (row_ahead room) room))
      (filled_length (slots room) (row_of (current room) room) (row_of (row_ahead room) room) (length_now room F) (length_ahead room F))
  taken_length false = length_now room F

  settled_lt : (b : Bool) → cond b (row_ahead room) (current room) < depth room
  settled_lt true = ahead_lt room F
  settled_lt false = F.in_ring

module _ (w t : ℕ) (room : List ℕ) (F : InRange room) where
  abbrev reached : List ℕ
  reached = cond (moves w t room) (advanced (rises_by w t room) room) room

  pub row_settled_lt : row_settled w t room < depth room
  row_settled_lt = settled_lt (rises_by w t room) room F (moves w t room)

  pub row_taken_length : length (row_taken w t room) ≡ row_size (slots room)
  row_taken_length = taken_length (rises_by w t room) room F (moves w t room)

  pub row_taken_record : (f : Family) (i : ℕ) → i < slots room
      → record_of f i (row_taken w t room) ≡ cond (moves w t room) (aged f (rises_by w t room) (record_of f i (row_of (current room) room))) (record_of f i (row_of (current room) room))
  row_taken_record f i h = taken_record (rises_by w t room) room F (moves w t room) f i h

  pub row_taken_head : (k : ℕ) → k < head_size → get_or (row_taken w t room) k 0 ≡ get_or (row_of (row_settled w t room) room) k 0
  row_taken_head k h = taken_head (rises_by w t room) room F (moves w t room) k h

  pub settled_length : length (settled w t room) ≡ length room
  unfolding settled
  settled_length = current_marked_length w t reached (reached_facts (rises_by w t room) room F (moves w t room)) ∙ reached_length (rises_by w t room) room F (moves w t room)

  pub settled_header : (i : ℕ) → i < header_size → i ≢ current_at → get_or (settled w t room) i 0 ≡ get_or room i 0
  unfolding settled
  settled_header i h e =
      current_marked_header w t reached (reached_facts (rises_by w t room) room F (moves w t room)) i h ∙ reached_header (rises_by w t room) room F (moves w t room) i h e

  pub settled_current : current (settled w t room) ≡ row_settled w t room
  unfolding settled
  settled_current =
      current_marked_header w t reached (reached_facts (rises_by w t room) room F (moves w t room)) current_at (omega arith) ∙ reached_current (rises_by w t room) room F (moves w t room)

  pub settled_facts : InRange (settled w t room)
  unfolding settled
  settled_facts = current_marked_facts w t reached (reached_facts (rises_by w t room) room F (moves w t room))

  pub settled_here : row_of (row_settled w t room) (settled w t room) ≡ marked_at w t (row_taken w t room)
  unfolding settled
  settled_here =
      ap (λ (c : ℕ). row_of c (current_marked w t reached)) (sym (reached_current (rises_by w t room) room F (moves w t room)))
      ∙ current_marked_here w t reached (reached_facts (rises_by w t room) room F (moves w t room))
      ∙ ap (λ (c : ℕ). marked_at w t (row_of c reached)) (reached_current (rises_by w t room) room F (moves w t room))
      ∙ ap (marked_at w t) (reached_here (rises_by w t room) room F (moves w t room))

  pub settled_there : (r : ℕ) → r ≢ row_settled w t room → row_of r (settled w t room) ≡ row_of r room
  unfolding settled
  settled_there r e =
      current_marked_there w t reached (reached_facts (rises_by w t room) room F (moves w t room)) r (λ q. e (q ∙ reached_current (rises_by w t room) room F (moves w t room)))
      ∙ reached_there (rises_by w t room) room F (moves w t room) r e

  pub settled_past : (k : ℕ) → room_size (depth room) (slots room) ≤ k → drop k (settled w t room) ≡ drop k room
  unfolding settled
  settled_past k h =
      let same = reached_header (rises_by w t room) room F (moves w t room) in
      current_marked_past w t reached (reached_facts (rises_by w t room) room F (moves w t room)) k
      (rw (same depth_at (omega arith) (omega arith), same slots_at (omega arith) (omega arith)) h)
      ∙ reached_past (rises_by w t room) room F (moves w t room) k h

-- ---- a word in a row
-- the place chosen depends on the records of the family alone
pub last_greatest_same : (k k' : ℕ → ℕ) (n : ℕ) → ((i : ℕ) → i < n → k i ≡ k' i) → last_greatest k n ≡ last_greatest k' n
unfolding last_greatest
last_greatest_same k k' zero e = refl
last_greatest_same k k' (suc n) e =
    let same : last_greatest k n ≡ last_greatest k' n = last_greatest_same k k' n (λ i h. e i (omega arith)) in
    rw (e n (omega arith), e (last_greatest k n) (inside n), same)
  where
    inside : (m : ℕ) → last_greatest k m < suc m
    inside zero = omega arith
    inside (suc m) = omega (arith, last_greatest_lt k (suc m) (omega arith))

pub chosen_same : (f : Family) (sat n : ℕ) (x y : List ℕ) → ((i : ℕ) → i < n → record_of f i x ≡ record_of f i y) → chosen f sat n x ≡ chosen f sat n y
unfolding chosen
chosen_same f sat n x y e =
    last_greatest_same (λ (i : ℕ). key f sat (record_of f i x)) (λ (i : ℕ). key f sat (record_of f i y)) n (λ i h. ap (key f sat) (e i h))

-- the record of slot i after the word, where slot c was chosen
abbrev pub fed_if : Family → ℕ → ℕ → List ℕ → ℕ → ℕ → List ℕ → List ℕ
fed_if f sat band word c i row = cond (eqb i c) (fed_record f sat band word (record_of f i row)) (record_of f i row)

module _ (f : Family) (n sat band : ℕ) (word row : List ℕ) (one : 1 ≤ n) (l : length row ≡ row_size n) where
  pub fed_family_head : (k : ℕ) → k < head_size → get_or (fed_family f n sat band word row) k 0 ≡ get_or row k 0
  unfolding fed_family
  fed_family_head k h =
      on_record_head f n (chosen f sat n row) (fed_record f sat band word) (keeps_fed_record f sat band word) row l (chosen_lt f sat n row one) k h

  pub fed_family_other : (i : ℕ) → record_of (other f) i (fed_family f n sat band word row) ≡ record_of (other f) i row
  unfolding fed_family
  fed_family_other i =
      on_record_other f n (chosen f sat n row) (fed_record f sat band word) (keeps_fed_record f sat band word) row l (chosen_lt f sat n row one) i

  pub fed_family_record : (i : ℕ) → record_of f i (fed_family f n sat band word row) ≡ fed_if f sat band word (chosen f sat n row) i row
  unfolding fed_family
  fed_family_record i = go (eqb i (chosen f sat n row)) refl
    where
      fed_one : List ℕ
      fed_one = on_part (fed_record f sat band word) (record_at f (chosen f sat n row)) (size f) row

      go : (b : Bool) → eqb i (chosen f sat n row) ≡ b → record_of f i fed_one ≡ cond b (fed_record f sat band word (record_of f i row)) (record_of f i row)
      go true e =
          rw (eqb-true i (chosen f sat n row) e)
          (on_record_here f n (chosen f sat n row) (fed_record f sat band word) (keeps_fed_record f sat band word) row l (chosen_lt f sat n row one))
      go false e =
          on_record_there f n (chosen f sat n row) (fed_record f sat band word) (keeps_fed_record f sat band word) row l (chosen_lt f sat n row one) i
          (eqb-false i (chosen f sat n row) e)

module _ (n sat band : ℕ) (word row : List ℕ) (one : 1 ≤ n) (l : length row ≡ row_size n) where
  abbrev half : List ℕ
  half = fed_family CED n sat band word row

  half_length : length half ≡ row_size n
  half_length = keeps_fed_family CED n sat band word one row l

  pub fed_row_head : (k : ℕ) → k < head_size → get_or (fed_row n sat band word row) k 0 ≡ get_or row k 0
  unfolding fed_row
  fed_row_head k h = fed_family_head Timing n sat band word half one half_length k h ∙ fed_family_head CED n sat band word row one l k h

  -- either family is chosen by what the row was
  pub fed_row_record : (f : Family) (i : ℕ) → i < n → record_of f i (fed_row n sat band word row) ≡ fed_if f sat band word (chosen f sat n row) i row
  unfolding fed_row
  fed_row_record CED i h = fed_family_other Timing n sat band word half one half_length i ∙ fed_family_record CED n sat band word row one l i
  fed_row_record Timing i h =
      fed_family_record Timing n sat band word half one half_length i
      ∙ rw (
        fed_family_other CED n sat band word row one l i,
        chosen_same Timing sat n half row (λ j g. fed_family_other CED n sat band word row one l j),
      )

-- ---- a word in a room
module _ (w t sat band : ℕ) (word room : List ℕ) (F : InRange room) where
  keeps_fed : Keeps (fed_row (slots (settled w t room)) sat band word) (row_size (slots (settled w t room)))
  keeps_fed = keeps_fed_row (slots (settled w t room)) sat band word (settled_facts w t room F).some_slot

  fed_inside : row_at (slots (settled w t room)) (current (settled w t room)) + row_size (slots (settled w t room)) ≤ length (settled w t room)
  fed_inside = row_inside (settled w t room) (settled_facts w t room F) (current (settled w t room)) (settled_facts w t room F).in_ring

  pub fed_length : length (fed w t sat band word room) ≡ length room
  unfolding fed fed_current
  fed_length =
      on_row_length (slots (settled w t room)) (current (settled w t room)) (fed_row (slots (settled w t room)) sat band word) keeps_fed (settled w t room) fed_inside
      ∙ settled_length w t room F

  fed_header_settled : (i : ℕ) → i < header_size → get_or (fed w t sat band word room) i 0 ≡ get_or (settled w t room) i 0
  unfolding fed fed_current
  fed_header_settled i h =
      on_row_header (slots (settled w t room)) (current (settled w t room)) (fed_row (slots (settled w t room)) sat band word) keeps_fed (settled w t room) fed_inside i h

  pub fed_header : (i : ℕ) → i < header_size → i ≢ current_at → get_or (fed w t sat band word room) i 0 ≡ get_or room i 0
  fed_header i h e = fed_header_settled i h ∙ settled_header w t room F i h e

  pub fed_current_lem : current (fed w t sat band word room) ≡ row_settled w t room
  fed_current_lem = fed_header_settled current_at (omega arith) ∙ settled_current w t room F

  pub fed_facts : InRange (fed w t sat band word room)
  fed_facts =
      facts_same room (fed w t sat band word room) F fed_length (fed_header depth_at (omega arith) (omega arith)) (fed_header slots_at (omega arith) (omega arith))
      (rw fed_current_lem (row_settled_lt w t room F))

  fed_row_here : row_in (slots (settled w t room)) (current (settled w t room)) (fed w t sat band word room)
      ≡ fed_row (slots (settled w t room)) sat band word (row_of (current (settled w t room)) (settled w t room))
  unfolding fed fed_current
  fed_row_here =
      on_row_here (slots (settled w t room)) (current (settled w t room)) (fed_row (slots (settled w t room)) sat band word) keeps_fed (settled w t room) fed_inside

  fed_row_there : (r : ℕ) → r ≢ current (settled w t room) → row_in (slots (settled w t room)) r (fed w t sat band word room) ≡ row_of r (settled w t room)
  unfolding fed fed_current
  fed_row_there r e =
      on_row_there (slots (settled w t room)) (current (settled w t room)) (fed_row (slots (settled w t room)) sat band word) keeps_fed (settled w t room) fed_inside r e

  pub fed_here : row_of (row_settled w t room) (fed w t sat band word room) ≡ fed_row (slots room) sat band word (marked_at w t (row_taken w t room))
  fed_here =
      rw (fed_header_settled slots_at (omega arith))
      (ap (λ (c : ℕ). row_in (slots (settled w t room)) c (fed w t sat band word room)) (sym (settled_current w t room F))
      ∙ fed_row_here
      ∙ ap (λ (n : ℕ). fed_row n sat band word (row_of (current (settled w t room)) (settled w t room))) (settled_header w t room F slots_at (omega arith) (omega arith))
      ∙ ap (λ (c : ℕ). fed_row (slots room) sat band word (row_of c (settled w t room))) (settled_current w t room F)
      ∙ ap (fed_row (slots room) sat band word) (settled_here w t room F))

  -- its records, by those that the row took
  pub fed_record_lem : (f : Family) (i : ℕ) → i < slots room
      → record_of f i (row_of (row_settled w t room) (fed w t sat band word room))
      ≡ fed_if f sat band word (chosen f sat (slots room) (row_taken w t room)) i (row_taken w t room)
  fed_record_lem f i h =
      ap (record_of f i) fed_here
      ∙ fed_row_record (slots room) sat band word (marked_at w t (row_taken w t room)) F.some_slot
      (keeps_marked_at (row_size (slots room)) w t (row_taken w t room) (row_taken_length w t room F)) f i h
      ∙ rw (
        chosen_same f sat (slots room) (marked_at w t (row_taken w t room)) (row_taken w t room) (λ j g. marked_at_record w t (row_taken w t room) f j),
        marked_at_record w t (row_taken w t room) f i,
      )

  pub fed_there : (r : ℕ) → r ≢ row_settled w t room → row_of r (fed w t sat band word room) ≡ row_of r room
  fed_there r e =
      rw (fed_header_settled slots_at (omega arith))
      (fed_row_there r (λ q. e (q ∙ settled_current w t room F)) ∙ settled_there w t room F r e)

  past_settled : (k : ℕ) → row_at (slots (settled w t room)) (current (settled w t room)) + row_size (slots (settled w t room)) ≤ k
      → drop k (fed w t sat band word room) ≡ drop k (settled w t room)
  unfolding fed fed_current
  past_settled k h =
      on_row_past (slots (settled w t room)) (current (settled w t room)) (fed_row (slots (settled w t room)) sat band word) keeps_fed (settled w t room) fed_inside k h

  pub fed_past : (k : ℕ) → room_size (depth room) (slots room) ≤ k → drop k (fed w t sat band word room) ≡ drop k room
  fed_past k h =
      past_settled k
      (rw (settled_current w t room F, settled_header w t room F slots_at (omega arith) (omega arith))
      (omega (arith, row_fits (depth room) (slots room) (row_settled w t room) (row_settled_lt w t room F))))
      ∙ settled_past w t room F k h
