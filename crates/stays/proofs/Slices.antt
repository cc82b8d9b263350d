-- A slice of the room lent: on the first k bytes, k no less than the formula's length, every call answers as on the whole and leaves the same
-- first k bytes; on fewer it is refused and leaves them. Assumes nothing.
use mathlib.Core.Bool.{Bool, true, false, cond, not, ◌&&◌}
use mathlib.Core.List.{List, [], ◌++◌}
use mathlib.Core.Path.{◌≡◌, refl, sym, ap, ◌∙◌}
use Prim.Native.Nat.{ℕ, zero, suc, ◌+◌, ◌≤◌, ◌<◌, ◌*◌}
use native.Mathlib.Omega.{arith}
use lib.Dec.{eqb, leb, ltb, eqb-suc-zero}
use borrow.Author.Tests.{le-leb, lt-leb, ltb-true, leb-true, leb-false}
use lib.ListN.{length, get_or, take, set, length-set, drop, take-append-drop}
use lib.Seq.{length-take-le, take-set-lt}
use Rattle.paper.specs.Room.{room_size, row_size, depth, slots, current, depth_at, slots_at, current_at, rule_at, zeros_at, header_size}
use Rattle.paper.specs.Room.{row_at, row_of, marked, is_at, how_many_in, every_record, each_record, head_size, slot_size}
use Rattle.paper.specs.Store.{InRange, header_in_range, header_rest, row_allowed, is_store, sizes_allowed, rule_known}
use Rattle.paper.proofs.Parts.{all_before, sum_before, Keeps, on_part_length, length_part}
use Rattle.paper.proofs.Shorter.{shorter_same, shorter_get_d, shorter_be32, shorter_part, shorter_on_parts, shorter_on_part}
use Rattle.stays.proofs.Untouched.{call_untouched}
use Rattle.stays.proofs.Rooms.{tag_allowed, candidate_allowed}
use Rattle.stays.specs.Lent.{reach, goes_by, refused_call, on_whole}
use Rattle.paper.proofs.Views.{row_fits, back_below, every_record_facts, every_record_length, keeps_each_record, every_record_header}
use Rattle.paper.specs.Tag.{first_row, candidate_row, candidate_slot, candidate_record, has_candidate, cop_allowed, thirty_before, fits_cop}
use Rattle.paper.specs.Tag.{family_of, length_allowed, kind_known, status_known, taken_by, tagged, credited}
use Rattle.paper.specs.Record.{Family, size, Timing, satellite, with_count, data_of, CED}
use Rattle.paper.specs.Answer.{until_candidate, tag_number, from_candidate, ask_number, part_for, room_for, fresh_number, tag_answer, ask_answer}
use Rattle.paper.specs.Answer.{feed_number, reset_number, candidate_number, candidate_data, fresh_room, ask_data, feed_room, tag_room, reset_room}
use Rattle.paper.proofs.First.{first_same}
use Rattle.paper.specs.Number.{values, unless, number, answer, done}
use Rattle.paper.proofs.StoreFacts.{both_true, store_facts}
use Rattle.paper.specs.Satellite.{is_satellite}
use Rattle.paper.specs.Word.{word_bytes}
use Rattle.paper.specs.Time.{is_time, is_start, start_of}
use Rattle.paper.specs.Ask.{steps_back, some_enough, age_unknown, enough_slot, row_back, row_answering, answering_row, answering_record, time_before}
use Rattle.paper.proofs.Order.{unless_zero}
use Rattle.paper.specs.Reset.{reset}
use Rattle.paper.specs.Parts.{on_part, part, on_parts}
use Rattle.paper.specs.Feed.{current_marked, fed_current, moves, comes_earlier, rises_by, next_row, copied, advanced, marked_at, fed_row, aged_row, settled, fed}
use Rattle.paper.proofs.WordViews.{next_row_lt, advanced_facts, current_marked_facts, advanced_length, current_marked_length, advanced_header, current_marked_header}
use Rattle.paper.proofs.Lengths.{keeps_marked_at, keeps_fed_row, keeps_aged_row, keeps_credited, keeps_with_count, keeps_blank_row}
use Rattle.paper.specs.Fresh.{fresh, header, blank_row}
use Rattle.paper.specs.Call.{Call, fresh_call, feed_call, tag_call, candidate_call, ask_call, reset_call, answer_to, part_to, room_after}

module _ (k : ℕ) (room : List ℕ) (g : k ≤ length room) (h : room_size (depth room) (slots room) ≤ k) where
  long : length (take k room) ≡ k
  long = length-take-le k room g

  same_header : (i : ℕ) → i < header_size → get_or (take k room) i 0 ≡ get_or room i 0
  same_header i j = shorter_get_d k room i (omega arith)

  same_row : (r : ℕ) → r < depth room → row_of r (take k room) ≡ row_of r room
  same_row r j =
      rw (same_header slots_at (omega arith)) (shorter_part k room (row_at (slots room) r) (row_size (slots room)) (omega (arith, row_fits (depth room) (slots room) r j)))

  same_store : is_store (take k room) ≡ is_store room
  unfolding is_store header_in_range header_rest
  same_store =
      rw (
        same_header depth_at (omega arith),
        same_header slots_at (omega arith),
        same_header current_at (omega arith),
        same_header rule_at (omega arith),
        shorter_be32 k room zeros_at (omega arith),
        long,
        le-leb header_size k (omega arith),
        le-leb header_size (length room) (omega arith),
        le-leb (room_size (depth room) (slots room)) k h,
        le-leb (room_size (depth room) (slots room)) (length room) (omega arith),
        all_before (row_allowed (slots room)) (row_size (slots room)) (depth room) header_size k (take k room) room (shorter_same k room) h,
      )

  -- ---- what is read
  same_first : (w t : ℕ) → first_row w t (take k room) ≡ first_row w t room
  unfolding first_row
  same_first w t =
      rw (same_header depth_at (omega arith))
      (first_same (λ (r : ℕ). marked (row_of r (take k room)) && is_at w t (row_of r (take k room)))
      (λ (r : ℕ). marked (row_of r room) && is_at w t (row_of r room)) (depth room) (λ r j. rw (same_row r j)))

  same_candidate_row : (w t : ℕ) → candidate_row w t (take k room) ≡ candidate_row w t room
  unfolding candidate_row
  same_candidate_row w t = same_first (get_or (values (thirty_before w t)) 0 0) (get_or (values (thirty_before w t)) 1 0)

  module _ (f : Family) (sat w t : ℕ) where
    -- in a row of the store the candidate is the same
    same_slot : candidate_row w t room < depth room → candidate_slot f sat w t (take k room) ≡ candidate_slot f sat w t room
    unfolding candidate_slot
    same_slot j = rw (same_candidate_row w t, same_row (candidate_row w t room) j, same_header slots_at (omega arith))

    same_record : candidate_row w t room < depth room → candidate_record f sat w t (take k room) ≡ candidate_record f sat w t room
    unfolding candidate_record
    same_record j = rw (same_slot j, same_candidate_row w t, same_row (candidate_row w t room) j)

    same_has : (cop : ℕ) → has_candidate f sat cop w t (take k room) ≡ has_candidate f sat cop w t room
    unfolding has_candidate
    same_has cop = rw (same_candidate_row w t, same_header depth_at (omega arith)) (go (ltb (candidate_row w t room) (depth room)) refl)
      where
        go : (b : Bool) → ltb (candidate_row w t room) (depth room) ≡ b
            → (b && ltb (candidate_slot f sat w t (take k room)) (slots (take k room)) && fits_cop f cop (candidate_record f sat w t (take k room)))
            ≡ (b && ltb (candidate_slot f sat w t room) (slots room) && fits_cop f cop (candidate_record f sat w t room))
        go false e = refl
        go true e =
            let j = ltb-true (candidate_row w t room) (depth room) e in
            rw (same_slot j, same_record j, same_header slots_at (omega arith))

    -- where there is a candidate, its row is one of the store
    has_row : (cop : ℕ) → has_candidate f sat cop w t room ≡ true → candidate_row w t room < depth room
    unfolding has_candidate
    has_row cop e =
        let a = both_true (ltb (candidate_row w t room) (depth room) && ltb (candidate_slot f sat w t room) (slots room)) _ e in
        ltb-true (candidate_row w t room) (depth room)
        (both_true (ltb (candidate_row w t room) (depth room)) (ltb (candidate_slot f sat w t room) (slots room)) a.0).0

  -- "3, 4, 5, 6, 8, 9, 7, 16, 10": what comes later may differ where there is no candidate
  same_until : (allowed known : Bool) (sat kind cop w t : ℕ) (later later' : ℕ)
      → (has_candidate (family_of kind) sat cop w t room ≡ true → later ≡ later')
      → until_candidate allowed known sat kind cop w t (take k room) later ≡ until_candidate allowed known sat kind cop w t room later'
  unfolding until_candidate
  same_until allowed known sat kind cop w t later later' e =
      rw (same_store, same_has (family_of kind) sat w t cop)
      (ap (λ (x : ℕ). unless (is_store room) 3
      (unless (is_satellite sat) 4
      (unless (is_time t) 5
      (unless (is_start t) 6
      (unless allowed 8 (unless known 9 (unless (eqb (number (thirty_before w t)) 0) 7 (unless (not (eqb cop 0)) 16 x))))))))
      (go (has_candidate (family_of kind) sat cop w t room) e))
    where
      go : (b : Bool) → (b ≡ true → later ≡ later') → unless b 10 later ≡ unless b 10 later'
      go true e = e refl
      go false e = refl

  same_tag_number : (sat kind cop l status w t : ℕ) (given : List ℕ) (verdict : Bool)
      → tag_number sat kind cop l status w t given verdict (take k room) ≡ tag_number sat kind cop l status w t given verdict room
  unfolding tag_number
  same_tag_number sat kind cop l status w t given verdict =
      same_until (cop_allowed cop && length_allowed l) (kind_known kind && status_known status) sat kind cop w t _ _
      (λ e. ap (λ (rec : List ℕ). from_candidate (family_of kind) given rec verdict status)
      (same_record (family_of kind) sat w t (has_row (family_of kind) sat w t cop e)))

  same_taken : (f : Family) (candidate : List ℕ) → taken_by f candidate (take k room) ≡ taken_by f candidate room
  unfolding taken_by how_many_in
  same_taken f candidate =
      rw (same_header depth_at (omega arith), same_header slots_at (omega arith))
      (sum_before _ (row_size (slots room)) (depth room) header_size k (take k room) room (shorter_same k room) h)

  module _ (F : InRange room) (f : Family) (sat : ℕ) where
    same_steps : steps_back f sat (take k room) ≡ steps_back f sat room
    unfolding steps_back
    same_steps =
        rw (same_header depth_at (omega arith), same_header current_at (omega arith))
        (first_same
        (λ (j : ℕ). ltb (enough_slot f sat (slots (take k room)) (row_of (row_back (depth room) (current room) j) (take k room))) (slots (take k room)))
        (λ (j : ℕ). ltb (enough_slot f sat (slots room) (row_of (row_back (depth room) (current room) j) room)) (slots room)) (depth room)
        (λ j i. rw (same_row (row_back (depth room) (current room) j) (back_below (depth room) (current room) j F.in_ring i), same_header slots_at (omega arith))))

    same_some : some_enough f sat (take k room) ≡ some_enough f sat room
    unfolding some_enough
    same_some = rw (same_steps, same_header depth_at (omega arith))

    module _ (some : some_enough f sat room ≡ true) where
      below : row_back (depth room) (current room) (steps_back f sat room) < depth room
      unfolding some_enough
      below = back_below (depth room) (current room) (steps_back f sat room) F.in_ring (ltb-true (steps_back f sat room) (depth room) some)

      same_answering_row : answering_row f sat (take k room) ≡ answering_row f sat room
      unfolding answering_row
      same_answering_row =
          rw (same_steps, same_header depth_at (omega arith), same_header current_at (omega arith))
          (same_row (row_back (depth room) (current room) (steps_back f sat room)) below)

      same_answering_record : answering_record f sat (take k room) ≡ answering_record f sat room
      unfolding answering_record answering_row
      same_answering_record =
          let row : row_of (row_answering f sat (take k room)) (take k room) ≡ row_of (row_answering f sat room) room = same_answering_row in
          rw (row, same_header slots_at (omega arith))

  -- "Asking 3, 4, 12, 24, 7"
  module _ (f : Family) (sat : ℕ) where
    rest : List ℕ → ℕ
    rest x =
        unless (is_satellite sat) 4
        (unless (some_enough f sat x) 12
        (unless (not (age_unknown f sat x)) 24 (unless (eqb (number (time_before f (answering_row f sat x) (answering_record f sat x))) 0) 7 0)))

    same_ask_number : ask_number f sat (take k room) ≡ ask_number f sat room
    unfolding ask_number age_unknown rest
    same_ask_number = rw same_store (go (is_store room) refl)
      where
        late : List ℕ → ℕ
        late x = unless (not (age_unknown f sat x)) 24 (unless (eqb (number (time_before f (answering_row f sat x) (answering_record f sat x))) 0) 7 0)

        some : (F : InRange room) (b : Bool) → some_enough f sat room ≡ b → unless b 12 (late (take k room)) ≡ unless b 12 (late room)
        some F false e = refl
        some F true e = rw (same_header rule_at (omega arith), same_answering_row F f sat e, same_answering_record F f sat e)

        go : (b : Bool) → is_store room ≡ b → unless b 3 (rest (take k room)) ≡ unless b 3 (rest room)
        go false e = refl
        go true e =
            let F = store_facts room e in
            rw (same_some F f sat) (ap (unless (is_satellite sat) 4) (some F (some_enough f sat room) refl))

    -- where asking is answered 0, the record that answers is the same
    asked_zero : ask_number f sat room ≡ 0
        → (answering_row f sat (take k room) ≡ answering_row f sat room) × (answering_record f sat (take k room) ≡ answering_record f sat room)
    unfolding ask_number
    asked_zero e =
        let a = unless_zero (is_store room) 3 _ (omega arith) e in
        let b = unless_zero (is_satellite sat) 4 _ (omega arith) a.1 in
        let c = unless_zero (some_enough f sat room) 12 _ (omega arith) b.1 in
        let F = store_facts room a.0 in
        (same_answering_row F f sat c.0, same_answering_record F f sat c.0)

-- ---- what is written, in a store that the k bytes hold
module _ (k : ℕ) where
  -- the first k bytes of such a store are as good
  pub record Holds (room : List ℕ) : Type 0 where
    pub range : InRange room
    pub inside : k ≤ length room
    pub holds : room_size (depth room) (slots room) ≤ k

  abbrev Alike : (List ℕ → List ℕ) → List ℕ → Type 0
  Alike f room = f (take k room) ≡ take k (f room)

  module _ (f : Family) (g : List ℕ → List ℕ) (keep : Keeps g (size f)) where
    alike_every : (room : List ℕ) → Holds room → Alike (every_record f g) room
    unfolding every_record
    alike_every room H =
        rw (same_header k room H.inside H.holds depth_at (omega arith), same_header k room H.inside H.holds slots_at (omega arith))
        (shorter_on_parts (each_record f (slots room) g) (row_size (slots room)) (keeps_each_record f g keep (slots room)) k (depth room) header_size room H.holds H.inside)

    every_holds : (room : List ℕ) → Holds room → Holds (every_record f g room)
    every_holds room H =
        record {
          range = every_record_facts f g keep room H.range;
          inside = rw (every_record_length f g keep room H.range.fits) H.inside;
          holds =
              rw (
                every_record_header f g keep room H.range.fits depth_at (omega arith),
                every_record_header f g keep room H.range.fits slots_at (omega arith),
              )
              H.holds;
        }

  alike_tagged : (f : Family) (candidate : List ℕ) (l : ℕ) (room : List ℕ) → Holds room → Alike (tagged f candidate l) room
  unfolding tagged
  alike_tagged f candidate l room H =
      alike_every f (credited f (satellite candidate) (data_of f candidate) l) (keeps_credited (size f) f (satellite candidate) (data_of f candidate) l) room H

  alike_reset : (room : List ℕ) → Holds room → Alike reset room
  unfolding reset
  alike_reset room H =
      ap (every_record Timing (with_count 0)) (alike_every CED (with_count 0) (keeps_with_count (size CED) 0) room H)
      ∙ alike_every Timing (with_count 0) (keeps_with_count (size Timing) 0) (every_record CED (with_count 0) room)
      (every_holds CED (with_count 0) (keeps_with_count (size CED) 0) room H)

  -- a row of the store changed
  module _ (room : List ℕ) (H : Holds room) where
    as_header : (i : ℕ) → i < header_size → get_or (take k room) i 0 ≡ get_or room i 0
    as_header = same_header k room H.inside H.holds

    alike_row : (g : List ℕ → List ℕ) → Keeps g (row_size (slots room)) → (r : ℕ) → r < depth room
        → Alike (on_part g (row_at (slots room) r) (row_size (slots room))) room
    alike_row g keep r b =
        shorter_on_part g (row_size (slots room)) keep k (row_at (slots room) r) room
        (omega (arith, row_fits (depth room) (slots room) r b, H.holds)) H.inside

    alike_marked : (w t : ℕ) → Alike (current_marked w t) room
    unfolding current_marked
    alike_marked w t =
        rw (as_header slots_at (omega arith), as_header current_at (omega arith))
        (alike_row (marked_at w t) (keeps_marked_at (row_size (slots room)) w t) (current room) H.range.in_ring)

    alike_current : (sat band : ℕ) (word : List ℕ) → Alike (fed_current sat band word) room
    unfolding fed_current
    alike_current sat band word =
        rw (as_header slots_at (omega arith), as_header current_at (omega arith))
        (alike_row (fed_row (slots room) sat band word) (keeps_fed_row (slots room) sat band word H.range.some_slot) (current room) H.range.in_ring)

    same_moves : (w t : ℕ) → moves w t (take k room) ≡ moves w t room
    unfolding moves
    same_moves w t = rw (as_header current_at (omega arith), same_row k room H.inside H.holds (current room) H.range.in_ring)

    same_rise : (w t : ℕ) → rises_by w t (take k room) ≡ rises_by w t room
    unfolding rises_by
    same_rise w t = rw (as_header rule_at (omega arith), as_header current_at (omega arith), same_row k room H.inside H.holds (current room) H.range.in_ring)

    same_earlier : (w t : ℕ) → comes_earlier w t (take k room) ≡ comes_earlier w t room
    unfolding comes_earlier
    same_earlier w t = rw (as_header rule_at (omega arith), as_header current_at (omega arith), same_row k room H.inside H.holds (current room) H.range.in_ring)

    next : ℕ
    next = next_row (depth room) (current room)

    next_fits : row_at (slots room) next + row_size (slots room) ≤ k
    unfolding next
    next_fits = omega (arith, row_fits (depth room) (slots room) next (next_row_lt (depth room) (current room) H.range.some_row), H.holds)

    now_fits : row_at (slots room) (current room) + row_size (slots room) ≤ k
    now_fits = omega (arith, row_fits (depth room) (slots room) (current room) H.range.in_ring, H.holds)

    -- the copy, and the row that becomes current
    records : List ℕ
    records = part (row_at (slots room) (current room) + head_size) (slots room * slot_size) room

    keeps_records : Keeps (λ (_ : List ℕ). records) (slots room * slot_size)
    unfolding records
    keeps_records r l = length_part (row_at (slots room) (current room) + head_size) (slots room * slot_size) room (omega (arith, now_fits, H.inside))

    copy : List ℕ → List ℕ
    copy x = copied (slots room) (row_at (slots room) (current room)) (row_at (slots room) next) x

    alike_copied : Alike copy room
    unfolding copied copy records
    alike_copied =
        rw (shorter_part k room (row_at (slots room) (current room) + head_size) (slots room * slot_size) (omega (arith, now_fits)))
        (shorter_on_part (λ (_ : List ℕ). records) (slots room * slot_size) keeps_records k (row_at (slots room) next + head_size) room
        (omega (arith, next_fits)) H.inside)

    length_copied : length (copy room) ≡ length room
    unfolding copied copy records
    length_copied =
        on_part_length (λ (_ : List ℕ). records) (slots room * slot_size) keeps_records (row_at (slots room) next + head_size) room
        (omega (arith, next_fits, H.inside))

    alike_advanced : (by : ℕ) → Alike (advanced by) room
    unfolding advanced copy next
    alike_advanced by =
        rw (as_header slots_at (omega arith), as_header current_at (omega arith), as_header depth_at (omega arith), alike_copied)
        (ap (on_part (aged_row by (slots room)) (row_at (slots room) next) (row_size (slots room)))
        (sym (take-set-lt k (copy room) current_at next (omega (arith, H.holds))))
        ∙ shorter_on_part (aged_row by (slots room)) (row_size (slots room)) (keeps_aged_row by (slots room)) k (row_at (slots room) next) (set (copy room) current_at next)
        next_fits (rw (length-set (copy room) current_at next, length_copied) H.inside))

  -- the ring, and then the word
  advanced_holds : (by : ℕ) (room : List ℕ) → Holds room → Holds (advanced by room)
  advanced_holds by room H =
      record {
        range = advanced_facts room H.range by;
        inside = rw (advanced_length room H.range by) H.inside;
        holds = rw (advanced_header room H.range by depth_at (omega arith) (omega arith), advanced_header room H.range by slots_at (omega arith) (omega arith)) H.holds;
      }

  marked_holds : (w t : ℕ) (room : List ℕ) → Holds room → Holds (current_marked w t room)
  marked_holds w t room H =
      record {
        range = current_marked_facts w t room H.range;
        inside = rw (current_marked_length w t room H.range) H.inside;
        holds = rw (current_marked_header w t room H.range depth_at (omega arith), current_marked_header w t room H.range slots_at (omega arith)) H.holds;
      }

  module _ (w t : ℕ) (room : List ℕ) (H : Holds room) where
    reached : Bool → List ℕ → List ℕ
    reached b x = cond b (advanced (rises_by w t room) x) x

    alike_reached : (b : Bool) → Alike (reached b) room
    unfolding reached
    alike_reached true = alike_advanced room H (rises_by w t room)
    alike_reached false = refl

    reached_holds : (b : Bool) → Holds (reached b room)
    unfolding reached
    reached_holds true = advanced_holds (rises_by w t room) room H
    reached_holds false = H

    alike_settled : Alike (settled w t) room
    unfolding settled reached
    alike_settled =
        rw (same_moves room H w t, same_rise room H w t) (ap (current_marked w t) (alike_reached (moves w t room)) ∙ alike_marked (reached (moves w t room) room) (reached_holds (moves w t room)) w t)

    settled_holds : Holds (settled w t room)
    unfolding settled reached
    settled_holds = marked_holds w t (reached (moves w t room) room) (reached_holds (moves w t room))

    alike_fed : (sat band : ℕ) (word : List ℕ) → Alike (fed w t sat band word) room
    unfolding fed
    alike_fed sat band word = ap (fed_current sat band word) alike_settled ∙ alike_current (settled w t room) settled_holds sat band word

  -- a fresh store, on any room
  alike_fresh : (d n rule : ℕ) (room : List ℕ) → room_size d n ≤ k → k ≤ length room → Alike (fresh d n rule) room
  unfolding fresh
  alike_fresh d n rule room h g =
      let keep : Keeps (λ (_ : List ℕ). header d n rule) header_size = λ r l. refl in
      let first = shorter_on_part (λ (_ : List ℕ). header d n rule) header_size keep k 0 room (omega arith) g in
      ap (on_parts (blank_row n) (row_size n) d header_size) first
      ∙ shorter_on_parts (blank_row n) (row_size n) (keeps_blank_row n) k d header_size (on_part (λ (_ : List ℕ). header d n rule) 0 header_size room) h
      (rw (on_part_length (λ (_ : List ℕ). header d n rule) header_size keep 0 room (omega arith)) g)

-- ---- the answer, the slice and the room of a call, by its number
answer_same : (n : ℕ) (v v' : List ℕ) → (n ≡ 0 → v ≡ v') → answer n v ≡ answer n v'
answer_same zero v v' e = ap done (e refl)
answer_same (suc n) v v' e = refl

part_same : (n : ℕ) (p p' : List ℕ) → (n ≡ 0 → p ≡ p') → part_for n p ≡ part_for n p'
part_same zero p p' e = e refl
part_same (suc n) p p' e = rw (eqb-suc-zero n)

room_same : (k n : ℕ) (after after' room : List ℕ) → (n ≡ 0 → after ≡ take k after') → room_for n after (take k room) ≡ take k (room_for n after' room)
room_same k zero after after' room e = e refl
room_same k (suc n) after after' room e = rw (eqb-suc-zero n)

-- a tag that is answered 0 has its candidate in a row of the store
tag_row : (sat kind cop l status w t : ℕ) (given : List ℕ) (verdict : Bool) (room : List ℕ)
    → tag_number sat kind cop l status w t given verdict room ≡ 0 → candidate_row w t room < depth room
unfolding has_candidate
tag_row sat kind cop l status w t given verdict room e =
    let a = both_true (ltb (candidate_row w t room) (depth room) && ltb (candidate_slot (family_of kind) sat w t room) (slots room)) _
    (tag_allowed sat kind cop l status w t given verdict room e).1 in
    ltb-true (candidate_row w t room) (depth room)
    (both_true (ltb (candidate_row w t room) (depth room)) (ltb (candidate_slot (family_of kind) sat w t room) (slots room)) a.0).0

-- a number 0 says that the room is a store
feed_store : (word : List ℕ) (sat w t band : ℕ) (room : List ℕ) → feed_number word sat w t band room ≡ 0 → is_store room ≡ true
unfolding feed_number
feed_store word sat w t band room e = (unless_zero (is_store room) 3 _ (omega arith) e).0

tag_store : (sat kind cop l status w t : ℕ) (given : List ℕ) (verdict : Bool) (room : List ℕ)
    → tag_number sat kind cop l status w t given verdict room ≡ 0 → is_store room ≡ true
unfolding tag_number until_candidate
tag_store sat kind cop l status w t given verdict room e = (unless_zero (is_store room) 3 _ (omega arith) e).0

reset_store : (room : List ℕ) → reset_number room ≡ 0 → is_store room ≡ true
unfolding reset_number
reset_store room e = (unless_zero (is_store room) 3 _ (omega arith) e).0

-- a call writes no further than it goes by, and the refused call changes nothing
reach_goes_by : (c : Call) (room : List ℕ) (k : ℕ) → goes_by c room ≤ k → reach c room ≤ k
reach_goes_by (fresh_call d n rule) room k h = h
reach_goes_by (feed_call word sat w t band) room k h = h
reach_goes_by (tag_call sat kind cop l status w t given verdict) room k h = h
reach_goes_by (candidate_call sat kind cop w t) room k h = omega arith
reach_goes_by (ask_call f sat) room k h = omega arith
reach_goes_by reset_call room k h = h

refused_call_lem : (room : List ℕ) → room_after refused_call room ≡ room
unfolding room_after fresh_room fresh_number
refused_call_lem room = refl

module _ (k : ℕ) (room : List ℕ) (g : k ≤ length room) where
  holding : is_store room ≡ true → room_size (depth room) (slots room) ≤ k → Holds k room
  holding s h = record { range = store_facts room s; inside = g; holds = h }

  feed_number_same : (word : List ℕ) (sat w t band : ℕ) → room_size (depth room) (slots room) ≤ k
      → feed_number word sat w t band (take k room) ≡ feed_number word sat w t band room
  unfolding feed_number
  feed_number_same word sat w t band h = rw (same_store k room g h) (go (is_store room) refl)
    where
      rest : List ℕ → ℕ
      rest x =
          unless (is_satellite sat) 4
          (unless (is_time t) 5
          (unless (eqb (length word) word_bytes) 8 (unless (leb band 1) 9 (unless (not (comes_earlier w (start_of t) x)) 15 0))))

      go : (b : Bool) → is_store room ≡ b → unless b 3 (rest (take k room)) ≡ unless b 3 (rest room)
      go false e = refl
      go true e = rw (same_earlier k room (holding e h) w (start_of t))

  reset_number_same : room_size (depth room) (slots room) ≤ k → reset_number (take k room) ≡ reset_number room
  unfolding reset_number
  reset_number_same h = rw (same_store k room g h)

  fresh_number_same : (d n rule : ℕ) → room_size d n ≤ k → fresh_number d n rule (take k room) ≡ fresh_number d n rule room
  unfolding fresh_number
  fresh_number_same d n rule h = rw (length-take-le k room g, le-leb (room_size d n) k h, le-leb (room_size d n) (length room) (omega arith))

  -- on the first k bytes a call answers the same
  pub same_answer : (c : Call) → goes_by c room ≤ k → answer_to c (take k room) ≡ answer_to c room
  unfolding answer_to tag_answer ask_answer reset_number candidate_number
  same_answer (fresh_call d n rule) h = rw (fresh_number_same d n rule h)
  same_answer (feed_call word sat w t band) h = rw (feed_number_same word sat w t band h)
  same_answer (tag_call sat kind cop l status w t given verdict) h =
      rw (same_tag_number k room g h sat kind cop l status w t given verdict)
      (answer_same (tag_number sat kind cop l status w t given verdict room) _ _
      (λ e.
      let r = same_record k room g h (family_of kind) sat w t (tag_row sat kind cop l status w t given verdict room e) in
      rw (r, same_taken k room g h (family_of kind) (candidate_record (family_of kind) sat w t room))))
  same_answer (candidate_call sat kind cop w t) h =
      ap (λ (n : ℕ). answer n []) (same_until k room g h (cop_allowed cop) (kind_known kind) sat kind cop w t 0 0 (λ e. refl))
  same_answer (ask_call f sat) h =
      rw (same_ask_number k room g h f sat)
      (answer_same (ask_number f sat room) _ _
      (λ e. rw ((asked_zero k room g h f sat e).0, (asked_zero k room g h f sat e).1)))
  same_answer reset_call h = rw (same_store k room g h)

  -- hands out the same
  pub same_part : (c : Call) → goes_by c room ≤ k → part_to c (take k room) ≡ part_to c room
  unfolding part_to candidate_data ask_data candidate_number
  same_part (fresh_call d n rule) h = refl
  same_part (feed_call word sat w t band) h = refl
  same_part (tag_call sat kind cop l status w t given verdict) h = refl
  same_part (candidate_call sat kind cop w t) h =
      rw (same_until k room g h (cop_allowed cop) (kind_known kind) sat kind cop w t 0 0 (λ e. refl))
      (part_same (until_candidate (cop_allowed cop) (kind_known kind) sat kind cop w t room 0) _ _
      (λ e. ap (data_of (family_of kind))
      (same_record k room g h (family_of kind) sat w t
      (has_row k room g h (family_of kind) sat w t cop (candidate_allowed (cop_allowed cop) (kind_known kind) sat kind cop w t room 0 e).1))))
  same_part (ask_call f sat) h =
      rw (same_ask_number k room g h f sat) (part_same (ask_number f sat room) _ _ (λ e. ap (data_of f) (asked_zero k room g h f sat e).1))
  same_part reset_call h = refl

  -- and leaves the same first k bytes
  pub same_room : (c : Call) → goes_by c room ≤ k → room_after c (take k room) ≡ take k (room_after c room)
  unfolding room_after fresh_room feed_room tag_room reset_room
  same_room (fresh_call d n rule) h =
      rw (fresh_number_same d n rule h) (room_same k (fresh_number d n rule room) _ _ room (λ e. alike_fresh k d n rule room h g))
  same_room (feed_call word sat w t band) h =
      rw (feed_number_same word sat w t band h)
      (room_same k (feed_number word sat w t band room) _ _ room
      (λ e. alike_fed k w (start_of t) room (holding (feed_store word sat w t band room e) h) sat band word))
  same_room (tag_call sat kind cop l status w t given verdict) h =
      rw (same_tag_number k room g h sat kind cop l status w t given verdict)
      (room_same k (tag_number sat kind cop l status w t given verdict room) _ _ room
      (λ e.
      let r = same_record k room g h (family_of kind) sat w t (tag_row sat kind cop l status w t given verdict room e) in
      rw r (alike_tagged k (family_of kind) (candidate_record (family_of kind) sat w t room) l room (holding (tag_store sat kind cop l status w t given verdict room e) h))))
  same_room (candidate_call sat kind cop w t) h = refl
  same_room (ask_call f sat) h = refl
  same_room reset_call h =
      rw (reset_number_same h) (room_same k (reset_number room) _ _ room (λ e. alike_reset k room (holding (reset_store room e) h)))

  -- ---- fewer bytes than the call goes by: it is refused, and leaves them
  short_store : k < room_size (depth room) (slots room) → is_store (take k room) ≡ false
  short_store h = go (is_store (take k room)) refl
    where
      none : is_store (take k room) ≡ true → ⊥
      none e =
          let F = store_facts (take k room) e in
          let long = length-take-le k room g in
          let d = shorter_get_d k room depth_at (omega (arith, F.long)) in
          let n = shorter_get_d k room slots_at (omega (arith, F.long)) in
          let fits : room_size (depth room) (slots room) ≤ length (take k room) = rw (d, n) at F.fits in
          omega arith

      go : (b : Bool) → is_store (take k room) ≡ b → b ≡ false
      go true e = absurd (none e)
      go false e = refl

  pub short_room : (c : Call) → k < goes_by c room → room_after c (take k room) ≡ take k room
  unfolding room_after fresh_room feed_room tag_room reset_room fresh_number feed_number tag_number until_candidate reset_number
  short_room (fresh_call d n rule) h = rw (length-take-le k room g, lt-leb (room_size d n) k h) (go (sizes_allowed d n && rule_known rule))
    where
      go : (b : Bool) → room_for (unless b 1 2) (fresh d n rule (take k room)) (take k room) ≡ take k room
      go true = refl
      go false = refl
  short_room (feed_call word sat w t band) h = rw (short_store h)
  short_room (tag_call sat kind cop l status w t given verdict) h = rw (short_store h)
  short_room (candidate_call sat kind cop w t) h = refl
  short_room (ask_call f sat) h = refl
  short_room reset_call h = rw (short_store h)

  -- a call lent the first k bytes: what the whole is after it
  pub lent_room : (c : Call) → room_after c (take k room) ++ drop k room ≡ room_after (on_whole k c room) room
  unfolding on_whole
  lent_room c = go (leb (goes_by c room) k) refl
    where
      go : (b : Bool) → leb (goes_by c room) k ≡ b → room_after c (take k room) ++ drop k room ≡ room_after (cond b c refused_call) room
      go true e =
          let h = leb-true (goes_by c room) k e in
          rw (same_room c h, ← call_untouched c room k (reach_goes_by c room k h)) (take-append-drop k (room_after c room))
      go false e = rw (short_room c (leb-false (goes_by c room) k e)) (take-append-drop k room ∙ sym (refused_call_lem room))
