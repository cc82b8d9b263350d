-- A room of bytes stays one: every number that a call writes is below 256, where the week fits in two bytes. Assumes nothing.
use mathlib.Core.Bool.{Bool, true, false, cond}
use mathlib.Core.List.{List, [], ◌∷◌, ◌++◌, map}
use mathlib.Core.Path.{◌≡◌, refl}
use Prim.Native.Nat.{ℕ, zero, suc, ◌+◌, ◌*◌, ◌<◌, min, ◌-◌}
use native.Mathlib.Omega.{arith}
use lib.Dec.{ltb}
use borrow.Author.Tests.{ltb-true, leb-true}
use lib.ListN.{set, replicate}
use Rattle.paper.specs.Big.{put16}
use Rattle.paper.specs.Bits.{moved, changed}
use Rattle.paper.specs.Parts.{part, on_part, Bytes}
use Rattle.paper.specs.Record.{Family, CED, Timing, data_bytes, ages, size, data_at, satellite, count, data_of}
use Rattle.paper.specs.Record.{with_count, older, aged, blank_record, most_count, ages_at, count_at, never_there, satellite_at, oldest}
use Rattle.paper.specs.Room.{slot_size, base, row_size, depth, slots, current, row_at, record_at, in_slot, each_record, every_record, head_size, header_size}
use Rattle.paper.specs.Room.{current_at, zeros_at, time_rule, mark_at, depth_at, week_at, time_at}
use Rattle.paper.specs.Word.{Owned, nothing, owns, owned, type_of, takeover, written, fed_record}
use Rattle.paper.specs.Fresh.{header, blank_slot, blank_row, fresh}
use Rattle.paper.specs.Feed.{next_row, moves, rises_by, copied, aged_row, advanced, marked_at, current_marked, settled, chosen, fed_family, fed_row, fed, fed_current}
use Rattle.paper.specs.Tag.{matches, credited, tagged, family_of, candidate_record}
use Rattle.paper.specs.Reset.{reset}
use Rattle.paper.specs.Answer.{fresh_number, fresh_room, feed_number, feed_room, tag_number, tag_room, reset_number, reset_room}
use Rattle.paper.specs.Call.{Call, fresh_call, feed_call, tag_call, candidate_call, ask_call, reset_call, room_after, run}
use Rattle.paper.specs.Time.{start_of, week_seconds}
use Rattle.paper.proofs.Big.{bytes_put16, bytes_put32}
use Rattle.paper.proofs.Bytes.{bytes_cons, bytes_set, bytes_part, bytes_append, bytes_replicate, bytes_on_part, bytes_on_parts}
use Rattle.paper.proofs.Bits.{bytes_moved}
use Rattle.paper.proofs.RecordViews.{held_or_free}
use Rattle.paper.proofs.StoreFacts.{sizes_facts}
use Rattle.stays.proofs.Rooms.{room_for_lem, satellite_known, fresh_allowed, feed_allowed}
use Rattle.stays.specs.Lent.{WeekFits, WeeksFit}

-- ---- records
bytes_map : (g : ℕ → ℕ) → ((x : ℕ) → g x < 256) → (l : List ℕ) → Bytes (map g l)
bytes_map g h [] k = omega arith
bytes_map g h (x ∷ l) zero = h x
bytes_map g h (x ∷ l) (suc k) = bytes_map g h l k

bytes_aged : (f : Family) (by : ℕ) (rec : List ℕ) → Bytes rec → Bytes (aged f by rec)
unfolding aged
bytes_aged f by rec b = bytes_on_part (map (older by)) ages_at (ages f) rec b (λ _. bytes_map (older by) (λ x. omega arith) (part ages_at (ages f) rec))

bytes_with_count : (c : ℕ) (rec : List ℕ) → c < 65536 → Bytes rec → Bytes (with_count c rec)
bytes_with_count c rec h b = bytes_put16 rec count_at c b h

bytes_never_there : (f : Family) (rec : List ℕ) → Bytes rec → Bytes (never_there f rec)
bytes_never_there f rec b =
    bytes_on_part (λ (_ : List ℕ). replicate (ages f) oldest) ages_at (ages f) rec b (λ _. bytes_replicate (ages f) oldest (omega arith))

bytes_taken : (f : Family) (sat : ℕ) (rec : List ℕ) → sat < 256 → Bytes rec → Bytes (takeover f sat rec)
unfolding takeover
bytes_taken f sat rec h b = go (held_or_free sat rec)
  where
    mine : List ℕ
    mine = set rec satellite_at sat

    bytes_mine : Bytes mine
    bytes_mine = bytes_set rec satellite_at sat b h

    go : (c : Bool) → Bytes (cond c mine (never_there f (with_count 0 mine)))
    go true = bytes_mine
    go false = bytes_never_there f (with_count 0 mine) (bytes_with_count 0 mine (omega arith) bytes_mine)

bytes_written : (f : Family) (o : Owned) (word rec : List ℕ) → Bytes rec → Bytes (written f o word rec)
unfolding written
bytes_written f nothing word rec b = b
bytes_written f (owns to from n age) word rec b = go (changed (data_of f rec) to word from n)
  where
    touched : List ℕ
    touched = set (on_part (λ (x : List ℕ). moved x to word from n) (data_at f) (data_bytes f) rec) (ages_at + age) 0

    bytes_touched : Bytes touched
    bytes_touched =
        bytes_set (on_part (λ (x : List ℕ). moved x to word from n) (data_at f) (data_bytes f) rec) (ages_at + age) 0
        (bytes_on_part (λ (x : List ℕ). moved x to word from n) (data_at f) (data_bytes f) rec b (λ d. bytes_moved (data_of f rec) to word from n d))
        (omega arith)

    go : (c : Bool) → Bytes (cond c (with_count 0 touched) touched)
    go true = bytes_with_count 0 touched (omega arith) bytes_touched
    go false = bytes_touched

bytes_fed_record : (f : Family) (sat band : ℕ) (word rec : List ℕ) → sat < 256 → Bytes rec → Bytes (fed_record f sat band word rec)
unfolding fed_record
bytes_fed_record f sat band word rec h b = bytes_written f (owned f (type_of word) band) word (takeover f sat rec) (bytes_taken f sat rec h b)

bytes_credited : (f : Family) (sat : ℕ) (bits : List ℕ) (l : ℕ) (rec : List ℕ) → Bytes rec → Bytes (credited f sat bits l rec)
unfolding credited
bytes_credited f sat bits l rec b = go (matches f sat bits rec)
  where
    go : (c : Bool) → Bytes (cond c (with_count (min most_count (count rec + l)) rec) rec)
    go true = bytes_with_count (min most_count (count rec + l)) rec (omega arith) b
    go false = b

bytes_blank : (f : Family) → Bytes (blank_record f)
unfolding blank_record
bytes_blank f = bytes_never_there f (replicate (size f) 0) (bytes_replicate (size f) 0 (omega arith))

-- ---- all records
bytes_each_record : (f : Family) (n : ℕ) (g : List ℕ → List ℕ) → ((r : List ℕ) → Bytes r → Bytes (g r)) → (row : List ℕ) → Bytes row → Bytes (each_record f n g row)
unfolding each_record
bytes_each_record f n g h row b =
    bytes_on_parts (in_slot f g) slot_size (λ slot c. bytes_on_part g (base f) (size f) slot c (λ d. h (part (base f) (size f) slot) d)) n head_size row b

bytes_every_record : (f : Family) (g : List ℕ → List ℕ) → ((r : List ℕ) → Bytes r → Bytes (g r)) → (room : List ℕ) → Bytes room → Bytes (every_record f g room)
unfolding every_record
bytes_every_record f g h room b =
    bytes_on_parts (each_record f (slots room) g) (row_size (slots room)) (λ row c. bytes_each_record f (slots room) g h row c) (depth room) header_size room b

bytes_tagged : (f : Family) (candidate : List ℕ) (l : ℕ) (room : List ℕ) → Bytes room → Bytes (tagged f candidate l room)
unfolding tagged
bytes_tagged f candidate l room b =
    bytes_every_record f (credited f (satellite candidate) (data_of f candidate) l)
    (λ r c. bytes_credited f (satellite candidate) (data_of f candidate) l r c)
    room b

bytes_reset : (room : List ℕ) → Bytes room → Bytes (reset room)
unfolding reset
bytes_reset room b =
    bytes_every_record Timing (with_count 0) (λ r c. bytes_with_count 0 r (omega arith) c) (every_record CED (with_count 0) room)
    (bytes_every_record CED (with_count 0) (λ r c. bytes_with_count 0 r (omega arith) c) room b)

-- ---- rows and the ring
bytes_aged_row : (by n : ℕ) (row : List ℕ) → Bytes row → Bytes (aged_row by n row)
unfolding aged_row
bytes_aged_row by n row b =
    bytes_each_record Timing n (aged Timing by) (λ r c. bytes_aged Timing by r c) (each_record CED n (aged CED by) row)
    (bytes_each_record CED n (aged CED by) (λ r c. bytes_aged CED by r c) row b)

bytes_copied : (n from to : ℕ) (room : List ℕ) → Bytes room → Bytes (copied n from to room)
unfolding copied
bytes_copied n from to room b =
    bytes_on_part (λ (_ : List ℕ). part (from + head_size) (n * slot_size) room) (to + head_size) (n * slot_size) room b
    (λ _. bytes_part (from + head_size) (n * slot_size) room b)

next_byte : (d c : ℕ) → d < 256 → next_row d c < 256
unfolding next_row
next_byte d c h = go (ltb (c + 1) d) refl
  where
    go : (b : Bool) → ltb (c + 1) d ≡ b → cond b (c + 1) 0 < 256
    go true e = omega (arith, ltb-true (c + 1) d e)
    go false e = omega arith

bytes_advanced : (by : ℕ) (room : List ℕ) → Bytes room → Bytes (advanced by room)
unfolding advanced
bytes_advanced by room b =
    let n = slots room in
    let to = next_row (depth room) (current room) in
    let c = copied n (row_at n (current room)) (row_at n to) room in
    bytes_on_part (aged_row by n) (row_at n to) (row_size n) (set c current_at to)
    (bytes_set c current_at to (bytes_copied n (row_at n (current room)) (row_at n to) room b) (next_byte (depth room) (current room) (b depth_at)))
    (λ d. bytes_aged_row by n (part (row_at n to) (row_size n) (set c current_at to)) d)

bytes_marked_at : (w t : ℕ) (row : List ℕ) → w < 65536 → t < 4294967296 → Bytes row → Bytes (marked_at w t row)
unfolding marked_at
bytes_marked_at w t row h g b =
    bytes_put32 (put16 (set row mark_at 1) week_at w) time_at t (bytes_put16 (set row mark_at 1) week_at w (bytes_set row mark_at 1 b (omega arith)) h) g

bytes_settled : (w t : ℕ) (room : List ℕ) → w < 65536 → t < 4294967296 → Bytes room → Bytes (settled w t room)
unfolding settled current_marked
bytes_settled w t room h g b = go (moves w t room)
  where
    mark_it : (x : List ℕ) → Bytes x → Bytes (on_part (marked_at w t) (row_at (slots x) (current x)) (row_size (slots x)) x)
    mark_it x c =
        bytes_on_part (marked_at w t) (row_at (slots x) (current x)) (row_size (slots x)) x c
        (λ d. bytes_marked_at w t (part (row_at (slots x) (current x)) (row_size (slots x)) x) h g d)

    reached : (c : Bool) → Bytes (cond c (advanced (rises_by w t room) room) room)
    reached true = bytes_advanced (rises_by w t room) room b
    reached false = b

    go : (c : Bool)
        → let x = cond c (advanced (rises_by w t room) room) room in
        Bytes (on_part (marked_at w t) (row_at (slots x) (current x)) (row_size (slots x)) x)
    go c = mark_it (cond c (advanced (rises_by w t room) room) room) (reached c)

bytes_fed_family : (f : Family) (n sat band : ℕ) (word row : List ℕ) → sat < 256 → Bytes row → Bytes (fed_family f n sat band word row)
unfolding fed_family
bytes_fed_family f n sat band word row h b =
    bytes_on_part (fed_record f sat band word) (record_at f (chosen f sat n row)) (size f) row b
    (λ d. bytes_fed_record f sat band word (part (record_at f (chosen f sat n row)) (size f) row) h d)

bytes_fed_row : (n sat band : ℕ) (word row : List ℕ) → sat < 256 → Bytes row → Bytes (fed_row n sat band word row)
unfolding fed_row
bytes_fed_row n sat band word row h b =
    bytes_fed_family Timing n sat band word (fed_family CED n sat band word row) h (bytes_fed_family CED n sat band word row h b)

bytes_fed : (w t sat band : ℕ) (word room : List ℕ) → w < 65536 → t < 4294967296 → sat < 256 → Bytes room → Bytes (fed w t sat band word room)
unfolding fed fed_current
bytes_fed w t sat band word room h g k b =
    let s = settled w t room in
    let n = slots s in
    bytes_on_part (fed_row n sat band word) (row_at n (current s)) (row_size n) s (bytes_settled w t room h g b)
    (λ d. bytes_fed_row n sat band word (part (row_at n (current s)) (row_size n) s) k d)

-- ---- a fresh room
bytes_blank_row : (n : ℕ) (row : List ℕ) → Bytes row → Bytes (blank_row n row)
unfolding blank_row blank_slot
bytes_blank_row n row b =
    bytes_on_parts (λ (_ : List ℕ). blank_record CED ++ blank_record Timing) slot_size
    (λ _ _. bytes_append (blank_record CED) (blank_record Timing) (bytes_blank CED) (bytes_blank Timing))
    n head_size
    (on_part (λ (_ : List ℕ). replicate head_size 0) 0 head_size row)
    (bytes_on_part (λ (_ : List ℕ). replicate head_size 0) 0 head_size row b (λ _. bytes_replicate head_size 0 (omega arith)))

bytes_fresh : (d n rule : ℕ) (room : List ℕ) → d < 256 → n < 256 → rule < 256 → Bytes room → Bytes (fresh d n rule room)
unfolding fresh
bytes_fresh d n rule room h g k b =
    bytes_on_parts (blank_row n) (row_size n) (λ row c. bytes_blank_row n row c) d header_size
    (on_part (λ (_ : List ℕ). header d n rule) 0 header_size room)
    (bytes_on_part (λ (_ : List ℕ). header d n rule) 0 header_size room b
    (λ _. bytes_cons d (n ∷ 0 ∷ rule ∷ replicate (header_size - zeros_at) 0) h
    (bytes_cons n (0 ∷ rule ∷ replicate (header_size - zeros_at) 0) g
    (bytes_cons 0 (rule ∷ replicate (header_size - zeros_at) 0) (omega arith)
    (bytes_cons rule (replicate (header_size - zeros_at) 0) k (bytes_replicate (header_size - zeros_at) 0 (omega arith)))))))

-- ---- any call, and calls after each other
pub call_bytes : (c : Call) (room : List ℕ) → WeekFits c → Bytes room → Bytes (room_after c room)
unfolding room_after fresh_room feed_room tag_room reset_room
call_bytes (fresh_call d n rule) room w b =
    room_for_lem Bytes (fresh_number d n rule room) (fresh d n rule room) room
    (λ e.
    let a = fresh_allowed d n rule room e in
    let s = sizes_facts d n a.0 in
    bytes_fresh d n rule room (omega (arith, s.1)) (omega (arith, s.3)) (omega (arith, leb-true rule time_rule a.2)) b)
    b
call_bytes (feed_call word sat w t band) room h b =
    room_for_lem Bytes (feed_number word sat w t band room) (fed w (start_of t) sat band word room) room
    (λ e.
    let a = feed_allowed word sat w t band room e in
    let k = satellite_known sat a.0 in
    bytes_fed w (start_of t) sat band word room h (omega (arith, ltb-true t week_seconds a.1)) (omega (arith, k.1)) b)
    b
call_bytes (tag_call sat kind cop l status w t given verdict) room h b =
    room_for_lem Bytes (tag_number sat kind cop l status w t given verdict room)
    (tagged (family_of kind) (candidate_record (family_of kind) sat w t room) l room) room
    (λ e. bytes_tagged (family_of kind) (candidate_record (family_of kind) sat w t room) l room b)
    b
call_bytes (candidate_call sat kind cop w t) room h b = b
call_bytes (ask_call f sat) room h b = b
call_bytes reset_call room h b = room_for_lem Bytes (reset_number room) (reset room) room (λ e. bytes_reset room b) b

pub run_bytes : (calls : List Call) (room : List ℕ) → WeeksFit calls → Bytes room → Bytes (run room calls)
unfolding run
run_bytes [] room h b = b
run_bytes (c ∷ before) room h b = call_bytes c (run room before) h.0 (run_bytes before room h.1 b)
