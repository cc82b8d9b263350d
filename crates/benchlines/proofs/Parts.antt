-- The slice of the room that an item's call hands out: it is short, still there after the call, and copied whole. Assumes nothing.
use native.Mathlib.Omega.{arith}
use mathlib.Core.Path.{◌≡◌, refl, ap, ◌∙◌}
use mathlib.Core.Bool.{Bool, true, false, cond}
use mathlib.Core.List.{List, []}
use Prim.Native.Nat.{ℕ, ◌≤◌}
use lib.ListN.{length, get_or, take, length-take}
use lib.Seq.{take_all}
use lib.Dec.{eqb}
use Rattle.paper.specs.Record.{Family, CED, Timing as TIMING, data_bytes, data_of}
use Rattle.paper.specs.Answer.{part_for, candidate_number, candidate_data, ask_number, ask_data}
use Rattle.paper.specs.Tag.{family_of, candidate_record}
use Rattle.paper.specs.Ask.{answering_record}
use Rattle.paper.specs.Call.{part_to, room_after, run}
use Rattle.text.specs.Text.{Put}
use Rattle.text.proofs.Puts.{length_put_text, take_put}
use Rattle.lines.specs.declared.Kind.{Kind}
use Rattle.lines.specs.declared.Kind.TheVariants.{Word, Tag, Reset, Ced, Timing, Fresh, FreshRuled, Unknown}
use Rattle.benchlines.specs.Items.{word_call, tag_call_on, whole_data, whole_room}

-- the data of a record, if the number is 0
data_short : (k : ℕ) (f : Family) (rec : List ℕ) → length (part_for k (data_of f rec)) ≤ data_bytes CED
data_short k f rec = go (eqb k 0)
  where
    bytes : (f : Family) → data_bytes f ≤ data_bytes CED
    bytes CED = omega arith
    bytes TIMING = omega arith

    go : (b : Bool) → length (cond b (data_of f rec) []) ≤ data_bytes CED
    go true = simp length-take (omega (arith, bytes f))
    go false = omega arith

-- a candidate's data
pub candidate_short : (sat kind cop w t : ℕ) (room : List ℕ) → length (candidate_data sat kind cop w t room) ≤ data_bytes CED
unfolding candidate_data
candidate_short sat kind cop w t room =
    data_short (candidate_number sat kind cop w t room) (family_of kind) (candidate_record (family_of kind) sat w t room)

ask_short : (f : Family) (sat : ℕ) (room : List ℕ) → length (ask_data f sat room) ≤ data_bytes CED
unfolding ask_data
ask_short f sat room = data_short (ask_number f sat room) f (answering_record f sat room)

pub part_short : (kind : Kind) (body room : List ℕ) → length (whole_data kind body room) ≤ data_bytes CED
unfolding word_call tag_call_on part_to
part_short Word body room = omega arith
part_short Tag body room = omega arith
part_short Reset body room = omega arith
part_short Ced body room = ask_short CED (get_or body 0 0) room
part_short Timing body room = ask_short TIMING (get_or body 0 0) room
part_short Fresh body room = omega arith
part_short FreshRuled body room = omega arith
part_short Unknown body room = omega arith

-- a call that hands out a slice leaves the room as it is
pub part_after : (kind : Kind) (body room : List ℕ) → whole_data kind body (whole_room kind body room) ≡ whole_data kind body room
unfolding word_call tag_call_on part_to room_after run
part_after Word body room = refl
part_after Tag body room = refl
part_after Reset body room = refl
part_after Ced body room = refl
part_after Timing body room = refl
part_after Fresh body room = refl
part_after FreshRuled body room = refl
part_after Unknown body room = refl

-- bytes put to the start, and the first k bytes of k
pub copied_whole : {s d s' : List ℕ} {r : ℕ} → Put s 0 d s' r → (take r s' ≡ d) × (r ≤ length s')
copied_whole {s} {d} {s'} {r} p =
    let size : length s' ≡ length s = ap length p.bytes ∙ length_put_text s 0 d p.fits in
    (take_put p, omega (arith, size, p.place, p.fits))

pub copied_all : {s d s' : List ℕ} {k r : ℕ} → length d ≡ k → Put s 0 (take k d) s' r → (take r s' ≡ d) × (r ≤ length s')
copied_all {s} {d} {s'} {k} {r} e p =
    let put = copied_whole p in
    (put.0 ∙ take_all k d (omega arith), put.1)
