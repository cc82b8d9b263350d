-- Small inputs, ends and states, computed: the items, the stages and the numbers. Assumes nothing.
use mathlib.Core.Path.{◌≡◌, refl}
use mathlib.Core.Bool.{true, false}
use mathlib.Core.List.{List, [], ◌∷◌}
use Prim.Native.Nat.{ℕ}
use lib.ListN.{replicate}
use Rattle.lines.specs.declared.Kind.TheVariants.{Reset, Ced, Fresh, Unknown}
use Rattle.lines.specs.Kinds.{kind_of}
use Rattle.intake.specs.Input.{whole, cut, going, ended, stage_after, items_with, stage_of, items_of, stage_at_end, items_at_end, at_start, input_items}
use Rattle.intake.specs.Reader.{reader_bytes, stage_in, state_of, reader_of, end_fits, stage_ended, items_ended, number_at_end}

-- whole items, and the end inside one
pub two_and_a_cut : input_items (3 ∷ 6 ∷ 2 ∷ 4 ∷ 1 ∷ []) ≡ whole Reset [] ∷ whole Fresh (2 ∷ 4 ∷ []) ∷ cut ∷ []
unfolding input_items items_of stage_of stage_after items_with items_at_end kind_of
two_and_a_cut = refl

-- a byte that is no kind is 13 at once, before any end, and what stands behind it is not heard: the number stays, and the end adds nothing
pub unknown_alone : (stage_of at_start (255 ∷ []) ≡ ended 13) × (input_items (255 ∷ []) ≡ whole Unknown [] ∷ [])
unfolding input_items items_of stage_of stage_after items_with items_at_end kind_of
unknown_alone = (refl, refl)

pub behind_unknown : let input : List ℕ = 4 ∷ 9 ∷ 10 ∷ 3 ∷ 1 ∷ [] in
    (stage_of at_start input ≡ ended 13) × ((stage_at_end (stage_of at_start input) ≡ ended 13) × (input_items input ≡ whole Ced (9 ∷ []) ∷ whole Unknown [] ∷ []))
unfolding input_items items_of stage_of stage_after items_with stage_at_end items_at_end kind_of
behind_unknown = (refl, (refl, refl))

-- a known kind alone waits; said to have ended there, the input is cut short
pub kind_waits : stage_of at_start (1 ∷ []) ≡ going (1 ∷ [])
unfolding stage_of stage_after kind_of
kind_waits = refl

pub kind_cut : stage_at_end (stage_of at_start (1 ∷ [])) ≡ ended 14
unfolding stage_of stage_after stage_at_end kind_of
kind_cut = refl

-- an end there that does not fit: 14, not taken, the kind still kept and no item, so no line
pub kind_cut_short : let s = stage_of at_start (1 ∷ []) in
    (number_at_end s ≡ 14) × ((end_fits false (replicate 188 0) s ≡ false) × ((stage_ended false (replicate 188 0) s ≡ s) × (items_ended false (replicate 188 0) s ≡ [])))
unfolding stage_of stage_after stage_at_end items_at_end end_fits stage_ended items_ended kind_of
kind_cut_short = (refl, (refl, (refl, refl)))

-- behind it, with room for its line: 14, taken, and the item that prints it
pub kind_cut_then : let s = stage_ended false (replicate 188 0) (stage_of at_start (1 ∷ [])) in
    (number_at_end s ≡ 14) × ((end_fits false (replicate 189 0) s ≡ true) × ((stage_ended false (replicate 189 0) s ≡ ended 14) × (items_ended false (replicate 189 0) s ≡ cut ∷ [])))
unfolding stage_of stage_after stage_at_end items_at_end end_fits stage_ended items_ended kind_of
kind_cut_then = (refl, (refl, (refl, refl)))

-- no bytes change nothing, inside an item too; an input of none is a clean end, without a line
pub nothing : (stage_of (going (1 ∷ [])) [] ≡ going (1 ∷ [])) × ((stage_at_end at_start ≡ ended 0) × (input_items [] ≡ []))
unfolding input_items items_of stage_of stage_at_end items_at_end
nothing = (refl, (refl, refl))

-- zeros are a reader at the start
pub zeros : stage_in (replicate reader_bytes 0) ≡ at_start
unfolding stage_in kind_of
zeros = refl

pub at_start_lem : reader_of at_start ≡ replicate reader_bytes 0
unfolding reader_of
at_start_lem = refl

-- bytes that keep a whole item, or more, keep nothing; any mark of the end but 0 is one, with whatever number
pub whole_kept : (stage_in (state_of (3 ∷ []) 0 0) ≡ at_start) × (stage_in (state_of (4 ∷ 9 ∷ 1 ∷ []) 0 0) ≡ at_start)
unfolding stage_in kind_of
whole_kept = (refl, refl)

pub any_mark : stage_in (state_of [] 2 77) ≡ ended 77
unfolding stage_in
any_mark = refl
