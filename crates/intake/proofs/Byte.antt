-- One byte more: the bytes kept with it are the item so far, and the kind byte says whether it is whole. Assumes nothing.
use native.Mathlib.Omega.{arith}
use native.Mathlib.Numerals.{add-one}
use native.Mathlib.Nat.{add-sub_cancel, add_comm}
use mathlib.Core.Path.{◌≡◌, refl, sym, ◌∙◌}
use mathlib.Core.Bool.{Bool, true, false}
use mathlib.Core.List.{List, [], ◌∷◌, ◌++◌, append-nil}
use Prim.Native.Nat.{ℕ, zero, suc, ◌+◌, ◌-◌, ◌≤◌, ◌<◌}
use lib.ListN.{length, get_or, take, drop, set, length-set, length-take, length-drop}
use lib.Seq.{take-suc-set, length-take-le, get_or-take, get_or-set_other}
use borrow.Author.Tests.{lt-ltb, le-ltb}
use Rattle.paper.proofs.Parts.{part_of_take}
use Rattle.text.specs.Text.{Put}
use Rattle.text.proofs.Puts.{put_none}
use Rattle.lines.specs.declared.Kind.{Kind}
use Rattle.lines.specs.Kinds.{kind_of, body_length, longest_item}
use Rattle.lines.proofs.Longest.{body_within}
use Rattle.benchlines.specs.Items.{whole_room}
use Rattle.intake.specs.Input.{Stage, going, whole, behind, stage_after, items_with, most_for, lines_for, room_of, lines_of}
use Rattle.intake.specs.Reader.{Stepped, NotWhole}

module _ (traced : Bool) (room kept : List ℕ) (have b : ℕ) (out : List ℕ) (at : ℕ) (fits : have < length kept) where
  so_far : take have kept ++ (b ∷ []) ≡ take (have + 1) (set kept have b)
  so_far = rw (add-one have) (sym (take-suc-set kept have b fits))

  how_many_lem : length (take (have + 1) (set kept have b)) ≡ have + 1
  how_many_lem = length-take-le (have + 1) (set kept have b) (rw (length-set kept have b) (omega arith))

  kind_byte : get_or (take (have + 1) (set kept have b)) 0 0 ≡ get_or (set kept have b) 0 0
  kind_byte = get_or-take (have + 1) (set kept have b) 0 0 (omega arith)

  body_bytes : take (have + 1 - 1) (drop 1 (set kept have b)) ≡ drop 1 (take (have + 1) (set kept have b))
  body_bytes = rw (add-sub_cancel have 1) (part_of_take 1 have (set kept have b) ∙ rw (add_comm 1 have) refl)

  module _ (kind : Kind) (e : kind ≡ kind_of (get_or (set kept have b) 0 0)) where
    -- not whole yet
    stage_part : have < body_length kind → going (take (have + 1) (set kept have b)) ≡ stage_after (going (take have kept)) b
    unfolding stage_after
    stage_part h = rw (so_far, how_many_lem, kind_byte, ← e, lt-ltb (have + 1) (1 + body_length kind) (omega arith)) refl

    items_part : have < body_length kind → items_with (going (take have kept)) b ≡ []
    unfolding items_with
    items_part h = rw (so_far, how_many_lem, kind_byte, ← e, lt-ltb (have + 1) (1 + body_length kind) (omega arith)) refl

    pub step_part :
        have < body_length kind → at ≤ length out
        → Stepped traced (going (take have kept)) b room out at (going (take (have + 1) (set kept have b))) room out at false
    unfolding room_of lines_of
    step_part h g =
        record {
          stops = rw (items_part h) refl;
          stands = stage_part h;
          leaves = rw (items_part h) refl;
          lines = rw (items_part h) (put_none out at g);
        }

    -- whole
    body : List ℕ
    body = take (have + 1 - 1) (drop 1 (set kept have b))

    stage_whole : body_length kind ≤ have → behind kind ≡ stage_after (going (take have kept)) b
    unfolding stage_after
    stage_whole h = rw (so_far, how_many_lem, kind_byte, ← e, le-ltb (have + 1) (1 + body_length kind) (omega arith)) refl

    items_whole : body_length kind ≤ have → items_with (going (take have kept)) b ≡ whole kind body ∷ []
    unfolding items_with body
    items_whole h = rw (so_far, how_many_lem, kind_byte, ← e, le-ltb (have + 1) (1 + body_length kind) (omega arith), ← body_bytes) refl

    -- what it prints might not fit
    pub step_full :
        body_length kind ≤ have → at ≤ length out → length out - at < most_for traced
        → Stepped traced (going (take have kept)) b room out at (going (take have kept)) room out at true
    unfolding room_of lines_of
    step_full h g short =
        record {
          stops = rw (items_whole h, lt-ltb (length out) (at + most_for traced) (omega arith)) refl;
          stands = refl;
          leaves = refl;
          lines = put_none out at g;
        }

    -- it fits
    pub step_whole :
        (s' : Stage) (room' out' : List ℕ) (said : ℕ)
        → body_length kind ≤ have → at ≤ length out → most_for traced ≤ length out - at
        → behind kind ≡ s'
        → room' ≡ whole_room kind (take (have + 1 - 1) (drop 1 (set kept have b))) room
        → Put out at (lines_for traced (whole kind (take (have + 1 - 1) (drop 1 (set kept have b)))) room) out' said
        → Stepped traced (going (take have kept)) b room out at s' room' out' said false
    unfolding room_of lines_of body
    step_whole s' room' out' said h g long n r p =
        record {
          stops = rw (items_whole h, le-ltb (length out) (at + most_for traced) (omega arith)) refl;
          stands = sym n ∙ stage_whole h;
          leaves = rw (items_whole h) r;
          lines = rw (items_whole h, append-nil (lines_for traced (whole kind body) room)) p;
        }

-- what is kept of an item lies within its buffer, with room for a byte
pub not_whole_within : (kept : List ℕ) (have : ℕ) → NotWhole kept have → have < length kept
not_whole_within kept have k = omega (arith, k.size, k.within, body_within (kind_of (get_or kept 0 0)))

pub not_whole_short : (kept : List ℕ) (have : ℕ) → NotWhole kept have → have < longest_item
not_whole_short kept have k = omega (arith, k.within, body_within (kind_of (get_or kept 0 0)))

-- a byte behind others does not change their kind
pub within_still :
    (kept : List ℕ) (have b : ℕ) → have ≤ body_length (kind_of (get_or kept 0 0)) → have ≤ body_length (kind_of (get_or (set kept have b) 0 0))
within_still kept zero b h = omega arith
within_still kept (suc n) b h = rw (get_or-set_other kept (suc n) 0 b 0 (λ e. omega arith)) h

-- the body of an item that is whole
pub body_whole :
    (kept : List ℕ) (have b : ℕ) (kind : Kind) → have < length kept → kind ≡ kind_of (get_or (set kept have b) 0 0)
    → have ≤ body_length (kind_of (get_or kept 0 0)) → body_length kind ≤ have
    → length (take (have + 1 - 1) (drop 1 (set kept have b))) ≡ body_length kind
body_whole kept have b kind fits e h g =
    let k : have ≤ body_length kind = rw e (within_still kept have b h) in
    simp (length-take, length-drop, length-set) (omega arith)
