-- The state of a reader as bytes: what it keeps is fewer bytes than its item has, and its bytes say where it stands. Assumes nothing.
use native.Mathlib.Omega.{arith}
use mathlib.Core.Path.{◌≡◌, refl, ap, ◌∙◌}
use mathlib.Core.Bool.{Bool, true, false, cond}
use mathlib.Core.List.{List, [], ◌∷◌, ◌++◌, append-nil}
use Prim.Native.Nat.{ℕ, zero, suc, ◌+◌, ◌-◌, ◌≤◌, ◌<◌}
use lib.ListN.{length, get_or, take, set, replicate, length-append, length-take, length-replicate, replicate-append-replicate, drop_of_length-le}
use lib.Seq.{take_at, length-take-le, get_or-take, get_or-append-add, set-get_or}
use lib.Dec.{eqb, ltb}
use borrow.Author.Tests.{lt-ltb, le-ltb, ltb-true, ltb-false, eq-eqb, ne_eqb}
use Rattle.text.specs.Text.{put_text}
use Rattle.text.proofs.Puts.{length_put_text, put_text_one, put_text_then}
use Rattle.lines.specs.declared.Kind.{Kind}
use Rattle.lines.specs.declared.Kind.TheVariants.{Word, Tag, Reset, Ced, Timing, Fresh, FreshRuled, Unknown}
use Rattle.lines.specs.Kinds.{kind_of, body_length, longest_item}
use Rattle.lines.proofs.Longest.{body_within}
use Rattle.intake.specs.Input.{Stage, going, ended, unfinished, behind, stage_after, stage_of}
use Rattle.intake.specs.Reader.{reader_bytes, have_at, ended_at, number_at, kept_in, stage_in, state_of, reader_of, stage_number, standing, number_at_stand}
use Rattle.intake.specs.declared.Stand.{Stand}
use Rattle.intake.specs.declared.Stand.TheVariants.{Going, Ended}

-- ---- what is kept is not a whole item
abbrev pub Proper : Stage → Type 0
Proper (going kept) = unfinished kept ≡ true
Proper (ended k) = Unit {0}

pub none_unfinished : unfinished [] ≡ true
none_unfinished = lt-ltb 0 (1 + body_length (kind_of 0)) (omega arith)

in_proper : (bytes : List ℕ) → Proper (going (kept_in bytes))
in_proper bytes = go (unfinished bytes) refl
  where
    go : (b : Bool) → unfinished bytes ≡ b → unfinished (cond b bytes []) ≡ true
    go true e = e
    go false e = none_unfinished

pub stage_proper : (reader : List ℕ) → Proper (stage_in reader)
unfolding stage_in
stage_proper reader = go (eqb (get_or reader ended_at 0) 0)
  where
    go : (b : Bool) → Proper (cond b (going (kept_in (take (get_or reader have_at 0) reader))) (ended (get_or reader number_at 0)))
    go true = in_proper (take (get_or reader have_at 0) reader)
    go false = tt

behind_proper : (kind : Kind) → Proper (behind kind)
behind_proper Word = none_unfinished
behind_proper Tag = none_unfinished
behind_proper Reset = none_unfinished
behind_proper Ced = none_unfinished
behind_proper Timing = none_unfinished
behind_proper Fresh = none_unfinished
behind_proper FreshRuled = none_unfinished
behind_proper Unknown = tt

after_proper : (s : Stage) (b : ℕ) → Proper (stage_after s b)
unfolding stage_after
after_proper (going kept) b = go (unfinished bytes) refl
  where
    bytes : List ℕ
    bytes = kept ++ (b ∷ [])

    go : (x : Bool) → unfinished bytes ≡ x → Proper (cond x (going bytes) (behind (kind_of (get_or bytes 0 0))))
    go true e = e
    go false e = behind_proper (kind_of (get_or bytes 0 0))
after_proper (ended k) b = tt

pub of_proper : (s : Stage) (l : List ℕ) → Proper s → Proper (stage_of s l)
unfolding stage_of
of_proper s [] p = p
of_proper s (b ∷ l) p = of_proper (stage_after s b) l (after_proper s b)

-- at most one unfinished item is kept: fewer bytes than it has
pub keeps_less : (reader kept : List ℕ) → stage_in reader ≡ going kept → length kept < 1 + body_length (kind_of (get_or kept 0 0))
keeps_less reader kept e =
    let p : Proper (going kept) = rw e at (stage_proper reader) in
    ltb-true (length kept) (1 + body_length (kind_of (get_or kept 0 0))) p

-- ---- the bytes of a state say where it stands
module _ (kept : List ℕ) (end number : ℕ) (short : length kept ≤ longest_item) where
  tail_at : (j : ℕ) → get_or (state_of kept end number) (longest_item + j) 0 ≡ get_or (length kept ∷ end ∷ number ∷ []) j 0
  tail_at j =
      let zeros : List ℕ = replicate (longest_item - length kept) 0 in
      let tail : List ℕ = length kept ∷ end ∷ number ∷ [] in
      let place : longest_item + j ≡ length kept + (length zeros + j) = rw (length-replicate {A = ℕ} (longest_item - length kept) 0) (omega arith) in
      rw place (get_or-append-add kept (zeros ++ tail) (length zeros + j) 0 ∙ get_or-append-add zeros tail j 0)

pub stage_back : (s : Stage) → Proper s → stage_in (reader_of s) ≡ s
unfolding stage_in reader_of
stage_back (going kept) p =
    let less = ltb-true (length kept) (1 + body_length (kind_of (get_or kept 0 0))) p in
    let fits : length kept ≤ longest_item = omega (arith, body_within (kind_of (get_or kept 0 0))) in
    let bytes : List ℕ = replicate (longest_item - length kept) 0 ++ (length kept ∷ 0 ∷ 0 ∷ []) in
    rw (tail_at kept 0 0 fits 1, tail_at kept 0 0 fits 0, take_at kept bytes (length kept) refl, p) refl
stage_back (ended k) p = refl

-- where a state says that the input has ended, and where it goes on
pub stage_ended_lem : (reader : List ℕ) → (get_or reader ended_at 0 ≡ 0 → ⊥) → stage_in reader ≡ ended (get_or reader number_at 0)
unfolding stage_in
stage_ended_lem reader h = rw (ne_eqb (get_or reader ended_at 0) 0 h) refl

pub stage_going :
    (reader : List ℕ) (have : ℕ) → get_or reader ended_at 0 ≡ 0 → take have reader ≡ kept_in (take (get_or reader have_at 0) reader)
    → stage_in reader ≡ going (take have reader)
unfolding stage_in
stage_going reader have h k = rw (eq-eqb (get_or reader ended_at 0) 0 h, k) refl

-- the number of where it stands, whatever it keeps
pub number_standing : (kept : List ℕ) (s : Stand) → number_at_stand s ≡ stage_number (standing kept s)
number_standing kept (Going have) = refl
number_standing kept (Ended k) = refl

-- ---- what `keep` writes, and what `kept_in` finds
pub kept_then :
    (reader : List ℕ) (have end number : ℕ) → length reader ≡ reader_bytes → have < longest_item
    → put_text reader have (replicate (longest_item - have) 0 ++ (have ∷ end ∷ number ∷ [])) ≡ state_of (take have reader) end number
unfolding put_text
kept_then reader have end number long h =
    let n : length (take have reader) ≡ have = length-take-le have reader (omega arith) in
    let t : List ℕ = replicate (longest_item - have) 0 ++ (have ∷ end ∷ number ∷ []) in
    let size : length t ≡ longest_item - have + 3 = simp (length-append, length-replicate) refl in
    rw (n, drop_of_length-le reader {i = have + length t} (omega (arith, size)), append-nil t) refl

module _ (reader : List ℕ) (have : ℕ) (long : length reader ≡ reader_bytes) where
  kept_byte : (k : ℕ) → have ≡ suc k → get_or (take have reader) 0 0 ≡ get_or reader 0 0
  kept_byte k e = get_or-take have reader 0 0 (omega arith)

  pub kept_few : have ≤ body_length (kind_of (get_or reader 0 0)) → take have reader ≡ kept_in (take have reader)
  kept_few h = go have refl h
    where
      go : (n : ℕ) → have ≡ n → n ≤ body_length (kind_of (get_or reader 0 0)) → take have reader ≡ kept_in (take have reader)
      go zero e g = rw (e, none_unfinished) refl
      go (suc k) e g =
          let n : length (take have reader) ≡ have = length-take-le have reader (omega (arith, body_within (kind_of (get_or reader 0 0)))) in
          rw (lt-ltb (length (take have reader)) (1 + body_length (kind_of (get_or (take have reader) 0 0))) (rw (n, kept_byte k e) (omega arith))) refl

  pub kept_none : body_length (kind_of (get_or reader 0 0)) < have → take 0 reader ≡ kept_in (take have reader)
  kept_none h = go have refl h
    where
      go : (n : ℕ) → have ≡ n → body_length (kind_of (get_or reader 0 0)) < n → take 0 reader ≡ kept_in (take have reader)
      go zero e g = absurd (omega arith)
      go (suc k) e g =
          rw (le-ltb (length (take have reader)) (1 + body_length (kind_of (get_or (take have reader) 0 0)))
          (rw (length-take have reader, kept_byte k e) (omega (arith, body_within (kind_of (get_or reader 0 0)))))) refl

-- a turn of the loop that clears what is not kept: the byte stays, or is one more zero
pub cleared_turn :
    (reader₀ reader : List ℕ) (have i : ℕ) → length reader₀ ≡ reader_bytes → have < longest_item → i < longest_item
    → reader ≡ put_text reader₀ have (replicate (i - have) 0)
    → set reader i (cond (ltb i have) (get_or reader i 0) 0) ≡ put_text reader₀ have (replicate (i + 1 - have) 0)
cleared_turn reader₀ reader have i long h below e = go (ltb i have) refl
  where
    zeros : List ℕ
    zeros = replicate (i - have) 0

    size : length zeros ≡ i - have
    size = length-replicate {A = ℕ} (i - have) 0

    go : (b : Bool) → ltb i have ≡ b → set reader i (cond b (get_or reader i 0) 0) ≡ put_text reader₀ have (replicate (i + 1 - have) 0)
    go true t =
        let less = ltb-true i have t in
        let none : i + 1 - have ≡ i - have = omega arith in
        set-get_or reader i 0 ∙ rw none e
    go false t =
        let past = ltb-false i have t in
        let one : i + 1 - have ≡ i - have + 1 = omega arith in
        let place : i ≡ have + length zeros = omega (arith, size) in
        let more : zeros ++ (0 ∷ []) ≡ replicate (i - have + 1) 0 = replicate-append-replicate (i - have) 1 0 in
        let fits : have + length zeros < length (put_text reader₀ have zeros) =
        rw (length_put_text reader₀ have zeros (omega (arith, size, long))) (omega (arith, size, long)) in
        ap (λ (l : List ℕ). set l i 0) e
        ∙ ap (λ (k : ℕ). set (put_text reader₀ have zeros) k 0) place
        ∙ put_text_one (put_text reader₀ have zeros) (have + length zeros) 0 fits
        ∙ put_text_then reader₀ have zeros (0 ∷ []) (omega (arith, size, long))
        ∙ rw (more, one) refl
