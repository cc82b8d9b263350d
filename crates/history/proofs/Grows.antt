-- What one step of a line leaves: the count that its tags earned, by what a call does to the record, and by what an accepted tag adds. Assumes nothing.
use mathlib.Core.Bool.{Bool, true, false, cond, not, ◌&&◌}
use mathlib.Core.List.{List, [], ◌∷◌, ◌++◌}
use mathlib.Core.Path.{◌≡◌, refl, sym, ◌∙◌}
use Prim.Native.Nat.{ℕ, ◌+◌, ◌≤◌, min}
use native.Mathlib.Omega.{arith}
use lib.Dec.{eqb}
use Rattle.paper.specs.Time.{start_of}
use Rattle.paper.specs.Record.{Family, satellite, count, data_of, in_bits, most_count, same_family}
use Rattle.paper.specs.Room.{current, row_of, record_of}
use Rattle.paper.specs.Store.{is_store}
use Rattle.paper.specs.Feed.{moves, fed}
use Rattle.paper.specs.Call.{Call, feed_call, room_after}
use Rattle.paper.proofs.WordViews.{row_ahead}
use Rattle.paper.proofs.StoreFacts.{both_true}
use Rattle.history.specs.Line.{Place, Inside, at, succeeds, fills, past, same, Tag, total}
use Rattle.history.specs.Demand.{EachFor, Earned}
use Rattle.paper.proofs.Same.{bits_true, true_bits}
use Rattle.history.proofs.Agree.{same_true, true_same}
use Rattle.history.proofs.Records.{Kept, alike_kept}
use Rattle.history.proofs.Calls.{feed_after, fed_at, fed_inside, Tagged}
use Rattle.history.proofs.Calls.{one_family, Accepted}

-- ---- lists of tags
total_append : (a b : List Tag) → total (a ++ b) ≡ total a + total b
unfolding total
total_append [] b = omega arith
total_append (tag ∷ rest) b = omega (arith, total_append rest b)

each_append : (f : Family) (sat : ℕ) (bytes : List ℕ) (a b : List Tag) → EachFor f sat bytes a → EachFor f sat bytes b → EachFor f sat bytes (a ++ b)
each_append f sat bytes [] b x y = y
each_append f sat bytes (tag ∷ rest) b x y = (x.0, each_append f sat bytes rest b x.1 y)

-- what was accepted for a satellite and data was accepted for data of the same bits
each_same : (f : Family) (sat sat' : ℕ) (bytes bytes' : List ℕ) (tags : List Tag) → sat ≡ sat' → in_bits f bytes ≡ in_bits f bytes'
    → EachFor f sat bytes tags → EachFor f sat' bytes' tags
each_same f sat sat' bytes bytes' [] s b e = tt
each_same f sat sat' bytes bytes' (tag ∷ rest) s b e = (
  record {
    accepted = e.0.accepted;
    satellite = e.0.satellite ∙ s;
    bits = true_bits f tag.given bytes' (bits_true f tag.given bytes e.0.bits ∙ b);
    whole = e.0.whole;
  },
  each_same f sat sat' bytes bytes' rest s b e.1,
)

-- ---- one step of a line
-- the record x became y, by a call that broke the line or that was these new tags
abbrev pub Step : Family → List ℕ → List ℕ → Bool → List Tag → Type 0
Step f x y break new = count x ≤ most_count → count y ≡ cond break 0 (min most_count (count x + total new))

pub kept_step : (f : Family) (x y : List ℕ) → Kept f x y → Step f x y (not (same f y x)) []
unfolding total
kept_step f x y k h = go (same f y x) k
  where
    go : (b : Bool) → count y ≡ cond b (count x) 0 → count y ≡ cond (not b) 0 (min most_count (count x + 0))
    go true e = omega arith
    go false e = e

pub no_count : (f : Family) (rec : List ℕ) → count rec ≡ 0 → Earned f rec []
unfolding total
no_count f rec e = record { counts = e; each = tt }

pub grown : (f : Family) (x y : List ℕ) (new before : List Tag) (break : Bool) → Step f x y break new → (break ≡ false → same f y x ≡ true)
    → EachFor f (satellite x) (data_of f x) new → Earned f x before → Earned f y (cond break [] (new ++ before))
grown f x y new before true step unbroken e earned = no_count f y (step (omega (arith, earned.counts)))
grown f x y new before false step unbroken e earned =
    let sum : count y ≡ min most_count (count x + total new) = step (omega (arith, earned.counts)) in
    let was : count x ≡ min most_count (total before) = earned.counts in
    let agree = same_true f y x (unbroken refl) in
    record {
      counts = omega (arith, total_append new before);
      each =
          each_same f (satellite x) (satellite y) (data_of f x) (data_of f y) (new ++ before) (sym agree.0) (sym agree.1)
          (each_append f (satellite x) (data_of f x) new before e earned.each);
    }

-- ---- an accepted tag on a line
pub tag_step : (f : Family) (x y : List ℕ) (tag : Tag) (here : Bool) → Tagged f tag.length here x y → Step f x y (not (same f y x)) (cond here (tag ∷ []) [])
unfolding total
tag_step f x y tag true T h = rw (true_same f y x T.satellites T.datas) (omega (arith, T.sum))
tag_step f x y tag false T h = rw (true_same f y x T.satellites T.datas) (omega (arith, T.sum))

module _ (g f : Family) (sat l : ℕ) (given : List ℕ) (verdict : Bool) (candidate rec : List ℕ) (A : Accepted g sat given verdict candidate) where
  abbrev pub the_tag : Tag
  the_tag = record { satellite = sat; given = given; verdict = verdict; length = l }

  pub tag_each : (here : Bool) → same_family g f && same f rec candidate ≡ here → EachFor f (satellite rec) (data_of f rec) (cond here (the_tag ∷ []) [])
  tag_each false e = tt
  tag_each true e =
      let p = both_true (same_family g f) (same f rec candidate) e in
      let one = one_family g f p.0 in
      let agree = same_true f rec candidate p.1 in (
        record {
          accepted = A.yes;
          satellite = sym (agree.0 ∙ A.satellites);
          bits = true_bits f given (data_of f rec) (bits_true f given (data_of f candidate) (rw one at A.bits) ∙ sym agree.1);
          whole = rw one at A.whole;
        },
        tt,
      )

-- ---- a word on a line
module _ (room : List ℕ) (s : is_store room ≡ true) (word : List ℕ) (sat w t band : ℕ) (place : Place) where
  abbrev pub the_feed : Call
  the_feed = feed_call word sat w t band

  pub feed_inside : Inside (room_after the_feed room) place → Inside room place
  feed_inside i = go (succeeds the_feed room) (rw (feed_after word sat w t band room) at i)
    where
      go : (b : Bool) → Inside (cond b (fed w (start_of t) sat band word room) room) place → Inside room place
      go true j = fed_inside w (start_of t) sat band word room s place j
      go false j = j

  pub feed_kept : Inside room place → Kept place.family (at room (past the_feed room place)) (at (room_after the_feed room) place)
  unfolding fills
  feed_kept i = rw (feed_after word sat w t band room) (go (succeeds the_feed room))
    where
      go : (b : Bool)
          → Kept place.family
          (record_of place.family place.slot
          (row_of (cond (b && moves w (start_of t) room && eqb place.row (row_ahead room)) (current room) place.row) room))
          (at (cond b (fed w (start_of t) sat band word room) room) place)
      go true = fed_at w (start_of t) sat band word room s place.family place.slot i.slot place.row
      go false = alike_kept place.family (at room place) (at room place) (record { satellites = refl; counts = refl; datas = refl })
