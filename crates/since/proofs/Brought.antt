-- What the words that were brought say of a room: of its bits and ages, after a fresh call and any calls; and where bits and ages hold, of
-- a candidate, since each of its ages is below its COP, and of a tag that is answered 0. Assumes nothing.
use mathlib.Core.Bool.{true, false, ◌&&◌, false≢true}
use mathlib.Core.List.{List, [], ◌∷◌}
use mathlib.Core.Path.{◌≡◌, refl, sym, ap, ◌∙◌}
use Prim.Native.Nat.{ℕ, zero, suc, ◌+◌, ◌-◌, ◌<◌, ◌≤◌}
use native.Mathlib.Omega.{arith}
use borrow.Author.Tests.{eqb-true, eq-eqb, leb-true, ltb-true}
use lib.Dec.{eqb, ltb}
use lib.IntN.{pos, neg_ℤ}
use lib.ListN.{get_or}
use Rattle.paper.specs.Number.{number, values}
use Rattle.paper.specs.Bits.{bit_at}
use Rattle.paper.specs.Time.{seconds_of}
use Rattle.paper.specs.Record.{Family, record_bits, satellite, ages_of, data_of, greatest, older}
use Rattle.paper.specs.Room.{depth, slots, row_of, marked, is_at, week, time}
use Rattle.paper.specs.Word.{Owned, nothing, owns, type_of}
use Rattle.paper.specs.Tag.{family_of, thirty_before, first_row, candidate_row, candidate_slot, candidate_record, fits_cop, has_candidate}
use Rattle.paper.specs.Call.{tag_call, fresh_call, answer_to, room_after, run}
use Rattle.paper.proofs.First.{first_holds}
use Rattle.paper.proofs.Same.{same_bit}
use Rattle.paper.proofs.Seconds.{negated_less, sum_seconds}
use Rattle.paper.proofs.StoreFacts.{both_true}
use Rattle.stays.proofs.Rooms.{candidate_satellite}
use Rattle.stays.proofs.Stays.{run_stays}
use Rattle.history.specs.Line.{Place, Inside, at, succeeds}
use Rattle.history.proofs.Calls.{Accepted, Passed, tag_passed, tag_accepted_lem}
use Rattle.since.specs.Brought.{Fed, Origin, no_word, fed_as, owned_by, owns_age, StandIn, age_of, MadeOf, BitsHold, AgeSays, AgesHold, AfterFresh}
use Rattle.since.specs.Brought.{FedWithin, candidate_place, CopHolds, BitFed, TagHolds}
use Rattle.since.proofs.Shares.{share_at, IsShare, owned_share, InShare, in_some_share}
use Rattle.since.proofs.Along.{stands_along, stands_after_fresh}

-- ---- after a fresh call
pub bits_hold : AfterFresh BitsHold
unfolding run
bits_hold room d n rule made calls place i k h =
    (stands_along false k (room_after (fresh_call d n rule) room) (run_stays d n rule room made []) (λ _. no_word)
    (stands_after_fresh false k room d n rule made) calls tt place i h).made

pub ages_hold : AfterFresh AgesHold
unfolding run
ages_hold room d n rule made calls ruled place i k h =
    (stands_along true k (room_after (fresh_call d n rule) room) (run_stays d n rule room made []) (λ _. no_word)
    (stands_after_fresh true k room d n rule made) calls ruled place i h).age

-- ---- a candidate
at_most_greatest : (l : List ℕ) (k : ℕ) → get_or l k 0 ≤ greatest l
unfolding greatest
at_most_greatest [] k = omega arith
at_most_greatest (a ∷ l) zero = omega arith
at_most_greatest (a ∷ l) (suc k) = omega (arith, at_most_greatest l k)

module _ (f : Family) (sat cop w t : ℕ) (now : List ℕ) (found : has_candidate f sat cop w t now ≡ true) where
  abbrev place : Place
  place = candidate_place f sat w t now

  abbrev row : List ℕ
  row = row_of (candidate_row w t now) now

  tests : (ltb (candidate_row w t now) (depth now) && ltb (candidate_slot f sat w t now) (slots now) ≡ true) × (fits_cop f cop (candidate_record f sat w t now) ≡ true)
  unfolding has_candidate
  tests = both_true (ltb (candidate_row w t now) (depth now) && ltb (candidate_slot f sat w t now) (slots now)) _ found

  candidate_inside : Inside now place
  candidate_inside =
      let b = both_true (ltb (candidate_row w t now) (depth now)) (ltb (candidate_slot f sat w t now) (slots now)) tests.0 in
      record { row = ltb-true _ _ b.0; slot = ltb-true _ _ b.1 }

  candidate_its : satellite (at now place) ≡ sat
  unfolding candidate_record
  candidate_its = candidate_satellite f sat cop w t now found

  young : cop ≤ 15 → (k : ℕ) → age_of k f (at now place) < cop
  unfolding candidate_record fits_cop
  young small k =
      let fits : older 1 (greatest (ages_of f (at now place))) ≤ cop = leb-true _ cop tests.1 in
      omega (arith, at_most_greatest (ages_of f (at now place)) k)

  -- its row is that of the subframe before the MACK
  row_seconds : number (thirty_before w t) ≡ 0 → seconds_of (week row) (time row) + 30 ≡ seconds_of w t
  unfolding candidate_row first_row thirty_before
  row_seconds e =
      let before : List ℕ = values (thirty_before w t) in
      let holds = first_holds (λ (r : ℕ). marked (row_of r now) && is_at (get_or before 0 0) (get_or before 1 0) (row_of r now)) (depth now) candidate_inside.row in
      let p = both_true (marked row) (is_at (get_or before 0 0) (get_or before 1 0) row) holds in
      let q = both_true (eqb (week row) (get_or before 0 0)) (eqb (time row) (get_or before 1 0)) p.1 in
      let sum = sum_seconds w t (neg_ℤ (pos 30)) 0 30 (negated_less 30 0 30 refl) e in
      rw (eqb-true (week row) (get_or before 0 0) q.0, eqb-true (time row) (get_or before 1 0) q.1) (sum ∙ omega arith)

-- an age below the COP, and what it says of its word
in_time : (cop mack age : ℕ) (row : List ℕ) (x : Origin) → cop ≤ 15 → age < cop → seconds_of (week row) (time row) + 30 ≡ mack → AgeSays age row x
    → (k : ℕ) (f : Family) (rec : List ℕ) (sat : ℕ) → satellite rec ≡ sat → MadeOf k f rec x → FedWithin k f rec sat cop mack x
in_time cop mack age row no_word small young is says k f rec sat its made = absurd (omega arith)
in_time cop mack age row (fed_as v) small young is says k f rec sat its made =
    record {
      word = v;
      came = refl;
      holds = made;
      its = sym made.same ∙ its;
      within = record { not_before = omega (arith, says.apart, says.says); before = omega (arith, says.apart) };
    }

module _ (now : List ℕ) (words : ℕ → Place → Origin) (bits : BitsHold now words) (dated : AgesHold now words) where
  pub cop_holds : CopHolds now words
  cop_holds ruled f sat cop w t allowed before found k h =
      let place : Place = candidate_place f sat w t now in
      let small : cop ≤ 15 = leb-true cop 15 allowed in
      let inside : Inside now place = candidate_inside f sat cop w t now found in
      in_time cop (seconds_of w t) (age_of k f (at now place)) (row_of place.row now) (words k place) small (young f sat cop w t now found small k)
      (row_seconds f sat cop w t now found before) (dated ruled place inside k h) k f (at now place) sat (candidate_its f sat cop w t now found) (bits place inside k h)

-- ---- a tag
record OneBit (bytes w : List ℕ) (i : ℕ) : Type 0 where
  at : ℕ
  is : bit_at bytes i ≡ bit_at w at

-- each bit of a share is one of the word that owns it
share_bit : (f : Family) (k i : ℕ) (o : Owned) (bytes w : List ℕ) → IsShare f o → owns_age k o ≡ true → StandIn bytes o w
    → share_at f k ≤ i → i < share_at f (suc k) → OneBit bytes w i
share_bit f k i nothing bytes w p y st a b = absurd (false≢true y)
share_bit f k i (owns to from n age) bytes w p y st a b =
    let mine : age ≡ k = eqb-true age k y in
    let starts : to ≡ share_at f k = p.0 ∙ ap (share_at f) mine in
    let ends : to + n ≡ share_at f (suc k) = p.1 ∙ ap (λ (j : ℕ). share_at f (suc j)) mine in
    let there : to + (i - to) ≡ i = omega arith in
    record { at = from + (i - to); is = ap (bit_at bytes) (sym there) ∙ st (i - to) (omega arith) }

module _ (now : List ℕ) (words : ℕ → Place → Origin) (cops : CopHolds now words) where
  pub tag_holds : TagHolds now words
  unfolding candidate_record
  tag_holds ruled sat kind cop l status w t given verdict e =
      record { agrees = accepted.bits; fed = fed }
    where
      f : Family
      f = family_of kind

      place : Place
      place = candidate_place f sat w t now

      done : succeeds (tag_call sat kind cop l status w t given verdict) now ≡ true
      done = eq-eqb (number (answer_to (tag_call sat kind cop l status w t given verdict) now)) 0 e

      accepted : Accepted f sat given verdict (at now place)
      accepted = tag_accepted_lem sat kind cop l status w t given verdict now done

      passed : Passed f sat cop w t now
      passed = tag_passed sat kind cop l status w t given verdict now done

      bytes : List ℕ
      bytes = data_of f (at now place)

      fed : (i : ℕ) → i < record_bits f → BitFed (λ k. words k place) sat cop (seconds_of w t) (bit_at given i)
      fed i h =
          let p : InShare f i = in_some_share f i h in
          let x : FedWithin p.k f (at now place) sat cop (seconds_of w t) (words p.k place) =
          cops ruled f sat cop w t passed.allowed passed.before passed.found p.k p.one in
          let v : Fed = x.word in
          let b : OneBit bytes v.bytes i =
          share_bit f p.k i (owned_by f v) bytes v.bytes (owned_share f (type_of v.bytes) v.band) x.holds.owner x.holds.bits p.from p.to in
          record {
            k = p.k;
            word = v;
            came = x.came;
            its = x.its;
            within = x.within;
            place = b.at;
            is = same_bit f given bytes accepted.bits i h ∙ b.is;
          }
