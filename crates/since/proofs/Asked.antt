-- Under rule 1 the time that asking hands out is the subframe of the newest of the record's words: the least age is that word's, and the
-- row's subframe less 30 s for each of it is the word's own. Assumes nothing.
use mathlib.Core.Bool.{Bool, true, false, not, ◌&&◌}
use mathlib.Core.List.{List, [], ◌∷◌}
use mathlib.Core.Path.{◌≡◌, refl, sym, ◌∙◌}
use Prim.Native.Nat.{ℕ, zero, suc, ◌+◌, ◌*◌, ◌<◌, ◌≤◌}
use native.Mathlib.Omega.{arith}
use native.Mathlib.Decide.{dec_lt}
use lib.Dec.{eqb}
use lib.IntN.{pos, neg_ℤ}
use lib.ListN.{length, get_or}
use borrow.Author.Tests.{eqb-true, eqb-false}
use Rattle.paper.specs.Number.{number, values}
use Rattle.paper.specs.Satellite.{is_satellite}
use Rattle.paper.specs.Time.{seconds_of}
use Rattle.paper.specs.Record.{Family, ages, ages_at, ages_of, oldest, least, count}
use Rattle.paper.specs.Room.{by_time, row_of, slots, week, time}
use Rattle.paper.specs.Store.{is_store}
use Rattle.paper.specs.Ask.{answering_row, answering_record, some_enough, age_unknown, time_before}
use Rattle.paper.specs.Answer.{ask_number, ask_answer}
use Rattle.paper.specs.Call.{ask_call, answer_to}
use Rattle.paper.proofs.Order.{unless_zero}
use Rattle.paper.proofs.Parts.{length_part}
use Rattle.paper.proofs.Seconds.{negated_less, subframes_seconds}
use Rattle.paper.proofs.StoreFacts.{store_facts}
use Rattle.paper.proofs.Views.{length_row_of, length_record}
use Rattle.stays.proofs.Stays.{number_answer}
use Rattle.history.specs.Line.{Place, at}
use Rattle.history.specs.Demand.{answering_place}
use Rattle.history.proofs.Asked.{answering_inside}
use Rattle.since.specs.Brought.{Origin, no_word, fed_as, AgeSays, AgesHold, StartsAt, NotLater, TimeHolds}

-- ---- the least of some ages
least_most : (l : List ℕ) (k : ℕ) → k < length l → least l ≤ get_or l k 0
unfolding least
least_most [] k h = omega arith
least_most (a ∷ l) zero h = omega arith
least_most (a ∷ l) (suc k) h = omega (arith, least_most l k (omega arith))

least_held : (l : List ℕ) → least l ≤ oldest
unfolding least
least_held [] = omega arith
least_held (a ∷ l) = omega (arith, least_held l)

-- below 255 it is one of them
record Least (l : List ℕ) : Type 0 where
  k : ℕ
  inside : k < length l
  is : get_or l k 0 ≡ least l

least_one : (l : List ℕ) → least l < oldest → Least l
unfolding least
least_one [] h = absurd (omega arith)
least_one (a ∷ l) h = go (dec_lt (least l) a) (λ g. least_one l g)
  where
    go : Dec (least l < a) → (least l < oldest → Least l) → Least (a ∷ l)
    go (yes g) rest = let t = rest (omega arith) in record { k = suc t.k; inside = omega (arith, t.inside); is = omega (arith, t.is) }
    go (no g) rest = record { k = 0; inside = omega arith; is = omega arith }

-- ---- one word
module _ (row : List ℕ) (n seconds : ℕ) (known : n < oldest) (is : seconds + n * 30 ≡ seconds_of (week row) (time row)) where
  starts_at : (age : ℕ) (x : Origin) → age ≡ n → AgeSays age row x → StartsAt seconds x
  starts_at age no_word e a = absurd (omega arith)
  starts_at age (fed_as w) e a = omega (arith, a.apart, a.says)

  not_later : (age : ℕ) (x : Origin) → n ≤ age → AgeSays age row x → NotLater seconds x
  not_later age no_word e a = tt
  not_later age (fed_as w) e a = omega (arith, a.apart, a.says)

-- ---- asking
module _ (now : List ℕ) (s : is_store now ≡ true) (ruled : by_time now ≡ true) (f : Family) (sat : ℕ) (e : number (answer_to (ask_call f sat) now) ≡ 0) where
  abbrev place : Place
  place = answering_place f sat now

  abbrev rec : List ℕ
  rec = answering_record f sat now

  abbrev row : List ℕ
  row = answering_row f sat now

  answered_0 : ask_number f sat now ≡ 0
  unfolding answer_to ask_answer
  answered_0 = sym (number_answer (ask_number f sat now) (count rec ∷ values (time_before f row rec))) ∙ e

  passed : (not (age_unknown f sat now) ≡ true) × (eqb (number (time_before f row rec)) 0 ≡ true)
  unfolding ask_number
  passed =
      let a = unless_zero (is_store now) 3 _ (omega arith) answered_0 in
      let b = unless_zero (is_satellite sat) 4 _ (omega arith) a.1 in
      let c = unless_zero (some_enough f sat now) 12 _ (omega arith) b.1 in
      let d = unless_zero (not (age_unknown f sat now)) 24 _ (omega arith) c.1 in
      (d.0, (unless_zero (eqb (number (time_before f row rec)) 0) 7 0 (omega arith) d.1).0)

  abbrev age : ℕ
  age = least (ages_of f rec)

  known : age < oldest
  unfolding age_unknown
  known = omega (arith, eqb-false age oldest (turn (eqb age oldest) (rw ruled at passed.0)), least_held (ages_of f rec))
    where
      turn : (b : Bool) → not (true && b) ≡ true → b ≡ false
      turn true p = sym p
      turn false p = refl

  abbrev seconds : ℕ
  seconds = seconds_of (get_or (values (answer_to (ask_call f sat) now)) 1 0) (get_or (values (answer_to (ask_call f sat) now)) 2 0)

  told : seconds + age * 30 ≡ seconds_of (week row) (time row)
  unfolding answer_to ask_answer time_before
  told =
      rw answered_0
      (subframes_seconds (week row) (time row) (neg_ℤ (pos age)) 0 age (negated_less age 0 age (omega arith)) (eqb-true _ 0 passed.1) ∙ omega arith)

  ages_long : length (ages_of f rec) ≡ ages f
  unfolding answering_record answering_row
  ages_long =
      let i = answering_inside f sat now e in
      length_part ages_at (ages f) (at now place)
      (omega (arith, length_record f (slots now) place.slot (row_of place.row now) (length_row_of now (store_facts now s) place.row i.row) i.slot))

pub time_holds : (now : List ℕ) (words : ℕ → Place → Origin) → is_store now ≡ true → AgesHold now words → TimeHolds now words
unfolding answering_record answering_row
time_holds now words s dated ruled f sat e =
    let p : Place = answering_place f sat now in
    let row : List ℕ = row_of p.row now in
    let l : List ℕ = ages_of f (at now p) in
    let sure : least l < oldest = known now s ruled f sat e in
    let long : length l ≡ ages f = ages_long now s ruled f sat e in
    let is = told now s ruled f sat e in
    let says = dated ruled p (answering_inside f sat now e) in
    let t = least_one l sure in
    let one : t.k < ages f = omega (arith, t.inside) in
    record {
      k = t.k;
      one = one;
      came = starts_at row (least l) _ sure is (get_or l t.k 0) (words t.k p) t.is (says t.k one);
      others = λ j h. not_later row (least l) _ sure is (get_or l j 0) (words j p) (least_most l j (omega arith)) (says j h);
    }
