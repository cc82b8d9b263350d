-- What reading numbers answers, from what asking answered and what its data passed; and where the data lies. Assumes nothing.
use mathlib.Core.Bool.{Bool, true, false, cond}
use mathlib.Core.List.{List, [], ◌∷◌}
use mathlib.Core.Path.{◌≡◌, refl, sym, ap, subst, ◌∙◌}
use native.Mathlib.Omega.{arith}
use Prim.Native.Nat.{ℕ, zero, suc, ◌+◌, ◌≤◌}
use Rattle.std.specs.Prelude.{Result, Ok, Err}
use lib.Dec.{eqb, eqb-suc-zero}
use lib.ListN.{length}
use Rattle.paper.specs.Number.{Answer, done, refused, values, answer, unless}
use Rattle.paper.specs.Parts.{part}
use Rattle.paper.specs.Record.{Family, CED, family_if, size, data_at, data_bytes}
use Rattle.paper.specs.Answer.{ask_number, ask_answer, ask_data}
use Rattle.paper.specs.Orbit.{one_issue, svid_of, numbers_tests, numbers_number, numbers_answer, numbers_data}
use Rattle.refusals.proofs.Answers.{done_number, refused_part}
use Rattle.refusals.specs.Reply.{refusal_number}
use Rattle.ask.specs.Answered.{answered_answer, place_answered, ask_place}
use Rattle.ask.proofs.Tells.{AnswerThere, answer_there}
use Rattle.ask.specs.declared.Answering.{Answering}
use Rattle.refusals.specs.declared.Refusal.{Refusal}
use Rattle.orbit.specs.Got.{placed_answer, place_placed, numbers_place, PlacedWithin, part_placed}

-- ---- the tests of CED data
module _ (sat : ℕ) (bytes : List ℕ) where
  pub tests_21 : one_issue bytes ≡ false → numbers_tests CED sat bytes ≡ 21
  unfolding numbers_tests
  tests_21 e = rw e

  pub tests_22 : one_issue bytes ≡ true → eqb (svid_of bytes) sat ≡ false → numbers_tests CED sat bytes ≡ 22
  unfolding numbers_tests
  tests_22 e g = rw (e, g)

  pub tests_0 : one_issue bytes ≡ true → eqb (svid_of bytes) sat ≡ true → numbers_tests CED sat bytes ≡ 0
  unfolding numbers_tests
  tests_0 e g = rw (e, g)

module _ (f : Family) (sat : ℕ) (room : List ℕ) where
  -- the answer and the place
  abbrev pub Answers : Answer → ℕ → Type 0
  Answers a place = (a ≡ numbers_answer f sat room) × (place ≡ numbers_place f sat room)

  -- asking was answered 0
  module _ (v : List ℕ) (e : done v ≡ ask_answer f sat room) where
    asked : ask_number f sat room ≡ 0
    unfolding ask_answer
    asked = done_number (ask_number f sat room) _ v e

    number_is : numbers_number f sat room ≡ numbers_tests f sat (ask_data f sat room)
    unfolding numbers_number
    number_is = rw asked

    pub passes : (place : ℕ) → place ≡ ask_place f sat room → numbers_tests f sat (ask_data f sat room) ≡ 0 → Answers (done v) place
    unfolding numbers_answer numbers_place
    passes place p t = (rw (number_is, t) (ap (λ (a : Answer). done (values a)) e), rw (number_is, t) p)

    pub fails : (k : ℕ) → numbers_tests f sat (ask_data f sat room) ≡ suc k → Answers (refused (suc k)) 0
    unfolding numbers_answer numbers_place
    fails k t = (rw (number_is, t), rw (number_is, t, eqb-suc-zero k))

  -- asking was refused
  pub refuses_numbers : (k : ℕ) → refused k ≡ ask_answer f sat room → Answers (refused k) 0
  unfolding ask_answer numbers_answer numbers_number numbers_place
  refuses_numbers k e = go (ask_number f sat room) _ _ _ _ e
    where
      go : (n : ℕ) (v w : List ℕ) (t p : ℕ) → refused k ≡ answer n v
          → (refused k ≡ answer (unless (eqb n 0) n t) w) × (0 ≡ cond (eqb (unless (eqb n 0) n t) 0) p 0)
      go zero v w t p q = absurd (let z : ◌≡◌ {A = ℕ} 0 1 = cc in omega arith)
      go (suc n) v w t p q = rw (eqb-suc-zero n, eqb-suc-zero n) (q, refl)

  -- beside a refusal nothing is read
  pub no_numbers : (k : ℕ) → refused k ≡ numbers_answer f sat room → [] ≡ numbers_data f sat room
  unfolding numbers_answer numbers_data
  no_numbers k e = refused_part k (numbers_number f sat room) _ _ e

  -- asking was answered 0 where this is
  passed_zero : numbers_number f sat room ≡ 0 → ask_number f sat room ≡ 0
  unfolding numbers_number
  passed_zero e = go (ask_number f sat room) _ e
    where
      go : (n t : ℕ) → unless (eqb n 0) n t ≡ 0 → n ≡ 0
      go zero t q = refl
      go (suc n) t q = sym (rw (eqb-suc-zero n)) ∙ q

  -- what a caller learns of the place: the record lies in the room, and its data is what is read
  pub record NumbersThere (place : ℕ) : Type 0 where
    pub inside : place + size f ≤ length room
    pub bytes : part (place + data_at f) (data_bytes f) room ≡ numbers_data f sat room

  module _ (v : List ℕ) (place : ℕ) (e : done v ≡ numbers_answer f sat room) (p : place ≡ numbers_place f sat room) where
    number_0 : numbers_number f sat room ≡ 0
    unfolding numbers_answer
    number_0 = done_number (numbers_number f sat room) _ v e

    ask_0 : ask_number f sat room ≡ 0
    ask_0 = passed_zero number_0

    answered : done (values (ask_answer f sat room)) ≡ ask_answer f sat room
    unfolding ask_answer
    answered = rw ask_0

    at_place : place ≡ ask_place f sat room
    unfolding numbers_place
    at_place = p ∙ rw number_0

    pub numbers_there : NumbersThere place
    unfolding numbers_data
    numbers_there =
        let there = answer_there f sat room (values (ask_answer f sat room)) place answered at_place in
        record { inside = there.inside; bytes = there.bytes ∙ rw number_0 }

-- ---- what came back says the answer and the place of the record, or the answer of the refusal
module _ {r : Result Answering Refusal} {a : Answer} {n : ℕ} where
  pub record_told : {x : Answering} → r ≡ Ok x → (answered_answer r ≡ a) × (place_answered r ≡ n)
      → (done (x.authbits ∷ x.gst.wn.0 ∷ x.gst.tow.0 ∷ []) ≡ a) × (x.at ≡ n)
  record_told was told = (ap answered_answer (sym was) ∙ told.0, ap place_answered (sym was) ∙ told.1)

  pub refusal_told : {why : Refusal} → r ≡ Err why → (answered_answer r ≡ a) × (place_answered r ≡ n) → refused (refusal_number why) ≡ a
  refusal_told was told = ap answered_answer (sym was) ∙ told.0

-- ---- asking for CED was answered 0, and its data is looked into
module _ {t : Bool} (isCED : t ≡ false) (sat : ℕ) (room : List ℕ) {v : List ℕ} {place : ℕ}
    (told : (done v ≡ ask_answer (family_if t) sat room) × (place ≡ ask_place (family_if t) sat room)) where
  ced_there : AnswerThere CED sat room place
  ced_there = answer_there CED sat room v place (subst OnFamily isCED told.0) (subst AtPlace isCED told.1)
    where
      OnFamily : Bool → Type 0
      OnFamily b = done v ≡ ask_answer (family_if b) sat room

      AtPlace : Bool → Type 0
      AtPlace b = place ≡ ask_place (family_if b) sat room

  pub ced_inside : place + size CED ≤ length room
  ced_inside = ced_there.inside

  module _ {d : List ℕ} (is : d ≡ part (place + data_at CED) (data_bytes CED) room) where
    tests_are : numbers_tests (family_if t) sat (ask_data (family_if t) sat room) ≡ numbers_tests CED sat d
    tests_are =
        ap (λ (b : Bool). numbers_tests (family_if b) sat (ask_data (family_if b) sat room)) isCED
        ∙ ap (numbers_tests CED sat) (sym (is ∙ ced_there.bytes))

    pub ced_passes : numbers_tests CED sat d ≡ 0 → Answers (family_if t) sat room (done v) place
    ced_passes q = passes (family_if t) sat room v told.0 place told.1 (tests_are ∙ q)

    pub ced_fails : (k : ℕ) → numbers_tests CED sat d ≡ suc k → Answers (family_if t) sat room (refused (suc k)) 0
    ced_fails k q = fails (family_if t) sat room v told.0 k (tests_are ∙ q)

-- ---- the place, as it is answered
module _ (f : Family) (sat : ℕ) (room : List ℕ) where
  pub placed_there : (r : Result Answering Refusal) → placed_answer r ≡ numbers_answer f sat room → place_placed r ≡ numbers_place f sat room
      → PlacedWithin f r (length room) × (part_placed f r room ≡ numbers_data f sat room)
  placed_there (Ok a) e p = let there = numbers_there f sat room _ a.at e p in (there.inside, there.bytes)
  placed_there (Err why) e p = (tt, no_numbers f sat room _ e)

  -- where the numbers are handed out, the count, the time and the data are those of asking
  pub as_asked : numbers_number f sat room ≡ 0
      → (ask_number f sat room ≡ 0) × (numbers_answer f sat room ≡ ask_answer f sat room) × (numbers_data f sat room ≡ ask_data f sat room)
  unfolding numbers_answer numbers_data ask_answer
  as_asked e = let a = passed_zero f sat room e in (a, rw (e, a), rw e)
