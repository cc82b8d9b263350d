-- What is asked of a covered room, as bytes or as numbers, is of the record that answers and was earned: of the running code, in Rattle and
-- for C. Assumes nothing.
use native.Mathlib.Omega.{arith}
use mathlib.Core.Bool.{true}
use mathlib.Core.List.{List}
use mathlib.Core.Path.{◌≡◌, sym, ap, subst, ◌∙◌}
use Prim.Native.Nat.{ℕ, ◌≤◌}
use lib.ListN.{length, take, get_or}
use lib.Seq.{length-take-le}
use Rattle.paper.specs.Number.{Answer, number, values}
use Rattle.paper.specs.Record.{Family, CED, Timing}
use Rattle.paper.specs.Room.{room_size, depth, slots, depth_at, slots_at}
use Rattle.paper.specs.Store.{is_store}
use Rattle.paper.specs.Answer.{ask_number, ask_answer, ask_data}
use Rattle.paper.specs.Orbit.{numbers_number, numbers_answer, numbers_data}
use Rattle.paper.specs.Call.{ask_call, answer_to, part_to}
use Rattle.paper.proofs.Order.{unless_zero}
use Rattle.paper.proofs.Shorter.{shorter_get_d}
use Rattle.paper.proofs.StoreFacts.{store_facts}
use Rattle.stays.proofs.Stays.{number_answer}
use Rattle.stays.proofs.Slices.{same_answer, same_part}
use Rattle.history.proofs.Steps.{ask_step}
use Rattle.history.proofs.Demand.{asked_behind}
use Rattle.orbit.specs.Numbers.{orbit_from, timing_from}
use Rattle.orbit.proofs.Places.{as_asked}
use Rattle.ffi_orbit.specs.Handed.{orbit_in, timing_in}
use Rattle.promises.specs.Outcomes.{HandedOut, OneAsking, ced_asking, timing_asking, c_ced_asking, c_timing_asking, asked_by}
use Rattle.promises.specs.Outcomes.{orbit_asking, c_orbit_asking, orbit_by, numbers_asking, c_numbers_asking, numbers_by}
use Rattle.promises.specs.Covered.{Covered, tags_of}
use Rattle.promises.specs.Statements.{AskedOn, EarnedBy, AskedOfTheCode, NumbersEarned, OrbitOfTheCode, TimingOfTheCode}
use Rattle.promises.proofs.Ran.{demand_3_of_the_code}

-- ---- asking that is answered 0 on the first k bytes of a room is answered so on the whole
module _ (f : Family) (sat : ℕ) (room : List ℕ) (k : ℕ) (inside : k ≤ length room) (e : ask_number f sat (take k room) ≡ 0) where
  a_store : is_store (take k room) ≡ true
  unfolding ask_number
  a_store = (unless_zero (is_store (take k room)) 3 _ (omega arith) e).0

  holds : room_size (depth room) (slots room) ≤ k
  holds =
      let F = store_facts (take k room) a_store in
      let long = length-take-le k room inside in
      let d = shorter_get_d k room depth_at (omega (arith, F.long)) in
      let n = shorter_get_d k room slots_at (omega (arith, F.long)) in
      let fits : room_size (depth room) (slots room) ≤ length (take k room) = rw (d, n) at F.fits in
      omega arith

  whole_answer_lem : ask_answer f sat (take k room) ≡ answer_to (ask_call f sat) room
  whole_answer_lem = sym (ask_step f sat (take k room)).0 ∙ same_answer k room inside (ask_call f sat) holds

  whole_slice : ask_data f sat (take k room) ≡ part_to (ask_call f sat) room
  whole_slice = sym (ask_step f sat (take k room)).1 ∙ same_part k room inside (ask_call f sat) holds

-- ---- whatever hands out the number, the count and the data of asking
abbrev first_of : Answer → ℕ
first_of a = get_or (values a) 0 0

module _ {A : Type 0} (now : List ℕ) (covered : Covered now) (out : HandedOut A) (answered : AskedOn now out) (bytes : List ℕ)
    (n : out.number ≡ number (ask_answer out.family out.sat out.lent))
    (c : out.counted ≡ first_of (ask_answer out.family out.sat out.lent))
    (b : bytes ≡ ask_data out.family out.sat out.lent) where
  abbrev f : Family
  f = out.family

  abbrev sat : ℕ
  sat = out.sat

  abbrev k : ℕ
  k = answered.bytes

  number_0 : ask_number f sat (take k now) ≡ 0
  unfolding ask_answer
  number_0 =
      subst (λ (x : List ℕ). ask_number f sat x ≡ 0) answered.lent (sym (number_answer (ask_number f sat out.lent) _) ∙ sym n ∙ answered.done)

  said : ask_answer f sat out.lent ≡ answer_to (ask_call f sat) now
  said = ap (ask_answer f sat) answered.lent ∙ whole_answer_lem f sat now k answered.inside number_0

  pub asked_earned : EarnedBy covered out bytes
  asked_earned =
      asked_behind now (tags_of covered) (demand_3_of_the_code now covered) f sat (ap number (sym said) ∙ sym n ∙ answered.done) out.counted bytes
      (c ∙ ap first_of said)
      (b ∙ ap (ask_data f sat) answered.lent ∙ whole_slice f sat now k answered.inside number_0)

-- the data shown of one room for one satellite
shown_data : (f : Family) {room shownRoom : List ℕ} {sat shownSat : ℕ} → OneAsking room shownRoom sat shownSat
    → ask_data f shownSat shownRoom ≡ ask_data f sat room
shown_data f one = rw (one.rooms, one.satellites)

pub asked_of_the_code : AskedOfTheCode
asked_of_the_code now covered (ced_asking a) e =
    let q = a.count.permitted in
    asked_earned now covered (asked_by (ced_asking a)) e a.shown.answer.now (ap number q) (ap first_of q)
    (a.shown.permitted ∙ shown_data CED a.one)
asked_of_the_code now covered (timing_asking a) e =
    let q = a.count.permitted in
    asked_earned now covered (asked_by (timing_asking a)) e a.shown.answer.now (ap number q) (ap first_of q)
    (a.shown.permitted ∙ shown_data Timing a.one)
asked_of_the_code now covered (c_ced_asking o) e =
    let q = o.permitted.0 in
    asked_earned now covered (asked_by (c_ced_asking o)) e (asked_by (c_ced_asking o)).given (ap (λ x. x.number) q) (ap (λ x. x.authbits) q) o.permitted.1
asked_of_the_code now covered (c_timing_asking o) e =
    let q = o.permitted.0 in
    asked_earned now covered (asked_by (c_timing_asking o)) e (asked_by (c_timing_asking o)).given (ap (λ x. x.number) q) (ap (λ x. x.authbits) q) o.permitted.1

-- ---- numbers are read of what asking hands out
module _ {A : Type 0} (From : List ℕ → A) (now : List ℕ) (covered : Covered now) (out : HandedOut A) (answered : AskedOn now out)
    (n : out.number ≡ number (numbers_answer out.family out.sat out.lent))
    (c : out.counted ≡ first_of (numbers_answer out.family out.sat out.lent))
    (b : out.given ≡ From (numbers_data out.family out.sat out.lent)) where
  numbers_0 : numbers_number out.family out.sat out.lent ≡ 0
  unfolding numbers_answer
  numbers_0 = sym (number_answer (numbers_number out.family out.sat out.lent) _) ∙ sym n ∙ answered.done

  numbers_earned : NumbersEarned From covered out
  numbers_earned =
      let a = as_asked out.family out.sat out.lent numbers_0 in
      record {
        bytes = numbers_data out.family out.sat out.lent;
        read = b;
        earned = asked_earned now covered out answered _ (n ∙ ap number a.1) (c ∙ ap first_of a.1) a.2;
      }

pub orbit_of_the_code : OrbitOfTheCode
orbit_of_the_code now covered (orbit_asking o) e =
    let q = o.permitted.0 in
    numbers_earned orbit_from now covered (orbit_by (orbit_asking o)) e (ap number q) (ap first_of q) o.permitted.1
orbit_of_the_code now covered (c_orbit_asking o) e =
    let p = o.permitted in
    numbers_earned orbit_from now covered (orbit_by (c_orbit_asking o)) e (ap (λ x. x.number) p) (ap (λ x. x.authbits) p) (ap orbit_in p)

pub timing_of_the_code : TimingOfTheCode
timing_of_the_code now covered (numbers_asking o) e =
    let q = o.permitted.0 in
    numbers_earned timing_from now covered (numbers_by (numbers_asking o)) e (ap number q) (ap first_of q) o.permitted.1
timing_of_the_code now covered (c_numbers_asking o) e =
    let p = o.permitted in
    numbers_earned timing_from now covered (numbers_by (c_numbers_asking o)) e (ap (λ x. x.number) p) (ap (λ x. x.authbits) p) (ap timing_in p)
