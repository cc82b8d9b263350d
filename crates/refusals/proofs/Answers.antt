-- Laws of replies: which number each has, that a number has one reply, and what it says of the room and of a part. Assumes nothing.
use native.Mathlib.Omega.{arith}
use mathlib.Core.Path.{◌≡◌, refl, sym, ap, ◌∙◌}
use mathlib.Core.List.{List, []}
use mathlib.Core.Bool.{false, cond}
use mathlib.Core.Logic.{◌≢◌}
use lib.Dec.{eqb, eqb-suc-zero}
use Prim.Native.Nat.{ℕ, zero, suc, ◌≤◌}
use Rattle.std.specs.Prelude.{⊤, Result, Ok, Err, IsErr, IsErrAnd}
use Rattle.paper.specs.Number.{done, refused, answer}
use Rattle.paper.specs.Answer.{room_for, part_for}
use Rattle.refusals.specs.Reply.{refusal_number, answer_of, reply_answer}
use Rattle.refusals.specs.declared.Refusal.{Refusal}
use Rattle.refusals.specs.declared.Refusal.TheVariants.{Sizes, TooShort, NotAStore, NoSatellite, TowTooLarge, NotAStart, TimeArithmetic, NotAllowed}
use Rattle.refusals.specs.declared.Refusal.TheVariants.{UnknownCode, NoCandidate, OtherData, NotEnough, UnknownKind, CutShort, Earlier, Dummy}
use Rattle.refusals.specs.declared.Refusal.TheVariants.{VerdictNo, StatusAddsNothing, IssuesDiffer, OtherSatellite, AgeUnknown, PaddingSet}

-- the refusal of a number, back from `refusal_number`
refusal_of : ℕ → Refusal
refusal_of n =
    (cond (eqb n 1) Sizes
    (cond (eqb n 2) TooShort
    (cond (eqb n 3) NotAStore
    (cond (eqb n 4) NoSatellite
    (cond (eqb n 5) TowTooLarge
    (cond (eqb n 6) NotAStart
    (cond (eqb n 7) TimeArithmetic
    (cond (eqb n 8) NotAllowed
    (cond (eqb n 9) UnknownCode
    (cond (eqb n 10) NoCandidate
    (cond (eqb n 11) OtherData
    (cond (eqb n 12) NotEnough
    (cond (eqb n 13) UnknownKind
    (cond (eqb n 14) CutShort
    (cond (eqb n 15) Earlier
    (cond (eqb n 16) Dummy
    (cond (eqb n 17) VerdictNo
    (cond (eqb n 18) StatusAddsNothing
    (cond (eqb n 21) IssuesDiffer
    (cond (eqb n 22) OtherSatellite
    (cond (eqb n 24) AgeUnknown
    PaddingSet)))))))))))))))))))))

back : (why : Refusal) → refusal_of (refusal_number why) ≡ why
unfolding refusal_of
back Sizes = refl
back TooShort = refl
back NotAStore = refl
back NoSatellite = refl
back TowTooLarge = refl
back NotAStart = refl
back TimeArithmetic = refl
back NotAllowed = refl
back UnknownCode = refl
back NoCandidate = refl
back OtherData = refl
back NotEnough = refl
back UnknownKind = refl
back CutShort = refl
back Earlier = refl
back Dummy = refl
back VerdictNo = refl
back StatusAddsNothing = refl
back IssuesDiffer = refl
back OtherSatellite = refl
back AgeUnknown = refl
back PaddingSet = refl

-- two refusals with one number are one
pub same_refusal : (a b : Refusal) → refusal_number a ≡ refusal_number b → a ≡ b
same_refusal a b e = sym (back a) ∙ ap refusal_of e ∙ back b

-- no refusal has the number 0
pub above_zero : (why : Refusal) → 1 ≤ refusal_number why
above_zero Sizes = omega arith
above_zero TooShort = omega arith
above_zero NotAStore = omega arith
above_zero NoSatellite = omega arith
above_zero TowTooLarge = omega arith
above_zero NotAStart = omega arith
above_zero TimeArithmetic = omega arith
above_zero NotAllowed = omega arith
above_zero UnknownCode = omega arith
above_zero NoCandidate = omega arith
above_zero OtherData = omega arith
above_zero NotEnough = omega arith
above_zero UnknownKind = omega arith
above_zero CutShort = omega arith
above_zero Earlier = omega arith
above_zero Dummy = omega arith
above_zero VerdictNo = omega arith
above_zero StatusAddsNothing = omega arith
above_zero IssuesDiffer = omega arith
above_zero OtherSatellite = omega arith
above_zero AgeUnknown = omega arith
above_zero PaddingSet = omega arith

pub not_zero : (why : Refusal) → eqb (refusal_number why) 0 ≡ false
not_zero Sizes = refl
not_zero TooShort = refl
not_zero NotAStore = refl
not_zero NoSatellite = refl
not_zero TowTooLarge = refl
not_zero NotAStart = refl
not_zero TimeArithmetic = refl
not_zero NotAllowed = refl
not_zero UnknownCode = refl
not_zero NoCandidate = refl
not_zero OtherData = refl
not_zero NotEnough = refl
not_zero UnknownKind = refl
not_zero CutShort = refl
not_zero Earlier = refl
not_zero Dummy = refl
not_zero VerdictNo = refl
not_zero StatusAddsNothing = refl
not_zero IssuesDiffer = refl
not_zero OtherSatellite = refl
not_zero AgeUnknown = refl
not_zero PaddingSet = refl

-- what is handed back is known by its answer, where a value is by its numbers: two with one answer are one
pub same_answer :
    {T : Type 0} (values : T → List ℕ) →
    ((x y : T) → values x ≡ values y → x ≡ y) →
    (a b : Result T Refusal) → answer_of values a ≡ answer_of values b → a ≡ b
same_answer values one (Ok x) (Ok y) e = ap Ok (one x y cc)
same_answer values one (Ok x) (Err w) e = absurd (let z : ◌≡◌ {A = ℕ} 0 1 = cc in omega arith)
same_answer values one (Err v) (Ok y) e = absurd (let z : ◌≡◌ {A = ℕ} 0 1 = cc in omega arith)
same_answer values one (Err v) (Err w) e = let n : refusal_number v ≡ refusal_number w = cc in ap Err (same_refusal v w n)

-- two replies with one answer are one
pub same_reply : (a b : Result ⊤ Refusal) → reply_answer a ≡ reply_answer b → a ≡ b
same_reply = same_answer (λ _. []) (λ _ _ _. refl)

-- the answer for a number that is not 0 is its refusal
pub answer_refused : (k : ℕ) (v : List ℕ) → 1 ≤ k → answer k v ≡ refused k
answer_refused zero v h = absurd (omega arith)
answer_refused (suc k) v h = refl

-- a refusal that a contract gives: the number is its own, and the room and the part are those of a refusal
pub refused_number : (k n : ℕ) (v : List ℕ) → refused k ≡ answer n v → n ≡ k
refused_number k zero v e = absurd (let z : ◌≡◌ {A = ℕ} 0 1 = cc in omega arith)
refused_number k (suc n) v e = cc

pub refused_room : (k n : ℕ) (v after room : List ℕ) → refused k ≡ answer n v → room ≡ room_for n after room
refused_room k zero v after room e = absurd (let z : ◌≡◌ {A = ℕ} 0 1 = cc in omega arith)
refused_room k (suc n) v after room e = rw (eqb-suc-zero n)

pub refused_part : (k n : ℕ) (v part : List ℕ) → refused k ≡ answer n v → [] ≡ part_for n part
refused_part k zero v part e = absurd (let z : ◌≡◌ {A = ℕ} 0 1 = cc in omega arith)
refused_part k (suc n) v part e = rw (eqb-suc-zero n)

-- a reply that is done: the number is 0
pub done_number : (n : ℕ) (v w : List ℕ) → done w ≡ answer n v → n ≡ 0
done_number zero v w e = refl
done_number (suc n) v w e = absurd (let z : ◌≡◌ {A = ℕ} 0 1 = cc in omega arith)

pub done_room : (n : ℕ) (after room : List ℕ) → n ≡ 0 → after ≡ room_for n after room
done_room n after room e = rw e

-- a reply that refuses leaves the room, and one that is done has the number 0
pub refuses :
    (r : Result ⊤ Refusal) (w : Refusal) (k : ℕ) (v after room : List ℕ) →
    r ≡ Err w → reply_answer r ≡ answer k v → room ≡ room_for k after room
refuses r w k v after room q e = refused_room (refusal_number w) k v after room (ap reply_answer (sym q) ∙ e)

pub does : (r : Result ⊤ Refusal) (k : ℕ) (v : List ℕ) → r ≡ Ok tt → reply_answer r ≡ answer k v → k ≡ 0
does r k v q e = done_number k v [] (ap reply_answer (sym q) ∙ e)

-- `?` hands a refusal on as it is
pub handed_on :
    {T : Type 0} (r : Result T Refusal) (w : Refusal) →
    IsErr r × IsErrAnd r (λ e. e ≡ w) → r ≡ Err w
handed_on (Ok x) w p = absurd p.1
handed_on (Err e) w p = ap Err p.1
