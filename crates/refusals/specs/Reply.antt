-- The number for each refusal, and the answer for what a call hands back.
use Rattle.std.specs.Prelude.{ℕ, List, [], ⊤, Result, Ok, Err}
use Rattle.paper.specs.Number.{Answer, done, refused}
use Rattle.refusals.specs.declared.Refusal.{Refusal}
use Rattle.refusals.specs.declared.Refusal.TheVariants.{Sizes, TooShort, NotAStore, NoSatellite, TowTooLarge, NotAStart, TimeArithmetic, NotAllowed}
use Rattle.refusals.specs.declared.Refusal.TheVariants.{UnknownCode, NoCandidate, OtherData, NotEnough, UnknownKind, CutShort, Earlier, Dummy}
use Rattle.refusals.specs.declared.Refusal.TheVariants.{VerdictNo, StatusAddsNothing, IssuesDiffer, OtherSatellite, AgeUnknown, PaddingSet}

-- STORE 14.1: the numbers
abbrev pub refusal_number : Refusal → ℕ
refusal_number Sizes = 1
refusal_number TooShort = 2
refusal_number NotAStore = 3
refusal_number NoSatellite = 4
refusal_number TowTooLarge = 5
refusal_number NotAStart = 6
refusal_number TimeArithmetic = 7
refusal_number NotAllowed = 8
refusal_number UnknownCode = 9
refusal_number NoCandidate = 10
refusal_number OtherData = 11
refusal_number NotEnough = 12
refusal_number UnknownKind = 13
refusal_number CutShort = 14
refusal_number Earlier = 15
refusal_number Dummy = 16
refusal_number VerdictNo = 17
refusal_number StatusAddsNothing = 18
refusal_number IssuesDiffer = 21
refusal_number OtherSatellite = 22
refusal_number AgeUnknown = 24
refusal_number PaddingSet = 26

-- STORE 14.5: 0 and the values of what is handed back, or the refusal's number
abbrev pub answer_of : {T : Type 0} → (T → List ℕ) → Result T Refusal → Answer
answer_of values (Ok x) = done (values x)
answer_of values (Err why) = refused (refusal_number why)

-- the same of a call that hands nothing back
abbrev pub reply_answer : Result ⊤ Refusal → Answer
reply_answer = answer_of (λ _. [])
