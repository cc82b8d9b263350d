-- Two outcomes of a tag with one answer are one, and two of asking: the paper's numbers and values determine the answers. And no refusal of the
-- store has a number of an input, of an orbit or of a message. Assumes nothing.
use native.Mathlib.Omega.{arith}
use mathlib.Core.Bool.{Bool, true, false}
use mathlib.Core.Logic.{◌≢◌}
use mathlib.Core.Path.{◌≡◌, ap}
use Prim.Native.Nat.{ℕ}
use Rattle.std.specs.Prelude.{List, [], ◌∷◌, Result}
use Rattle.refusals.specs.Reply.{refusal_number}
use Rattle.refusals.specs.declared.Refusal.{Refusal}
use Rattle.refusals.specs.declared.Refusal.TheVariants.{Sizes, TooShort, NotAStore, NoSatellite, TowTooLarge, NotAStart, TimeArithmetic, NotAllowed}
use Rattle.refusals.specs.declared.Refusal.TheVariants.{UnknownCode, NoCandidate, OtherData, NotEnough, UnknownKind, CutShort, Earlier, Dummy}
use Rattle.refusals.specs.declared.Refusal.TheVariants.{VerdictNo, StatusAddsNothing, IssuesDiffer, OtherSatellite, AgeUnknown, PaddingSet}
use Rattle.refusals.proofs.Answers.{same_answer}
use Rattle.tags.specs.Candidates.{tagged_answer}
use Rattle.navmessage.specs.Asked.{asked_answer}
use Rattle.navmessage.specs.declared.Reading.{Reading}

-- the total from its list
abbrev total_of : List ℕ → ℕ
total_of [] = 0
total_of (n ∷ l) = n

pub same_tagged : (a b : Result ℕ Refusal) → tagged_answer a ≡ tagged_answer b → a ≡ b
same_tagged = same_answer (λ n. n ∷ []) (λ n m e. ap total_of e)

-- a count and a time from their list
abbrev reading_of : List ℕ → Reading
reading_of (n ∷ w ∷ t ∷ l) = record { authbits = n; gst = record { wn = record { 0 = w }; tow = record { 0 = t } } }
reading_of _ = record { authbits = 0; gst = record { wn = record { 0 = 0 }; tow = record { 0 = 0 } } }

pub same_asked : (a b : Result Reading Refusal) → asked_answer a ≡ asked_answer b → a ≡ b
same_asked = same_answer (λ r. r.authbits ∷ r.gst.wn.0 ∷ r.gst.tow.0 ∷ []) (λ x y e. ap reading_of e)

-- the refusals of the store: all but those of an input of records, of reading an orbit and of reading a message back
abbrev pub of_the_store : Refusal → Bool
of_the_store Sizes = true
of_the_store TooShort = true
of_the_store NotAStore = true
of_the_store NoSatellite = true
of_the_store TowTooLarge = true
of_the_store NotAStart = true
of_the_store TimeArithmetic = true
of_the_store NotAllowed = true
of_the_store UnknownCode = true
of_the_store NoCandidate = true
of_the_store OtherData = true
of_the_store NotEnough = true
of_the_store UnknownKind = false
of_the_store CutShort = false
of_the_store Earlier = true
of_the_store Dummy = true
of_the_store VerdictNo = true
of_the_store StatusAddsNothing = true
of_the_store IssuesDiffer = false
of_the_store OtherSatellite = false
of_the_store AgeUnknown = true
of_the_store PaddingSet = false

pub never_theirs :
    (why : Refusal) → of_the_store why ≡ true →
    (refusal_number why ≢ 13) × (refusal_number why ≢ 14) × (refusal_number why ≢ 21) × (refusal_number why ≢ 22) × (refusal_number why ≢ 26)
never_theirs Sizes e = (omega arith, omega arith, omega arith, omega arith, omega arith)
never_theirs TooShort e = (omega arith, omega arith, omega arith, omega arith, omega arith)
never_theirs NotAStore e = (omega arith, omega arith, omega arith, omega arith, omega arith)
never_theirs NoSatellite e = (omega arith, omega arith, omega arith, omega arith, omega arith)
never_theirs TowTooLarge e = (omega arith, omega arith, omega arith, omega arith, omega arith)
never_theirs NotAStart e = (omega arith, omega arith, omega arith, omega arith, omega arith)
never_theirs TimeArithmetic e = (omega arith, omega arith, omega arith, omega arith, omega arith)
never_theirs NotAllowed e = (omega arith, omega arith, omega arith, omega arith, omega arith)
never_theirs UnknownCode e = (omega arith, omega arith, omega arith, omega arith, omega arith)
never_theirs NoCandidate e = (omega arith, omega arith, omega arith, omega arith, omega arith)
never_theirs OtherData e = (omega arith, omega arith, omega arith, omega arith, omega arith)
never_theirs NotEnough e = (omega arith, omega arith, omega arith, omega arith, omega arith)
never_theirs UnknownKind e = absurd (let z : ◌≡◌ {A = ℕ} 0 1 = cc in omega arith)
never_theirs CutShort e = absurd (let z : ◌≡◌ {A = ℕ} 0 1 = cc in omega arith)
never_theirs Earlier e = (omega arith, omega arith, omega arith, omega arith, omega arith)
never_theirs Dummy e = (omega arith, omega arith, omega arith, omega arith, omega arith)
never_theirs VerdictNo e = (omega arith, omega arith, omega arith, omega arith, omega arith)
never_theirs StatusAddsNothing e = (omega arith, omega arith, omega arith, omega arith, omega arith)
never_theirs IssuesDiffer e = absurd (let z : ◌≡◌ {A = ℕ} 0 1 = cc in omega arith)
never_theirs OtherSatellite e = absurd (let z : ◌≡◌ {A = ℕ} 0 1 = cc in omega arith)
never_theirs AgeUnknown e = (omega arith, omega arith, omega arith, omega arith, omega arith)
never_theirs PaddingSet e = absurd (let z : ◌≡◌ {A = ℕ} 0 1 = cc in omega arith)
