-- Laws of the paper's order up to the candidate: what a tag's tests say of its number. Assumes nothing.
use native.Mathlib.Omega.{arith}
use mathlib.Core.Path.{◌≡◌, refl, sym, ap, ◌∙◌}
use mathlib.Core.Bool.{Bool, true, false, not}
use mathlib.Core.List.{List, [], ◌∷◌}
use Prim.Native.Nat.{ℕ, zero, suc, ◌≤◌}
use lib.Dec.{eqb, eqb-suc-zero}
use lib.IntN.{pos, neg_ℤ}
use Rattle.paper.specs.Number.{Answer, done, refused, number, values, answer, unless}
use Rattle.paper.specs.Record.{Family}
use Rattle.paper.specs.Satellite.{is_satellite}
use Rattle.paper.specs.Store.{InRange, is_store}
use Rattle.paper.specs.Time.{subframe_seconds, is_time, is_start, add_seconds}
use Rattle.paper.specs.Tag.{family_of, thirty_before, has_candidate}
use Rattle.paper.specs.Answer.{until_candidate}
use Rattle.gst.proofs.Told.{sum_of_time}
use Rattle.lookup.specs.Candidate.{candidate_at}
use Rattle.lookup.proofs.Candidate.{candidate_none, candidate_shown}
use Rattle.refusals.proofs.Answers.{refused_number, above_zero}
use Rattle.refusals.specs.Reply.{refusal_number, reply_answer}
use Rattle.refusals.specs.declared.Refusal.{Refusal}
use Rattle.refusals.specs.declared.Refusal.TheVariants.{NoCandidate}
use Rattle.paper.proofs.Order.{unless_zero}
use Rattle.entry.specs.Mack.{mack_number, mack_answer}
use Rattle.tags.specs.Candidates.{Placed, Sought}
use Rattle.std.specs.Prelude.{⊤, Option, Some, None, Result, Ok, Err}
use Rattle.std.specs.Option.{ok_or}

-- what the first four tests say once they are passed
pub record Mack (sat t : ℕ) (room : List ℕ) : Type 0 where
  pub store : is_store room ≡ true
  pub satellite : is_satellite sat ≡ true
  pub time : is_time t ≡ true
  pub start : is_start t ≡ true

pub mack_passed : (sat t : ℕ) (room : List ℕ) → mack_number sat t room ≡ 0 → Mack sat t room
unfolding mack_number
mack_passed sat t room e =
    let a = unless_zero (is_store room) 3 _ (omega arith) e in
    let b = unless_zero (is_satellite sat) 4 _ (omega arith) a.1 in
    let c = unless_zero (is_time t) 5 _ (omega arith) b.1 in
    let d = unless_zero (is_start t) 6 _ (omega arith) c.1 in
    record { store = a.0; satellite = b.0; time = c.0; start = d.0 }

-- a number of the first four tests is the number of the whole
four : (a b c d : Bool) (k rest : ℕ)
    → unless a 3 (unless b 4 (unless c 5 (unless d 6 0))) ≡ suc k
    → unless a 3 (unless b 4 (unless c 5 (unless d 6 rest))) ≡ suc k
four true true true true k rest e = absurd (omega arith)
four true true true false k rest e = e
four true true false d k rest e = e
four true false c d k rest e = e
four false b c d k rest e = e

module _ (allowed known : Bool) (sat kind cop w t : ℕ) (room : List ℕ) where
  pub mack_refused : (k : ℕ) → refused (suc k) ≡ mack_answer sat t room → (later : ℕ) → until_candidate allowed known sat kind cop w t room later ≡ suc k
  unfolding until_candidate mack_number
  mack_refused k e later = four (is_store room) (is_satellite sat) (is_time t) (is_start t) k _ (refused_number (suc k) _ [] e)

  pub mack_refused_by : (r : Result ⊤ Refusal) (why : Refusal) → r ≡ Err why → reply_answer r ≡ mack_answer sat t room
      → (later : ℕ) → until_candidate allowed known sat kind cop w t room later ≡ refusal_number why
  mack_refused_by r why q e later = go (refusal_number why) (above_zero why) (ap reply_answer (sym q) ∙ e)
    where
      go : (k : ℕ) → 1 ≤ k → refused k ≡ mack_answer sat t room → until_candidate allowed known sat kind cop w t room later ≡ k
      go zero h f = absurd (omega arith)
      go (suc k) h f = mack_refused k f later

  -- what is left once they are passed
  pub until_rest : Mack sat t room → (later : ℕ)
      → until_candidate allowed known sat kind cop w t room later
      ≡ unless allowed 8
      (unless known 9
      (unless (eqb (number (thirty_before w t)) 0) 7
      (unless (not (eqb cop 0)) 16 (unless (has_candidate (family_of kind) sat cop w t room) 10 later))))
  unfolding until_candidate
  until_rest m later = rw (m.store, m.satellite, m.time, m.start)

  pub not_allowed : Mack sat t room → allowed ≡ false → (later : ℕ) → until_candidate allowed known sat kind cop w t room later ≡ 8
  not_allowed m a later = until_rest m later ∙ rw a

  pub not_known : Mack sat t room → allowed ≡ true → known ≡ false → (later : ℕ) → until_candidate allowed known sat kind cop w t room later ≡ 9
  not_known m a k later = until_rest m later ∙ rw (a, k)

  -- "7": the sum is refused, by whichever number
  pub no_time : Mack sat t room → allowed ≡ true → known ≡ true
      → (x : Answer) → x ≡ add_seconds w t (neg_ℤ (pos subframe_seconds)) → eqb (number x) 0 ≡ false → (later : ℕ)
      → until_candidate allowed known sat kind cop w t room later ≡ 7
  unfolding thirty_before
  no_time m a k x e z later =
      let s : x ≡ thirty_before w t = e ∙ sum_of_time w t (neg_ℤ (pos subframe_seconds)) m.time in
      until_rest m later ∙ rw (a, k, ← s, z)

  -- the last two tests, for the time less 30 s
  pub placed : (r : Result ℕ Refusal) (w' t' : ℕ) → Mack sat t room → InRange room → allowed ≡ true → known ≡ true
      → done (w' ∷ t' ∷ []) ≡ add_seconds w t (neg_ℤ (pos subframe_seconds)) → Sought r (family_of kind) sat cop w' t' room → Placed r allowed known sat kind cop w t room
  unfolding thirty_before
  placed (Ok x) w' t' m F a k e q =
      let s : done (w' ∷ t' ∷ []) ≡ thirty_before w t = e ∙ sum_of_time w t (neg_ℤ (pos subframe_seconds)) m.time in
      let shown = candidate_shown (family_of kind) sat cop w t w' t' room (ap values (sym s)) x F q.1 in
      (λ later. until_rest m later ∙ rw (a, k, ← s, q.0, shown.has), shown)
  placed (Err why) w' t' m F a k e q =
      let s : done (w' ∷ t' ∷ []) ≡ thirty_before w t = e ∙ sum_of_time w t (neg_ℤ (pos subframe_seconds)) m.time in
      λ later. until_rest m later ∙ rw (a, k, ← s) (q later w t (ap values (sym s)))

-- 16 and 10: what the lookup found, or 10 in place of nothing
pub sought :
    (f : Family) (sat cop w t : ℕ) (room : List ℕ) (a : Option ℕ) →
    a ≡ candidate_at f sat cop w t room → eqb cop 0 ≡ false → Sought (ok_or a NoCandidate) f sat cop w t room
sought f sat cop w t room (Some x) e h = (h, sym e)
sought f sat cop w t room None e h = λ later w' t' q. rw (h, candidate_none f sat cop w' t' w t room q (sym e))
