-- What building and reading back came to is known by the paper's number and values: no two outcomes have the same. Assumes nothing.
use mathlib.Core.List.{[], ◌∷◌}
use mathlib.Core.Path.{◌≡◌}
use Prim.Native.Nat.{ℕ}
use Rattle.std.specs.Prelude.{Result}
use Rattle.paper.specs.Message.{head_values}
use Rattle.refusals.specs.declared.Refusal.{Refusal}
use Rattle.refusals.proofs.Answers.{same_answer}
use Rattle.message.specs.declared.Heading.{Heading}
use Rattle.message.specs.Outcome.{head_of, built_answer, read_back_answer}

pub built_one : (r r' : Result ℕ Refusal) → built_answer r ≡ built_answer r' → r ≡ r'
built_one = same_answer (λ bytes. bytes ∷ []) (λ b b' e. cc)

-- a heading put together again
heading : ℕ → ℕ → ℕ → ℕ → ℕ → ℕ → Heading
heading p a w t c s =
    record {
      prnd = record { 0 = p };
      prna = record { 0 = a };
      gst = record { wn = record { 0 = w }; tow = record { 0 = t } };
      counter = c;
      status = s;
    }

same_heading : (g h : Heading) → head_values (head_of g) ≡ head_values (head_of h) → g ≡ h
unfolding heading
same_heading g h e =
    let p : g.prnd.0 ≡ h.prnd.0 = cc in
    let a : g.prna.0 ≡ h.prna.0 = cc in
    let w : g.gst.wn.0 ≡ h.gst.wn.0 = cc in
    let t : g.gst.tow.0 ≡ h.gst.tow.0 = cc in
    let c : g.counter ≡ h.counter = cc in
    let s : g.status ≡ h.status = cc in
    λ i. heading (p i) (a i) (w i) (t i) (c i) (s i)

pub read_one : (r r' : Result Heading Refusal) → read_back_answer r ≡ read_back_answer r' → r ≡ r'
read_one = same_answer (λ h. head_values (head_of h)) same_heading
