-- Laws of a call that first tests and then acts: what it answers and leaves, where the test refused and where it did not. Assumes
-- nothing.
use native.Mathlib.Omega.{arith}
use mathlib.Core.Path.{◌≡◌, sym, ap, ◌∙◌}
use mathlib.Core.Bool.{true}
use mathlib.Core.List.{List, []}
use lib.ListN.{length}
use lib.Dec.{eqb}
use borrow.Author.Tests.{eqb-true}
use Prim.Native.Nat.{ℕ}
use Rattle.paper.specs.Number.{done, refused, answer}
use Rattle.paper.specs.Answer.{room_for, feed_number}
use Rattle.paper.specs.Satellite.{is_satellite}
use Rattle.paper.specs.Store.{InRange, is_store}
use Rattle.paper.specs.Time.{is_time}
use Rattle.paper.specs.Word.{word_bytes}
use Rattle.paper.proofs.Order.{unless_zero}
use Rattle.paper.proofs.StoreFacts.{store_facts}
use Rattle.refusals.specs.Reply.{refusal_number, reply_answer}
use Rattle.refusals.specs.declared.Refusal.{Refusal}
use Rattle.std.specs.Prelude.{⊤, Result, Ok, Err}
use Rattle.refusals.proofs.Answers.{refuses, does, done_room}

pub refused_pair : (r : Result ⊤ Refusal) (w : Refusal) (k : ℕ) (after room : List ℕ) → r ≡ Err w → reply_answer r ≡ answer k []
    → (refused (refusal_number w) ≡ answer k []) × (room ≡ room_for k after room)
refused_pair r w k after room q e = (ap reply_answer (sym q) ∙ e, refuses r w k [] after room q e)

pub done_pair : (r : Result ⊤ Refusal) (k : ℕ) (after out room : List ℕ) → r ≡ Ok tt → reply_answer r ≡ answer k [] → out ≡ after
    → (done [] ≡ answer k []) × (out ≡ room_for k after room)
done_pair r k after out room q e o = (ap reply_answer (sym q) ∙ e, o ∙ done_room k after room (does r k [] q e))

-- a word that is answered 0: what the room's half asks
pub fed_passed : (word : List ℕ) (sat w t band : ℕ) (room : List ℕ) → feed_number word sat w t band room ≡ 0
    → InRange room × (is_time t ≡ true) × (length word ≡ word_bytes)
unfolding feed_number
fed_passed word sat w t band room e =
    let a = unless_zero (is_store room) 3 _ (omega arith) e in
    let b = unless_zero (is_satellite sat) 4 _ (omega arith) a.1 in
    let c = unless_zero (is_time t) 5 _ (omega arith) b.1 in
    let d = unless_zero (eqb (length word) word_bytes) 8 _ (omega arith) c.1 in
    (store_facts room a.0, c.0, eqb-true (length word) word_bytes d.0)
