-- STORE 14: what a call answers, and the order of its refusals.
use Rattle.std.specs.Prelude.{ℕ, zero, suc, Bool, cond, List, []}

-- 0 comes with its values; STORE 14.3: a refusal with none
pub data Answer : Type 0 where
  done : List ℕ → Answer
  refused : ℕ → Answer

-- the number of an answer
abbrev pub number : Answer → ℕ
number (done v) = 0
number (refused k) = k

-- the values beside the number
abbrev pub values : Answer → List ℕ
values (done v) = v
values (refused k) = []

-- STORE 14.2: the number k unless the test holds, and what comes later if it does
abbrev pub unless : Bool → ℕ → ℕ → ℕ
unless test k later = cond test later k

-- the answer for a number: 0 with these values, or the refusal
abbrev pub answer : ℕ → List ℕ → Answer
answer zero v = done v
answer (suc k) v = refused (suc k)
