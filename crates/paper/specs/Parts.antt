-- Parts of a list of bytes: a change of one part, of several in a row, a test and a sum over them, and a first place.
use Rattle.std.specs.Prelude.{ℕ, zero, suc, ◌+◌, ◌<◌, Bool, true, cond, ◌&&◌, List, ◌++◌, take, drop, get_or}

-- every element is a byte
abbrev pub Bytes : List ℕ → Type 0
Bytes l = (k : ℕ) → get_or l k 0 < 256

-- the k bytes from `at`
abbrev pub part : ℕ → ℕ → List ℕ → List ℕ
part at k l = take k (drop at l)

-- l with f done to its k bytes from `at`
unfoldable pub on_part : (List ℕ → List ℕ) → ℕ → ℕ → List ℕ → List ℕ
on_part f at k l = take at l ++ (f (take k (drop at l)) ++ drop k (drop at l))

-- f done to n parts of k bytes each, one after the other, from `at`
unfoldable pub on_parts : (List ℕ → List ℕ) → ℕ → ℕ → ℕ → List ℕ → List ℕ
on_parts f k zero at l = l
on_parts f k (suc n) at l = let m = on_part f at k l in on_parts f k n (at + k) m

-- p holds of each of n parts of k bytes from `at`
unfoldable pub all_parts : (List ℕ → Bool) → ℕ → ℕ → ℕ → List ℕ → Bool
all_parts p k zero at l = true
all_parts p k (suc n) at l = p (part at k l) && all_parts p k n (at + k) l

-- g summed over n parts of k bytes from `at`
unfoldable pub sum_parts : (List ℕ → ℕ) → ℕ → ℕ → ℕ → List ℕ → ℕ
sum_parts g k zero at l = 0
sum_parts g k (suc n) at l = g (part at k l) + sum_parts g k n (at + k) l

-- the first of the m numbers from k on at which p holds; k + m where it holds at none
unfoldable pub first_from : (ℕ → Bool) → ℕ → ℕ → ℕ
first_from p zero k = k
first_from p (suc m) k = let r = first_from p m (k + 1) in cond (p k) k r

-- the first number below n at which p holds; n where there is none
abbrev pub first : (ℕ → Bool) → ℕ → ℕ
first p n = first_from p n 0
