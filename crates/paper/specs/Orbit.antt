-- STORE 20.5, 20.6: what asking hands out read as numbers, for either family, and when that is refused.
use Rattle.std.specs.Prelude.{ℕ, Bool, ◌&&◌, List, eqb, nat_abs, pos}
use Rattle.paper.specs.Number.{Answer, values, answer, unless}
use Rattle.paper.specs.Record.{Family, CED, Timing}
use Rattle.paper.specs.Field.{named, numbers_of}
use Rattle.paper.specs.Answer.{part_for, ask_number, ask_answer, ask_data}

-- the IODnav that came by a word of type k
abbrev pub issue_of : ℕ → List ℕ → ℕ
issue_of k bytes = nat_abs (named (pos 0) "IODnav" (numbers_of k bytes))

-- the four IODnav are all equal
unfoldable pub one_issue : List ℕ → Bool
one_issue bytes =
    eqb (issue_of 2 bytes) (issue_of 1 bytes) && eqb (issue_of 3 bytes) (issue_of 1 bytes) && eqb (issue_of 4 bytes) (issue_of 1 bytes)

-- the satellite that word 4 names
abbrev pub svid_of : List ℕ → ℕ
svid_of bytes = nat_abs (named (pos 0) "SVID" (numbers_of 4 bytes))

-- STORE 20.6: what the data is tested for, 21 and 22 of CED; timing has neither
unfoldable pub numbers_tests : Family → ℕ → List ℕ → ℕ
numbers_tests CED sat bytes = unless (one_issue bytes) 21 (unless (eqb (svid_of bytes) sat) 22 0)
numbers_tests Timing sat bytes = 0

-- STORE 14.2, reading numbers: asking's 3, 4, 12, 24, 7, and then those. What is not authenticated is not looked into
unfoldable pub numbers_number : Family → ℕ → List ℕ → ℕ
numbers_number f sat room =
    let k = ask_number f sat room in
    unless (eqb k 0) k (numbers_tests f sat (ask_data f sat room))

-- beside 0 asking's count and time
unfoldable pub numbers_answer : Family → ℕ → List ℕ → Answer
numbers_answer f sat room = answer (numbers_number f sat room) (values (ask_answer f sat room))

-- the data that is read: asking's, and none beside a refusal. The numbers of no data are 0
unfoldable pub numbers_data : Family → ℕ → List ℕ → List ℕ
numbers_data f sat room = part_for (numbers_number f sat room) (ask_data f sat room)
