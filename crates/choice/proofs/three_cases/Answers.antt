-- The code goes by the three cases, each by its search, and the slot of the three cases is the chosen one (`three_cases_lem`).
use Rattle.paper.specs.Record.{family_if}
use Rattle.choice.proofs.Steps.{found_own, found_unclaimed, found_oldest, by_satellite}
use Rattle.choice.proofs.three_cases.Goals as goal

pub returns-in-Some : goal.returns-in-Some
returns-in-Some c =
    let f = family_if c.args.timing in
    found_own f _ _ _ (λ k. (c.shared_slice_known-1.given k).fits) c.requires.0 _
    (by_satellite f _ _ _ _ _ _ c.base-at.ensures c.last_of.ensures c.in-Some.is)

pub returns-in-Some-last_of : goal.returns-in-Some-last_of
returns-in-Some-last_of c =
    let f = family_if c.args.timing in
    let at = c.base-at.ensures in
    found_unclaimed f _ _ _ (λ k. (c.shared_slice_known-1.given k).fits) c.requires.0 _
    (by_satellite f _ _ _ _ _ _ at c.last_of.ensures c.in_default.is)
    (by_satellite f _ _ _ _ _ _ at c.last_of-2.ensures c.in-Some-last_of.is)

pub returns : goal.returns
returns c =
    let f = family_if c.args.timing in
    let at = c.base-at.ensures in
    found_oldest f _ _ _ (λ k. (c.shared_slice_known-1.given k).fits) c.requires.0 _
    (by_satellite f _ _ _ _ _ _ at c.last_of.ensures c.in_default.is)
    (by_satellite f _ _ _ _ _ _ at c.last_of-2.ensures c.in_default-last_of.is)
    c.last_oldest.ensures
