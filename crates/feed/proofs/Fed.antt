-- What comes back of a row whose chosen record was lent to a word, in the checker's own words (`put_mid`).
use mathlib.Core.Path.{◌≡◌, ap, ◌∙◌}
use mathlib.Core.List.{List}
use Prim.Native.Nat.{ℕ, ◌+◌, ◌-◌}
use lib.ListN.{take, drop}
use borrow.Rule.Slice.PartMut.{put_mid}
use Rattle.paper.specs.Parts.{on_part}
use Rattle.paper.specs.Record.{Family, size}
use Rattle.paper.specs.Room.{record_at}
use Rattle.paper.specs.Word.{fed_record}
use Rattle.paper.specs.Feed.{chosen, fed_family}
use Rattle.paper.proofs.Parts.{part_back_at}

pub fed_back : (f : Family) (n sat band slot a w : ℕ) (word row y : List ℕ) → slot ≡ chosen f sat n row → a ≡ record_at f slot → w ≡ size f
    → y ≡ fed_record f sat band word (take (a + w - a) (drop a row))
    → put_mid a (a + w - a) row y ≡ fed_family f n sat band word row
unfolding fed_family
fed_back f n sat band slot a w word row y e p s q =
    part_back_at (fed_record f sat band word) a w row y q
    ∙ ap (λ (at : ℕ). on_part (fed_record f sat band word) at w row) (p ∙ ap (record_at f) e)
    ∙ ap (λ (k : ℕ). on_part (fed_record f sat band word) (record_at f (chosen f sat n row)) k row) s
