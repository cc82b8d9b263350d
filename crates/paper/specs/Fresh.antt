-- STORE 9.1: a fresh store.
use Rattle.std.specs.Prelude.{ℕ, ◌-◌, List, ◌∷◌, ◌++◌, replicate}
use Rattle.paper.specs.Parts.{on_part, on_parts}
use Rattle.paper.specs.Record.{CED, Timing, blank_record}
use Rattle.paper.specs.Room.{zeros_at, header_size, head_size, slot_size, row_size}

-- STORE 7.3: D, N, row 0 as the current one, the rule, and zeros
abbrev pub header : ℕ → ℕ → ℕ → List ℕ
header d n rule = d ∷ n ∷ 0 ∷ rule ∷ replicate (header_size - zeros_at) 0

unfoldable pub blank_slot : List ℕ
blank_slot = blank_record CED ++ blank_record Timing

-- a blank row: mark, week, time and spare 0, and N blank slots
unfoldable pub blank_row : ℕ → List ℕ → List ℕ
blank_row n row =
    let h = on_part (λ (_ : List ℕ). replicate head_size 0) 0 head_size row in
    on_parts (λ (_ : List ℕ). blank_slot) slot_size n head_size h

-- the room with a fresh store of D rows and N slots under a rule at its start
unfoldable pub fresh : ℕ → ℕ → ℕ → List ℕ → List ℕ
fresh d n rule room =
    let h = on_part (λ (_ : List ℕ). header d n rule) 0 header_size room in
    on_parts (blank_row n) (row_size n) d header_size h
