-- STORE 17.2: what an item asks for by its kind byte, the length of its body, and its letter.
use Rattle.std.specs.Prelude.{ℕ, ◌+◌, cond, List, [], ◌∷◌, eqb}
use Rattle.paper.specs.Word.{word_bytes}
use Rattle.lines.specs.declared.Kind.{Kind}
use Rattle.lines.specs.declared.Kind.TheVariants.{Word, Tag, Reset, Ced, Timing, Fresh, FreshRuled, Unknown}

-- STORE 17.2: by its kind byte
unfoldable pub kind_of : ℕ → Kind
kind_of b =
    cond (eqb b 1) Word
    (cond (eqb b 2) Tag
    (cond (eqb b 3) Reset (cond (eqb b 4) Ced (cond (eqb b 5) Timing (cond (eqb b 6) Fresh (cond (eqb b 9) FreshRuled Unknown))))))

-- STORE 17.1: the length of its body; behind an unknown kind byte there is none
abbrev pub body_length : Kind → ℕ
body_length Word = 1 + 1 + 2 + 4 + word_bytes
body_length Tag = 6 + 2 + 4
body_length Reset = 0
body_length Ced = 1
body_length Timing = 1
body_length Fresh = 2
body_length FreshRuled = 3
body_length Unknown = 0

-- the longest item: its kind byte and a word's body
abbrev pub longest_item : ℕ
longest_item = 1 + body_length Word

-- STORE 17.2: its letter, and x, each with the space behind it
abbrev pub letter_of : Kind → List ℕ
letter_of Word = 119 ∷ 32 ∷ []
letter_of Tag = 116 ∷ 32 ∷ []
letter_of Reset = 114 ∷ 32 ∷ []
letter_of Ced = 99 ∷ 32 ∷ []
letter_of Timing = 112 ∷ 32 ∷ []
letter_of Fresh = 102 ∷ 32 ∷ []
letter_of FreshRuled = 102 ∷ 32 ∷ []
letter_of Unknown = 120 ∷ 32 ∷ []
