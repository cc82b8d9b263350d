-- STORE 17.3: the line that says an answer.
use Rattle.std.specs.Prelude.{ℕ, ◌+◌, ◌*◌, List, [], ◌∷◌, ◌++◌, Result, Ok, Err}
use Rattle.paper.specs.Number.{Answer, done, refused, number, values}
use Rattle.paper.specs.Satellite.{letters_of}
use Rattle.paper.specs.Record.{CED, data_bytes}
use Rattle.text.specs.Text.{most_digits, decimal, hex_of}
use Rattle.lines.specs.declared.Kind.{Kind}
use Rattle.lines.specs.declared.Said.{Said}
use Rattle.lines.specs.declared.Said.TheVariants.{Done, Total, Reading}
use Rattle.lines.specs.Kinds.{letter_of}

-- the most bytes of a number behind its space, of three, of a satellite, and of what stands behind 0 beside so many bytes of data
abbrev pub most_spaced : ℕ
most_spaced = 1 + most_digits

abbrev pub most_numbers : ℕ
most_numbers = 3 * most_spaced

abbrev pub most_satellite : ℕ
most_satellite = 1 + 3

abbrev pub most_reading : ℕ → ℕ
most_reading bytes = most_satellite + most_numbers + (1 + 2 * bytes)

-- the longest line: its letter, its number, a CED record's data behind it and the line's end
abbrev pub longest_line : ℕ
longest_line = 2 + most_digits + most_reading (data_bytes CED) + 1

-- STORE 14.5: what is said beside 0, and 0 with these values, or the number of the refusal
abbrev pub said_values : Said → List ℕ
said_values Done = []
said_values (Total n) = n ∷ []
said_values (Reading count gst) = count ∷ gst.wn.0 ∷ gst.tow.0 ∷ []

abbrev pub outcome_answer : Result Said ℕ → Answer
outcome_answer (Ok s) = done (said_values s)
outcome_answer (Err k) = refused k

-- a number behind a space
abbrev pub spaced : ℕ → List ℕ
spaced x = 32 ∷ decimal x

-- the count, the week, the time
unfoldable pub numbers_text : ℕ → ℕ → ℕ → List ℕ
numbers_text count w t = spaced count ++ (spaced w ++ spaced t)

-- the satellite, the count, the week, the time, the data in hex
unfoldable pub reading_text : ℕ → ℕ → ℕ → ℕ → List ℕ → List ℕ
reading_text sat count w t part = (32 ∷ letters_of sat) ++ (numbers_text count w t ++ (32 ∷ hex_of part))

-- STORE 17.3: what stands behind 0, a tag's total or what an asking hands out
abbrev pub values_text : ℕ → List ℕ → List ℕ → List ℕ
values_text sat [] part = []
values_text sat (total ∷ []) part = spaced total
values_text sat (x ∷ y ∷ []) part = []
values_text sat (count ∷ w ∷ t ∷ []) part = reading_text sat count w t part
values_text sat (x ∷ y ∷ z ∷ v ∷ l) part = []

-- STORE 17.3: its letter and the number, and what stands behind 0
unfoldable pub line_of : Kind → ℕ → Answer → List ℕ → List ℕ
line_of kind sat a part =
    letter_of kind ++ (decimal (number a) ++ (values_text sat (values a) part ++ (10 ∷ [])))
