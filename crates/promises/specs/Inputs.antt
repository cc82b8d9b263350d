-- A whole input that was read in parts, by any outcomes that the contracts of `part` and `end` permit: each part lent is what comes first of
-- what is left of the input, what was taken of it is gone, and behind the last the end was taken.
use Rattle.std.specs.Prelude.{Bool, true, List, [], ◌∷◌, ◌++◌, ◌≡◌, ℕ, take, drop}
use Rattle.promises.specs.Outcomes.{PartRan, EndRan}

-- ---- a run of `part`, by the names of its arguments
abbrev pub part_reader : PartRan → List ℕ
part_reader o = let (reader, (room, (bytes, (out, (traced, _))))) = o.arguments in reader.now

abbrev pub part_room : PartRan → List ℕ
part_room o = let (reader, (room, (bytes, (out, (traced, _))))) = o.arguments in room.now

abbrev pub part_bytes : PartRan → List ℕ
part_bytes o = let (reader, (room, (bytes, (out, (traced, _))))) = o.arguments in bytes.now

abbrev pub part_traced : PartRan → Bool
part_traced o = let (reader, (room, (bytes, (out, (traced, _))))) = o.arguments in traced

-- what it left of the reader and of the room, and the lines that it wrote
abbrev pub reader_left : PartRan → List ℕ
reader_left o = let (reader, (room, (bytes, (out, _)))) = o.exit in reader.now

abbrev pub room_left : PartRan → List ℕ
room_left o = let (reader, (room, (bytes, (out, _)))) = o.exit in room.now

abbrev pub part_said : PartRan → List ℕ
part_said o = let (reader, (room, (bytes, (out, _)))) = o.exit in take o.answer.said out.now

-- it was lent this reader, this room and this part of an input
pub record PartLent (o : PartRan) (traced : Bool) (reader room bytes : List ℕ) : Type 0 where
  pub reader_is : part_reader o ≡ reader
  pub room_is : part_room o ≡ room
  pub bytes_are : part_bytes o ≡ bytes
  pub traced_is : part_traced o ≡ traced

-- ---- a run of `end`
abbrev pub end_reader : EndRan → List ℕ
end_reader o = let (reader, (room, (out, (traced, _)))) = o.arguments in reader.now

abbrev pub end_room : EndRan → List ℕ
end_room o = let (reader, (room, (out, (traced, _)))) = o.arguments in room.now

abbrev pub end_traced : EndRan → Bool
end_traced o = let (reader, (room, (out, (traced, _)))) = o.arguments in traced

abbrev pub end_said : EndRan → List ℕ
end_said o = let (reader, (room, (out, _))) = o.exit in take o.answer.said out.now

-- it was lent this reader and this room, and was taken
pub record EndLent (o : EndRan) (traced : Bool) (reader room : List ℕ) : Type 0 where
  pub reader_is : end_reader o ≡ reader
  pub room_is : end_room o ≡ room
  pub traced_is : end_traced o ≡ traced
  pub taken : o.answer.taken ≡ true

-- ---- an input
-- a part, and what comes of the rest of the input
pub record PartRead (Rest : List ℕ → List ℕ → List ℕ → List ℕ → List ℕ → Type 0) (traced : Bool) (bytes input reader room text now : List ℕ) : Type 0 where
  pub ran : PartRan
  pub lent : PartLent ran traced reader room bytes
  pub behind : List ℕ
  pub first : input ≡ bytes ++ behind
  pub later : List ℕ
  pub rest : Rest (drop ran.answer.took input) (reader_left ran) (room_left ran) later now
  pub lines : text ≡ part_said ran ++ later

-- the end, where nothing is left
pub record EndRead (traced : Bool) (input reader room text now : List ℕ) : Type 0 where
  pub ran : EndRan
  pub lent : EndLent ran traced reader room
  pub none : input ≡ []
  pub lines : text ≡ end_said ran
  pub same : now ≡ room

-- an input in these parts, from a reader's state and a room: the lines that were written, and the room that was left
abbrev pub Read : Bool → List (List ℕ) → List ℕ → List ℕ → List ℕ → List ℕ → List ℕ → Type 0
Read traced [] input reader room text now = EndRead traced input reader room text now
Read traced (bytes ∷ parts) input reader room text now = PartRead (Read traced parts) traced bytes input reader room text now
