-- What this crate's answer on the share that a word owns means in the definitions of `paper`.
use Rattle.std.specs.Prelude.{Option, Some, None}
use Rattle.paper.specs.Word.{Owned, nothing, owns}
use Rattle.word.specs.declared.Share.{Share}

abbrev pub share_of : Share → Owned
share_of s = owns s.to s.from s.size s.age

-- what the word owns, as the definitions have it
abbrev pub owned_of : Option Share → Owned
owned_of None = nothing
owned_of (Some s) = share_of s
