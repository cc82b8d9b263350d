-- What a call asks of a machine and of a room: a week in two bytes, and how far it may write.
use Rattle.std.specs.Prelude.{ℕ, ◌<◌, ◌≤◌, cond, List, [], ◌∷◌, leb}
use Rattle.paper.specs.Room.{room_size, depth, slots}
use Rattle.paper.specs.Call.{Call, fresh_call, feed_call, tag_call, candidate_call, ask_call, reset_call}

-- a call whose week is two bytes
abbrev pub WeekFits : Call → Type 0
WeekFits (fresh_call d n rule) = Unit {0}
WeekFits (feed_call word sat w t band) = w < 65536
WeekFits (tag_call sat kind cop l status w t given verdict) = Unit {0}
WeekFits (candidate_call sat kind cop w t) = Unit {0}
WeekFits (ask_call f sat) = Unit {0}
WeekFits reset_call = Unit {0}

-- each of them is such a call
abbrev pub WeeksFit : List Call → Type 0
WeeksFit [] = Unit {0}
WeeksFit (c ∷ before) = WeekFits c × WeeksFit before

-- how far a call may write: to the end of the store that it makes, or of the one that it is lent
abbrev pub reach : Call → List ℕ → ℕ
reach (fresh_call d n rule) room = room_size d n
reach (feed_call word sat w t band) room = room_size (depth room) (slots room)
reach (tag_call sat kind cop l status w t given verdict) room = room_size (depth room) (slots room)
reach (candidate_call sat kind cop w t) room = 0
reach (ask_call f sat) room = 0
reach reset_call room = room_size (depth room) (slots room)

-- how many bytes a call goes by: those of the store that it makes, or of the one that it is lent
abbrev pub goes_by : Call → List ℕ → ℕ
goes_by (fresh_call d n rule) room = room_size d n
goes_by (feed_call word sat w t band) room = room_size (depth room) (slots room)
goes_by (tag_call sat kind cop l status w t given verdict) room = room_size (depth room) (slots room)
goes_by (candidate_call sat kind cop w t) room = room_size (depth room) (slots room)
goes_by (ask_call f sat) room = room_size (depth room) (slots room)
goes_by reset_call room = room_size (depth room) (slots room)

-- a call that is refused on any room
abbrev pub refused_call : Call
refused_call = fresh_call 0 0 0

-- a call that is lent the first k bytes of a room, as the whole room sees it: refused, if it goes by more
unfoldable pub on_whole : ℕ → Call → List ℕ → Call
on_whole k c room = cond (leb (goes_by c room) k) c refused_call

-- a call that makes no store longer than k
abbrev pub MakesWithin : ℕ → Call → Type 0
MakesWithin k (fresh_call d n rule) = room_size d n ≤ k
MakesWithin k (feed_call word sat w t band) = Unit {0}
MakesWithin k (tag_call sat kind cop l status w t given verdict) = Unit {0}
MakesWithin k (candidate_call sat kind cop w t) = Unit {0}
MakesWithin k (ask_call f sat) = Unit {0}
MakesWithin k reset_call = Unit {0}

-- each of them is such a call
abbrev pub MakeWithin : ℕ → List Call → Type 0
MakeWithin k [] = Unit {0}
MakeWithin k (c ∷ before) = MakesWithin k c × MakeWithin k before
