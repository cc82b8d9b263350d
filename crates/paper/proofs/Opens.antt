-- What the checker opens to compute a call: each of these, named on an `unfolding` line, opens what its own line names. Assumes nothing.
use Rattle.paper.specs.Time.{time_of_seconds, sum_of, add_seconds, add_subframes, subframe_of, is_subframe, difference, is_earlier, gone_by}
use Rattle.paper.specs.Bits.{put_bit, moved, changed}
use Rattle.paper.specs.Parts.{on_part, on_parts, all_parts, sum_parts, first_from}
use Rattle.paper.specs.Big.{be16, be32, put16, put32}
use Rattle.paper.specs.Record.{same_list, same_bits, aged, greatest, least, blank_record}
use Rattle.paper.specs.Word.{table, owned_in, takeover, written, fed_record}
use Rattle.paper.specs.Room.{each_record, every_record, how_many, how_many_in}
use Rattle.paper.specs.Store.{header_in_range, header_rest, satellite_allowed, count_has_satellite, no_bit_past, record_allowed}
use Rattle.paper.specs.Store.{slot_allowed, mark_allowed, subframe_allowed, blank_allowed, most_in, row_allowed, is_store}
use Rattle.paper.specs.Fresh.{blank_slot, blank_row, fresh}
use Rattle.paper.specs.Feed.{next_row, moves, comes_earlier, rises_by, copied, aged_row, advanced, marked_at, current_marked, settled, key, last_greatest, chosen, fed_family, fed_row, fed_current, fed}
use Rattle.paper.specs.Tag.{family_of, length_allowed, thirty_before, first_row, first_slot, candidate_row, candidate_slot}
use Rattle.paper.specs.Tag.{candidate_record, fits_cop, has_candidate, given_agrees, matches, credited, tagged, taken_by}
use Rattle.paper.specs.Ask.{has_enough, enough_slot, row_back, steps_back, answering_row, answering_record, some_enough, age_unknown, time_before}
use Rattle.paper.specs.Reset.{reset}
use Rattle.paper.specs.Answer.{fresh_number, fresh_room, feed_number, feed_room, until_candidate, tag_number, tag_answer}
use Rattle.paper.specs.Answer.{tag_room, candidate_number, candidate_data, ask_number, ask_answer, ask_data, reset_number, reset_room}
use Rattle.paper.specs.Call.{answer_to, part_to, room_after, run}

unfoldable pub times_open : Unit {0}
unfolding time_of_seconds sum_of add_seconds add_subframes subframe_of is_subframe difference is_earlier gone_by
times_open = tt

unfoldable pub bits_open : Unit {0}
unfolding put_bit moved changed
bits_open = tt

unfoldable pub parts_open : Unit {0}
unfolding on_part on_parts all_parts sum_parts first_from
parts_open = tt

unfoldable pub bytes_open : Unit {0}
unfolding be16 be32 put16 put32
bytes_open = tt

unfoldable pub records_open : Unit {0}
unfolding same_list same_bits aged greatest least blank_record
records_open = tt

unfoldable pub words_open : Unit {0}
unfolding table owned_in takeover written fed_record
words_open = tt

unfoldable pub room_open : Unit {0}
unfolding each_record every_record how_many how_many_in
room_open = tt

unfoldable pub store_open : Unit {0}
unfolding header_in_range header_rest satellite_allowed count_has_satellite no_bit_past record_allowed slot_allowed mark_allowed subframe_allowed blank_allowed most_in row_allowed is_store
store_open = tt

unfoldable pub fresh_open : Unit {0}
unfolding blank_slot blank_row fresh
fresh_open = tt

unfoldable pub feed_open : Unit {0}
unfolding next_row moves comes_earlier rises_by copied aged_row advanced marked_at current_marked settled key last_greatest chosen fed_family fed_row fed_current fed
feed_open = tt

unfoldable pub tag_open : Unit {0}
unfolding family_of length_allowed thirty_before first_row first_slot candidate_row candidate_slot candidate_record fits_cop has_candidate given_agrees matches credited tagged taken_by
tag_open = tt

unfoldable pub ask_open : Unit {0}
unfolding has_enough enough_slot row_back steps_back answering_row answering_record some_enough age_unknown time_before
ask_open = tt

unfoldable pub reset_open : Unit {0}
unfolding reset
reset_open = tt

unfoldable pub answers_open : Unit {0}
unfolding fresh_number fresh_room feed_number feed_room until_candidate tag_number tag_answer tag_room candidate_number candidate_data ask_number ask_answer ask_data reset_number reset_room
answers_open = tt

-- a call, with all of them
unfoldable pub calls_open : Unit {0}
unfolding answer_to part_to room_after run times_open bits_open parts_open bytes_open records_open words_open room_open store_open fresh_open feed_open tag_open ask_open reset_open answers_open
calls_open = tt
