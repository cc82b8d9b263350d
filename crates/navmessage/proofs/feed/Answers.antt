-- `feed` acts only where its tests were passed: then the room is a store, the word is of its length and the time is one.
use Rattle.refusals.proofs.Answers.{does}
use Rattle.navmessage.proofs.Replies.{fed_passed}
use Rattle.navmessage.proofs.feed.Goals as goal

pub feed_word-requires : goal.feed_word-requires
feed_word-requires c = fed_passed _ _ _ _ _ _ (does _ _ _ c.in_ok-feed_entry.was c.feed_entry.ensures)
