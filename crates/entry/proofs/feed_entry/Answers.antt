-- `feed_entry` tests in the paper's order: each return is the first test that fails, behind those that hold.
use mathlib.Core.Path.{◌≡◌, sym, ◌∙◌}
use mathlib.Core.Bool.{true}
use Rattle.paper.specs.Store.{is_store}
use Rattle.paper.proofs.StoreFacts.{store_facts}
use Rattle.entry.proofs.feed_entry.Goals as goal

pub comes_earlier-requires : goal.comes_earlier-requires
comes_earlier-requires c =
    let a-store : is_store c.args.room.now ≡ true = sym c.is_store.ensures ∙ c.if-not-is_store.false in
    store_facts _ (a-store)
