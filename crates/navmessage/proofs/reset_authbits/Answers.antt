-- `reset_authbits` acts only on a store.
use mathlib.Core.Path.{sym, ◌∙◌}
use Rattle.paper.proofs.StoreFacts.{store_facts}
use Rattle.navmessage.proofs.reset_authbits.Goals as goal

pub reset_room-requires : goal.reset_room-requires
reset_room-requires c = (store_facts _ (sym c.is_store.ensures ∙ c.if-not-is_store.false)).fits
