-- When an event brings the duties up to date. Assumes nothing.
use Rattle.std.proofs.Common.{◌≡◌, true, false}
use Rattle.std.proofs.lemmas.Bool.{cond-true, cond-false}
use Rattle.market.specs.State.{State}
use Rattle.market.specs.Events.{duties_after, watching, with_duties, settled}

-- not where they are not watched
pub settled_unwatched : (s : State) → watching s.phase s.halted ≡ false → settled s ≡ s
unfolding settled
settled_unwatched s e = cond-false (watching s.phase s.halted) _ s e

-- otherwise each dealer's
pub settled_watched : (s : State) → watching s.phase s.halted ≡ true → settled s ≡ with_duties (duties_after s.clock s.config.dealers s.lists.bids s.lists.asks s.duties) s
unfolding settled
settled_watched s e = cond-true (watching s.phase s.halted) _ s e
