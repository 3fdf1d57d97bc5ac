use Rattle.std.proofs.Common.{◌≡◌, min}
use Rattle.market.specs.Events.{duties_after}
use Rattle.book.proofs.duties.Duties.watch.Given as goal

abbrev pub invariant-loop-i : goal.invariant-loop-i
invariant-loop-i l = l.duty-items ≡ duties_after l.clock (min l.i l.dealers) l.bids l.asks l.initial.duty-items
