use Rattle.std.proofs.Common.{◌≡◌, min}
use Rattle.market.specs.Events.{of_dealers, duty_at}
use Rattle.book.proofs.duties.Duties.mark_late.Given as goal

abbrev pub invariant-loop-i : goal.invariant-loop-i
invariant-loop-i l = l.duty-items ≡ of_dealers (λ _. duty_at l.time) (min l.i l.dealers) l.initial.duty-items
