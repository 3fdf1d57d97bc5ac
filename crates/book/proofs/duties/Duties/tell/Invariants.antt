use Rattle.book.proofs.ByDealer.{Told}
use Rattle.book.proofs.duties.Duties.tell.Given as goal

abbrev pub invariant-loop-i : goal.invariant-loop-i
invariant-loop-i l = Told l.time l.duties l.initial.free l.free l.told l.i
