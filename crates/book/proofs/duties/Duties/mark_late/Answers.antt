use Rattle.std.proofs.Common.{rules}
use Rattle.market.specs.Events.{duty_at}
use Rattle.book.proofs.ByDealer.{one_more, no_more, at_end}
use Rattle.book.proofs.duties.Duties.mark_late.Goals.{then-i-from, else-i-from}
use Rattle.book.proofs.duties.Duties.mark_late.Goals as goal

pub loop-i-preserved : goal.loop-i-preserved
loop-i-preserved c =
    elim c.if-i-from.branch [
      | then-i-from w ↦ rw w.duty-items-is (one_more (λ _. duty_at c.args.time) c.args.self.now.states c.args.dealers c.loop-i.duty-items c.loop-i.i _ _ (search rules) c.loop-i.invariant w.at_time.ensures)
      | else-i-from w ↦ rw w.duty-items-is (no_more (λ _. duty_at c.args.time) c.args.self.now.states c.args.dealers c.loop-i.duty-items c.loop-i.i _ (search rules) c.loop-i.invariant)
    ]

pub returns : goal.returns
returns c = at_end (λ _. duty_at c.args.time) c.args.self.now.states c.args.dealers _ c.loop-i.i (search rules) c.loop-i.invariant
