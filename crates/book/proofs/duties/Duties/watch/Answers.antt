use Rattle.std.proofs.Common.{rules, ap, ◌∙◌}
use Rattle.market.specs.Events.{quotes_both, duty_after}
use Rattle.book.proofs.ByDealer.{one_more, no_more, at_end}
use Rattle.book.proofs.duties.Duties.watch.Goals.{then-dealer-dealers, else-dealer-dealers}
use Rattle.book.proofs.duties.Duties.watch.Goals as goal

pub loop-i-preserved : goal.loop-i-preserved
loop-i-preserved c =
    elim c.if-dealer-dealers.branch [
      | then-dealer-dealers w ↦
          rw w.duty-items-is (one_more (λ d. duty_after c.args.clock (quotes_both c.args.bids.now c.args.asks.now d)) c.args.self.now.states c.args.dealers c.loop-i.duty-items c.loop-i.i _ _ (search rules) c.loop-i.invariant (w.after.ensures ∙ ap (λ b. duty_after c.args.clock b _) w.quotes_both.ensures))
      | else-dealer-dealers w ↦
          rw w.duty-items-is (no_more (λ d. duty_after c.args.clock (quotes_both c.args.bids.now c.args.asks.now d)) c.args.self.now.states c.args.dealers c.loop-i.duty-items c.loop-i.i _ (search rules) c.loop-i.invariant)
    ]

pub returns : goal.returns
returns c =
    at_end (λ d. duty_after c.args.clock (quotes_both c.args.bids.now c.args.asks.now d)) c.args.self.now.states c.args.dealers _ c.loop-i.i (search rules) c.loop-i.invariant
