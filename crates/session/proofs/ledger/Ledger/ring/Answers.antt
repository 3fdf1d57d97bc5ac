use Rattle.std.proofs.Common.{cond, not, drop, Some, None, ap, arith}
use Rattle.market.specs.declared.Refusal.{Refusal}
use Rattle.market.specs.State.{before_bell, trading}
use Rattle.market.specs.Events.{bell_step}
use Rattle.session.specs.View.{unless_refused}
use Rattle.session.proofs.Calls.{refused, accepted}
use Rattle.session.proofs.ledger.Ledger.ring.Goals as goal

pub returns-then-not-is_lawful : goal.returns-then-not-is_lawful
unfolding bell_step
returns-then-not-is_lawful g c =
    refused before_bell _ _ _ _ _ (ap (λ b. unless_refused (cond (not b) (Some Refusal.UnlawfulBook) None)) (c.if-not-is_lawful.ensures.test before_bell))

pub returns : goal.returns
unfolding bell_step
returns g c =
    accepted before_bell _ _ _ trading _ _ _ _
    (ap (λ b. unless_refused (cond (not b) (Some Refusal.UnlawfulBook) None)) (c.if-not-is_lawful.ensures.test before_bell))
    c.settle.ensures.settles
    (omega arith)
    (ap (drop c.args.self.now.counts.tape) c.settle.ensures.keeps_tape)
