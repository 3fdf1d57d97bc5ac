use Rattle.std.proofs.Common.{◌∙◌}
use Rattle.market.specs.Events.{clock_step, stepped}
use Rattle.std.proofs.lemmas.Result.{err_from_is_err_and}
use Rattle.session.proofs.Calls.{refused, accepted, settled_then, left_behind, answered}
use Rattle.session.proofs.ledger.Ledger.step.Goals as goal

pub returns-in_err-may_step : goal.returns-in_err-may_step
unfolding clock_step
returns-in_err-may_step g c =
    let p = err_from_is_err_and c.from_residual.result c.from_residual.ensures.1 in
    rw (p.1, p.2) (refused g.P.Taking.phase _ _ _ _ _ (c.in_err-may_step.ensures.first g.P.Taking.phase (c.LATEST.ensures ∙ g.P.Taking.latest_is)))

pub returns : goal.returns
unfolding clock_step
returns g c =
    let phase = g.P.Taking.phase in
    answered _ _ _ _ _ _ _ _ c.set_clock-late.ensures.late
    (accepted phase _ _ _ phase _ _ _ _ (c.in_ok-may_step.ensures.first phase (c.LATEST.ensures ∙ g.P.Taking.latest_is))
    (settled_then phase (stepped c.args.time) _ _ _ _ _ c.set_clock-late.ensures.became c.settle.ensures)
    c.set_clock-late.ensures.became.longer
    (left_behind phase (stepped c.args.time) _ _ _ _ _ c.set_clock-late.ensures.became c.settle.ensures))
