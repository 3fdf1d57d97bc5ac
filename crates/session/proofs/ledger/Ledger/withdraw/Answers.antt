use Rattle.market.specs.Events.{withdrawal_step, withdrawn}
use Rattle.std.proofs.lemmas.Result.{err_from_is_err_and}
use Rattle.session.proofs.Calls.{refused, accepted, settled_then, left_behind}
use Rattle.session.proofs.ledger.Ledger.withdraw.Goals as goal

pub returns-in_err-may_withdraw : goal.returns-in_err-may_withdraw
unfolding withdrawal_step
returns-in_err-may_withdraw g c =
    let p = err_from_is_err_and c.from_residual.result c.from_residual.ensures.1 in
    rw (p.1, p.2) (refused g.P.Taking.phase _ _ _ _ _ (c.in_err-may_withdraw.ensures.first g.P.Taking.phase))

pub returns : goal.returns
unfolding withdrawal_step
returns g c =
    let phase = g.P.Taking.phase in
    accepted phase _ _ _ phase _ _ _ _ (c.in_ok-may_withdraw.ensures.first phase)
    (settled_then phase (withdrawn c.args.dealer) _ _ _ _ _ c.take_out.ensures c.settle.ensures)
    c.take_out.ensures.longer
    (left_behind phase (withdrawn c.args.dealer) _ _ _ _ _ c.take_out.ensures c.settle.ensures)
