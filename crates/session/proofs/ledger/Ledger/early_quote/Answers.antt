use Rattle.market.specs.State.{before_bell}
use Rattle.market.specs.Events.{early_quote_step}
use Rattle.std.proofs.lemmas.Result.{err_from_is_err_and}
use Rattle.session.proofs.Calls.{refused, accepted}
use Rattle.session.proofs.ledger.Ledger.early_quote.Goals as goal

pub returns-in_err-may_quote : goal.returns-in_err-may_quote
unfolding early_quote_step
returns-in_err-may_quote g c =
    let p = err_from_is_err_and c.from_residual.result c.from_residual.ensures.1 in
    rw (p.1, p.2) (refused before_bell _ _ _ _ _ (c.in_err-may_quote.ensures.first before_bell))

pub returns : goal.returns
unfolding early_quote_step
returns g c = accepted before_bell _ _ _ before_bell _ _ _ _ (c.in_ok-may_quote.ensures.first before_bell) (c.enter_pair.ensures.becomes before_bell) c.enter_pair.ensures.longer c.enter_pair.ensures.leaves
