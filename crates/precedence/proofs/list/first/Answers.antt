use Rattle.std.proofs.Common.{rules}
use Rattle.market.proofs.InOrder.{first_leads}
use Rattle.precedence.proofs.list.first.Goals as goal

pub returns-clause-leads : goal.returns-clause-leads
returns-clause-leads g c = λ b. first_leads b c.args.entries.now _ (search rules)
