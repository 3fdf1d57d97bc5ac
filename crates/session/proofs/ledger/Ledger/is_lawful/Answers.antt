use Rattle.std.proofs.Common.{sym, ◌∙◌}
use Rattle.market.specs.State.{before_bell, lawful_book}
use Rattle.book.specs.View.{rule_of}
use Rattle.session.proofs.Readiness.{good_book}
use Rattle.session.proofs.ledger.Ledger.is_lawful.Goals as goal

pub returns : goal.returns
unfolding lawful_book
returns g c =
    let rule = rule_of (g.R.Rule.quotes c.args.rule.now) (g.R.Rule.orders c.args.rule.now) in
    record {
      good = λ yes. good_book rule before_bell c.args.self.now c.args.memory.now (sym c.is_lawful.ensures ∙ yes);
      test = λ phase. c.is_lawful.ensures;
    }
