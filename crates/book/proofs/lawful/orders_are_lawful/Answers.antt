use Rattle.std.proofs.Common.{rules, tests}
use Rattle.std.proofs.lemmas.Iterator.{YieldsList-from_slice}
use Rattle.std.proofs.lemmas.Iterator.Search.{all_from_yields_List}
use Rattle.market.specs.State.{lawful_order}
use Rattle.book.proofs.lawful.orders_are_lawful.Goals as goal

pub returns-then-all : goal.returns-then-all
returns-then-all g c =
    let is = all_from_yields_List (lawful_order c.args.taped) _ _ c.all.result c.all.ensures.ran (YieldsList-from_slice c.args.orders.now cc) (λ x b q k. search (rules, tests)) in
    rw (← is) (search rules)
