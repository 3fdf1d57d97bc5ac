use Rattle.std.proofs.Common.{sym, ◌∙◌, rules, tests}
use Rattle.std.proofs.lemmas.Iterator.{YieldsList-from_slice}
use Rattle.std.proofs.lemmas.Iterator.Search.{find_from_yields_List}
use Rattle.book.proofs.Standing.{his, quote_is_found}
use Rattle.book.proofs.quotes.quote_of.Goals as goal

pub returns : goal.returns
returns c =
    let found = find_from_yields_List (his c.args.dealer) _ _ c.find.result c.find.ensures.ran (YieldsList-from_slice c.args.quotes.now cc) (λ x b q k. search (rules, tests)) in
    c.copied.ensures ∙ found ∙ sym (quote_is_found c.args.dealer c.args.quotes.now)
