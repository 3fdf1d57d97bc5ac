use Rattle.std.proofs.Common.{◌≡◌, true, false, rules, tests}
use Rattle.std.proofs.lemmas.Iterator.{YieldsList-from_slice, IsFirst-from_position}
use Rattle.market.specs.declared.Quote.{Quote}
use Rattle.book.proofs.Standing.{his, place_leaves}
use Rattle.book.proofs.quotes.place_of.Goals as goal

pub returns-clause-without : goal.returns-clause-without
returns-clause-without c =
    place_leaves c.args.dealer c.args.quotes.now _ (IsFirst-from_position _ _ _ (λ (q : Quote). his c.args.dealer q ≡ true) (λ (q : Quote). his c.args.dealer q ≡ false) c.position.ensures.ran (YieldsList-from_slice c.args.quotes.now cc) (λ x q k. search (rules, tests)) (λ x q k. search (rules, tests)))
