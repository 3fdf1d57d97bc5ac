use Rattle.std.proofs.Common.{◌≡◌, true, false, refl, sym, ◌∙◌, rules, tests}
use Rattle.std.proofs.lemmas.Iterator.{IsFirst-from_position, YieldsList-from_slice, index_from_first}
use Rattle.market.proofs.InOrder.{ordered_placed}
use Rattle.precedence.proofs.Slices.{ahead, ahead_stops, ahead_passes, placed_at}
use Rattle.precedence.proofs.list.place.Goals as goal

pub returns-clause-at : goal.returns-clause-at
returns-clause-at g c =
    let b = g.T.Ranked.before c.args.rule.now c.args.side in
    let x = c.args.item.now in
    let xs = c.args.entries.now in
    let first = IsFirst-from_position _ _ _ (λ y. b x y ≡ true) (λ y. b x y ≡ false) c.position.ensures.ran (YieldsList-from_slice xs cc) (λ y q k. search (rules, tests)) (λ y q k. search (rules, tests)) in
    let at : ahead b x xs ≡ c.unwrap_or.result = index_from_first (ahead b x) (λ y. b x y ≡ true) (λ y. b x y ≡ false) refl (ahead_stops b x) (ahead_passes b x) xs _ first ∙ sym c.unwrap_or.ensures in
    rw (← at) (placed_at b x xs)

pub returns-clause-ordered : goal.returns-clause-ordered
returns-clause-ordered g c =
    ordered_placed _ (g.met.T.Ranked.transitive c.args.rule.now c.args.side) _ (g.met.T.Ranked.decides c.args.rule.now c.args.side) c.args.item.now c.args.entries.now _ (returns-clause-at g c)
