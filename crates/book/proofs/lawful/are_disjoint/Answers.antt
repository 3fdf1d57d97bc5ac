use Rattle.std.proofs.Common.{rules, tests}
use Rattle.std.proofs.lemmas.Iterator.{YieldsList-from_slice}
use Rattle.std.proofs.lemmas.Iterator.Search.{all_from_yields_List}
use Rattle.book.specs.View.{lacks}
use Rattle.book.proofs.Passes.{apart_both}
use Rattle.book.proofs.lawful.are_disjoint.Goals as goal

pub returns : goal.returns
returns g c =
    let number = g.T.Numbered.number in
    let is = all_from_yields_List (λ x. lacks number (number x) c.args.others.now) _ _ c.all.result c.all.ensures.ran (YieldsList-from_slice c.args.entries.now cc) (λ x b q k. search (rules, tests)) in
    record { disjoint = is; apart = rw is (apart_both number c.args.entries.now c.args.others.now) }
