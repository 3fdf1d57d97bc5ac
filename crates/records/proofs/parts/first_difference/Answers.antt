use Rattle.std.proofs.Common.{rules}
use Rattle.std.proofs.lemmas.Iterator.{YieldsList-from_slice, YieldsList-from_zip, IsFirst-from_position}
use borrow.Author.Tests.{tests}
use Rattle.records.proofs.Fronts.{Apart, Same, first_apart}
use Rattle.records.proofs.parts.first_difference.Goals as goal

pub returns : goal.returns
returns c =
    first_apart c.args.a.now c.args.b.now _ c.requires
    (IsFirst-from_position c.position.new.self _ _ Apart Same c.position.ensures.ran
    (YieldsList-from_zip (YieldsList-from_slice c.args.a.now cc) (YieldsList-from_slice c.args.b.now cc))
    (λ x q k. search (rules, tests)) (λ x q k. search (rules, tests)))
