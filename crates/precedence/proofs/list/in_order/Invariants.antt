use Rattle.std.proofs.Common.{◌≡◌, true}
use Rattle.std.specs.List.{AllAdjacentBelow}
use Rattle.precedence.proofs.Slices.{Told}
use Rattle.precedence.proofs.list.in_order.Given as goal

-- each entry so far precedes the next, and what that tells of the whole list
abbrev pub invariant-loop-i : goal.invariant-loop-i
invariant-loop-i g l =
    let b = g.T.Ranked.before l.rule l.side in
    AllAdjacentBelow (λ x y. b x y ≡ true) l.entries l.i × Told b l.entries
