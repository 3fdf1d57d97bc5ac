use Rattle.std.proofs.Common.{arith}
use Rattle.precedence.proofs.Slices.{told}
use Rattle.precedence.proofs.list.in_order.Goals as goal

pub loop-i-init : goal.loop-i-init
loop-i-init g c =
    (λ k d h. absurd (omega arith), told (g.T.Ranked.before c.args.rule.now c.args.side) (g.met.T.Ranked.transitive c.args.rule.now c.args.side) c.args.entries.now)

pub returns : goal.returns
returns g c = c.loop-i.invariant.1.through c.loop-i.i c.loop-i-test.false c.loop-i.invariant.0
