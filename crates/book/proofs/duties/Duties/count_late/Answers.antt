use Rattle.std.proofs.Common.{rules, tests, take}
use Rattle.book.proofs.ByDealer.{late_count}
use Rattle.book.proofs.duties.Duties.count_late.Goals as goal

pub returns : goal.returns
returns c = rw (late_count c.args.time 1 (take c.args.dealers c.args.self.now.states)) (search (rules, tests))
