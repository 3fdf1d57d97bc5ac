use Rattle.std.proofs.Common.{refl}
use Rattle.day.proofs.days.after.Goals as goal

pub returns-in-Running : goal.returns-in-Running
returns-in-Running c =
    let went = c.go_on-session.ensures in rw c.in-Running.is (went.0, went.1, (c.go_on-session.result.0, went.2, refl))
