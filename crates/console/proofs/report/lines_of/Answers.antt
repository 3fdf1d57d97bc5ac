use Rattle.console.proofs.Lines.{begun_all}
use Rattle.console.proofs.report.lines_of.Goals as goal

pub returns : goal.returns
returns c = begun_all c.args.file.now c.args.day.now c.args.memory.now _ _ _ _ c.in-None.ensures.steps.1.0 c.loop-piece.invariant.1
