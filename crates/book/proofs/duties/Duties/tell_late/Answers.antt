use Rattle.std.proofs.Common.{rules}
use Rattle.book.proofs.ByDealer.{written_front, written_behind}
use Rattle.book.proofs.duties.Duties.tell_late.Goals as goal

pub returns-clause-tape : goal.returns-clause-tape
returns-clause-tape c = rw (← c.tell.ensures.tape) (written_front c.args.tape.now c.tell.new.free c.args.count c.tell.result (search rules) (search rules) (search rules))

pub returns-clause-behind : goal.returns-clause-behind
returns-clause-behind c = written_behind c.args.tape.now c.tell.new.free c.args.count c.tell.result (search rules) (search rules) (search rules) c.tell.ensures.behind
