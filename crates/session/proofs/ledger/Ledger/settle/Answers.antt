use Rattle.std.proofs.Common.{sym, refl, ap, ◌∙◌, rules}
use Rattle.market.specs.Events.{with_duties}
use Rattle.market.proofs.Settling.{settled_unwatched, settled_watched}
use Rattle.session.specs.View.{view}
use Rattle.session.proofs.ledger.Ledger.settle.Goals.{else-WATCHED-via-then-WATCHED+else-not-self, else-WATCHED-via-else-WATCHED}
use Rattle.session.proofs.ledger.Ledger.settle.Goals as goal

pub returns-then-not-self : goal.returns-then-not-self
returns-then-not-self g c =
    let before = view g.P.Taking.phase c.args.self.now c.args.memory.now in
    record {
      settles = ap (λ ds. with_duties ds before) c.watched-memory.ensures ∙ sym (settled_watched before (rw (g.P.Taking.watching_is _, ← c.WATCHED.ensures, c.if-WATCHED.true, c.if-not-self.true) refl));
      keeps_tape = refl;
    }

pub returns-else-WATCHED : goal.returns-else-WATCHED
returns-else-WATCHED g c =
    let before = view g.P.Taking.phase c.args.self.now c.args.memory.now in
    let watched = c.WATCHED.ensures in
    record {
      settles =
          sym (settled_unwatched before (g.P.Taking.watching_is _ ∙ elim c.else-WATCHED.branch [
            | else-WATCHED-via-then-WATCHED+else-not-self w ↦ search rules
            | else-WATCHED-via-else-WATCHED w ↦ search rules
          ]));
      keeps_tape = refl;
    }
