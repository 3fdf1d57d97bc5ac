use Rattle.std.proofs.Common.{◌≡◌, ◌≤◌, length, take, vec_items, vec_len, vec_capacity}
use Rattle.book.specs.View.{rule_of}
use Rattle.day.specs.Ran.{Played}
use Rattle.day.proofs.runs.play.Given as goal

-- the events so far were taken, and there is still room for an outcome of each event
abbrev pub invariant-loop-event : goal.invariant-loop-event
invariant-loop-event g l =
    let rule = rule_of (g.R.Rule.quotes l.rule) (g.R.Rule.orders l.rule) in
    Played rule l.initial.current l.current l.initial.memory l.memory (take l.event-index l.events) (vec_items l.outcomes)
    × (vec_len l.outcomes ≡ l.event-index)
    × (length l.events ≤ vec_capacity l.outcomes)
