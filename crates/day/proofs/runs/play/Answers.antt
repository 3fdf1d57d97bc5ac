use Rattle.std.proofs.Common.{rules, ◌+◌, ◌<◌, vec_items, vec_len, vec_capacity, ap, ◌∙◌, arith}
use Rattle.std.proofs.lemmas.Bool.{cond-true}
use Rattle.std.proofs.lemmas.List.{take_all}
use Rattle.market.specs.Precedence.{LawfulRule}
use Rattle.book.specs.View.{rule_of}
use Rattle.day.specs.Running.{view_of}
use Rattle.day.specs.Ran.{Played}
use Rattle.day.proofs.Plays.{played_more, ran}
use Rattle.day.proofs.runs.play.Goals as goal

pub loop-event-preserved : goal.loop-event-preserved
loop-event-preserved g c =
    let rule = rule_of (g.R.Rule.quotes c.args.rule.now) (g.R.Rule.orders c.args.rule.now) in
    let inv = c.loop-event.invariant in
    let room : vec_len c.loop-event.outcomes < vec_capacity c.loop-event.outcomes = let a = inv.1 in let b = inv.2 in let t = c.loop-event-test.true in omega arith in
    let pushed = c.push.ensures.succeeds room in
    let items = c.push.ensures.items ∙ cond-true _ _ _ pushed in
    let len = c.push.ensures.len ∙ cond-true _ _ _ pushed in (
      played_more rule c.args.session c.args.memory.now _ _ _ _ c.args.events.now c.loop-event.event-index _ _ _ _ c.loop-event-test.true inv.0 c.take-next.ensures items,
      len ∙ ap (λ n. n + 1) inv.1,
      let a = c.push.ensures.capacity in let b = inv.2 in omega arith,
    )

pub returns-clause-ran : goal.returns-clause-ran
returns-clause-ran g c made config m early is_made =
    let rule = rule_of (g.R.Rule.quotes c.args.rule.now) (g.R.Rule.orders c.args.rule.now) in
    let lawful : LawfulRule rule = record { lawful_quotes = g.met.R.Rule.quotes_lawful c.args.rule.now; lawful_orders = g.met.R.Rule.orders_lawful c.args.rule.now } in
    let played : Played rule c.args.session c.loop-event.current c.args.memory.now c.loop-event.memory c.args.events.now (vec_items c.loop-event.outcomes) = search (rules, take_all) in
    ran rule lawful config m _ _ _ _ _ _ is_made.0 (ap (λ s. view_of s c.args.memory.now) early ∙ is_made.1) is_made.6 played
