use Rattle.std.proofs.Common.{arith}
use Rattle.session.proofs.Limits.{allowed}
use Rattle.session.proofs.ledger.Ledger.new.Goals as goal

pub invariant_of-result : goal.invariant_of-result
invariant_of-result c =
    let a = allowed c.args.config c.args.places c.requires in
    record {
      few_dealers = a.few_dealers;
      bid_places = a.bid_places;
      ask_places = a.ask_places;
      buy_places = a.buy_places;
      sell_places = a.sell_places;
      tape_places = a.tape_places;
      fit_bids = omega arith;
      fit_asks = omega arith;
      fit_buys = omega arith;
      fit_sells = omega arith;
      fit_tape = omega arith;
      in_time = omega arith;
      few_shares = omega arith;
      low_value = omega arith;
    }
