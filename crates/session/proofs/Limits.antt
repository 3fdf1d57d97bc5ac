-- What the test of a making tells of its numbers and places. Assumes nothing.
use Rattle.std.proofs.Common.{◌≡◌, ◌≤◌, true, eqb, leb}
use Rattle.std.proofs.lemmas.Bool.{and_parts, leb-true, eqb-true}
use Rattle.market.specs.declared.Config.{Config}
use Rattle.market.specs.Serving.{is_whole}
use Rattle.market.specs.State.{within}
use Rattle.market.specs.Events.{may_be_made}
use Rattle.book.specs.declared.memory.Lengths.{Lengths}
use Rattle.book.specs.View.{sizes_of}

pub record Allowed (c : Config) (p : Lengths) : Type 0 where
  pub few_dealers : c.dealers ≤ 16
  pub bid_places : p.bids ≡ 16
  pub ask_places : p.asks ≡ 16
  pub buy_places : p.buys ≤ 256
  pub sell_places : p.sells ≤ 256
  pub tape_places : p.tape ≤ 65536

pub allowed : (c : Config) (p : Lengths) → may_be_made c (sizes_of p) ≡ true → Allowed c p
allowed c p h =
    let dealers = and_parts (within 2 16 c.dealers) _ h in
    let least = and_parts (within 1000 100000 c.least_quantity) _ dealers.1 in
    let whole = and_parts (is_whole c.least_quantity) _ least.1 in
    let average = and_parts (leb c.previous_average 999999) _ whole.1 in
    let kind = and_parts (leb c.day_kind 4) _ average.1 in
    let bids = and_parts (eqb p.bids 16) _ kind.1 in
    let asks = and_parts (eqb p.asks 16) _ bids.1 in
    let buys = and_parts (within 1 256 p.buys) _ asks.1 in
    let sells = and_parts (within 1 256 p.sells) _ buys.1 in
    record {
      few_dealers = leb-true _ _ (and_parts (leb 2 c.dealers) _ dealers.0).1;
      bid_places = eqb-true _ _ bids.0;
      ask_places = eqb-true _ _ asks.0;
      buy_places = leb-true _ _ (and_parts (leb 1 p.buys) _ buys.0).1;
      sell_places = leb-true _ _ (and_parts (leb 1 p.sells) _ sells.0).1;
      tape_places = leb-true _ _ (and_parts (leb 64 p.tape) _ sells.1).1;
    }
