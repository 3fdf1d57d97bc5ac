-- What a lawful book tells of the lent memory. Assumes nothing.
use Rattle.std.proofs.Common.{◌≡◌, ℕ, ◌≤◌, true, eqb, leb, length, sym, arith}
use Rattle.std.proofs.lemmas.List.{length-take-le}
use Rattle.std.proofs.lemmas.Bool.{and_parts, eqb-true, leb-true}
use Rattle.market.specs.declared.Side.TheVariants.{Buy, Sell}
use Rattle.market.specs.Precedence.{Precedence}
use Rattle.market.specs.State.{Phase, is_dealer, lawful_book, new_quote}
use Rattle.market.proofs.Finds.{apart_tells}
use Rattle.market.proofs.LawfulBooks.{dealer_of, Sound, sound_tells}
use Rattle.market.proofs.Pigeonhole.{room_for}
use Rattle.book.specs.declared.memory.Memory.{Memory}
use Rattle.session.specs.declared.ledger.Ledger.{Ledger}
use Rattle.session.specs.View.{view, Lent, GoodBook}

module _ (rule : Precedence) (phase : Phase) (l : Ledger) (m : Memory) (lawful : lawful_book rule (view phase l m) ≡ true) where
  facts : Sound rule (view phase l m)
  facts = (sound_tells rule (view phase l m)).0 lawful

  all_lent : Lent l m
  all_lent =
      let bids = and_parts (eqb l.places.bids (length m.bids.now)) _ facts.lent_again in
      let asks = and_parts (eqb l.places.asks (length m.asks.now)) _ bids.1 in
      let buys = and_parts (eqb l.places.buys (length m.buys.now)) _ asks.1 in
      let sells = and_parts (eqb l.places.sells (length m.sells.now)) _ buys.1 in
      record {
        lent_bids = sym (eqb-true _ _ bids.0);
        lent_asks = sym (eqb-true _ _ asks.0);
        lent_buys = sym (eqb-true _ _ buys.0);
        lent_sells = sym (eqb-true _ _ sells.0);
        lent_tape = sym (eqb-true _ _ sells.1);
      }

  pub good_book : GoodBook l m
  good_book =
      let dealers = l.config.dealers in
      let few : dealers ≤ 16 = l.few_dealers in
      let up_to : (d : ℕ) → is_dealer dealers d ≡ true → (1 ≤ d) × (d ≤ dealers) = λ d h. let b = and_parts (leb 1 d) _ h in (leb-true _ _ b.0, leb-true _ _ b.1) in
      record {
        lent = all_lent;
        no_twice = record {
          apart_bids = (apart_tells dealer_of _).1 (facts.quotes_fit Buy).1.0;
          apart_asks = (apart_tells dealer_of _).1 (facts.quotes_fit Sell).1.0;
        };
        counted_buys = let e = all_lent.lent_buys in let f = l.fit_buys in length-take-le _ _ (omega arith);
        counted_sells = let e = all_lent.lent_sells in let f = l.fit_sells in length-take-le _ _ (omega arith);
        counted_tape = let e = all_lent.lent_tape in let f = l.fit_tape in length-take-le _ _ (omega arith);
        bid_room = λ d h. let r = room_for rule Buy dealers _ _ (facts.quotes_fit Buy) (new_quote d 0 0 0) (up_to d h) in omega arith;
        ask_room = λ d h. let r = room_for rule Sell dealers _ _ (facts.quotes_fit Sell) (new_quote d 0 0 0) (up_to d h) in omega arith;
      }
