-- A lawful book, as facts, and what keeps a side's quotes and orders lawful. Assumes nothing.
use Rattle.std.proofs.Common.{◌≡◌, ℕ, ◌<◌, ◌≤◌, Bool, true, not, eqb, List, ◌++◌, length, Decides, filter, refl, arith}
use Rattle.std.specs.List.{AllByRecursion, list_all}
use Rattle.std.proofs.ByRecursion.{All-weaker, all_kept_by, Decides-by_and}
use Rattle.std.proofs.lemmas.Bool.Decides.{nat_tests, Decides-and}
use Rattle.market.specs.declared.Side.{Side}
use Rattle.market.specs.declared.Side.TheVariants.{Buy, Sell}
use Rattle.market.specs.declared.Quote.{Quote}
use Rattle.market.specs.declared.Order.{Order}
use Rattle.market.specs.Precedence.{Precedence, LawfulRule, quote_before, order_before, quote_key}
use Rattle.market.specs.Lists.{placed, Ordered}
use Rattle.market.specs.State.{State, quotes_of, orders_of, lawful_quote, lawful_order, lawful_quotes, lawful_orders, lawful_lists, lawful_book, same_sizes, without}
use Rattle.market.proofs.InOrder.{Chain, all_placed, ordered_placed}
use Rattle.market.proofs.Finds.{differ, apart_tells, ordered_kept, chain_kept, differ_replaced}

-- the numbers by which quotes and orders are looked up
abbrev pub dealer_of : Quote → ℕ
dealer_of q = q.dealer

abbrev pub number_of : Order → ℕ
number_of o = o.number

-- what holds of both sides
abbrev pub both_sides : (P : Side → Type 0) → P Buy → P Sell → (side : Side) → P side
both_sides P buy sell Buy = buy
both_sides P buy sell Sell = sell

-- ---- as facts

-- the tests `lawful_quotes` and `lawful_orders`
abbrev pub QuotesFit : Precedence → Side → (dealers count : ℕ) → List Quote → Type 0
QuotesFit rule side dealers count qs = AllByRecursion (λ q. lawful_quote dealers count q ≡ true) qs × (Chain (differ dealer_of) qs × Ordered (quote_before rule.of_quotes side) qs)

abbrev pub OrdersFit : Precedence → Side → (count : ℕ) → List Order → Type 0
OrdersFit rule side count os = AllByRecursion (λ o. lawful_order count o ≡ true) os × Ordered (order_before rule.of_orders side) os

-- the test `lawful_book`
pub record Sound (rule : Precedence) (s : State) : Type 0 where
  pub lent_again : same_sizes s.made_with s.lent_now ≡ true
  pub quotes_fit : (side : Side) → QuotesFit rule side s.config.dealers (length s.tape) (quotes_of s.lists side)
  pub orders_fit : (side : Side) → OrdersFit rule side (length s.tape) (orders_of s.lists side)
  pub numbers_differ : Chain (differ number_of) (s.lists.buys ++ s.lists.sells)

all_tells : {T : Type 0} (test : T → Bool) (xs : List T) → Decides (list_all test xs) (AllByRecursion (λ x. test x ≡ true) xs)
all_tells test xs = Decides-by_and test (λ x. test x ≡ true) (list_all test) (λ x. (λ e. e, λ e. e)) refl (λ _ _. refl) xs

quotes_tell : (rule : Precedence) (side : Side) (dealers count : ℕ) (qs : List Quote) → Decides (lawful_quotes rule side dealers count qs) (QuotesFit rule side dealers count qs)
quotes_tell rule side dealers count qs =
    Decides-and _ _ (all_tells (lawful_quote dealers count) qs) (Decides-and _ _ (apart_tells dealer_of qs) (λ e. e, λ e. e))

orders_tell : (rule : Precedence) (side : Side) (count : ℕ) (os : List Order) → Decides (lawful_orders rule side count os) (OrdersFit rule side count os)
orders_tell rule side count os = Decides-and _ _ (all_tells (lawful_order count) os) (λ e. e, λ e. e)

-- the facts are what the test tells
pub sound_tells : (rule : Precedence) (s : State) → Decides (lawful_book rule s) (Sound rule s)
unfolding lawful_book
sound_tells rule s =
    let dealers = s.config.dealers in
    let count = length s.tape in
    let l = s.lists in
    let bids = quotes_tell rule Buy dealers count l.bids in
    let asks = quotes_tell rule Sell dealers count l.asks in
    let buys = orders_tell rule Buy count l.buys in
    let sells = orders_tell rule Sell count l.sells in
    let numbers = apart_tells number_of (l.buys ++ l.sells) in
    let lists_tell = Decides-and _ _ bids (Decides-and _ _ asks (Decides-and _ _ buys (Decides-and _ _ sells numbers))) in
    let tell = Decides-and (same_sizes s.made_with s.lent_now) (lawful_lists rule dealers count l) (λ e. e, λ e. e) lists_tell in (
      λ e. let h = tell.0 e in record {
        lent_again = h.0;
        quotes_fit = both_sides (λ side. QuotesFit rule side dealers count (quotes_of l side)) h.1.0 h.1.1.0;
        orders_fit = both_sides (λ side. OrdersFit rule side count (orders_of l side)) h.1.1.1.0 h.1.1.1.1.0;
        numbers_differ = h.1.1.1.1.1;
      },
      λ h. tell.1 (h.lent_again, (h.quotes_fit Buy, (h.quotes_fit Sell, (h.orders_fit Buy, (h.orders_fit Sell, h.numbers_differ))))),
    )

-- ---- what keeps them

module _ (rule : Precedence) (side : Side) where
  -- a longer tape
  pub quotes_later : (dealers count more : ℕ) → count ≤ more → (qs : List Quote) → QuotesFit rule side dealers count qs → QuotesFit rule side dealers more qs
  quotes_later dealers count more l qs h = (All-weaker _ (λ q. lawful_quote dealers more q ≡ true) (λ q e. grind (arith, nat_tests)) qs h.0, h.1)

  pub orders_later : (count more : ℕ) → count ≤ more → (os : List Order) → OrdersFit rule side count os → OrdersFit rule side more os
  orders_later count more l os h = (All-weaker _ (λ o. lawful_order more o ≡ true) (λ o e. grind (arith, nat_tests)) os h.0, h.1)

  module _ (dealers count : ℕ) where
    -- a filter
    pub quotes_kept : (p : Quote → Bool) (qs : List Quote) → QuotesFit rule side dealers count qs → QuotesFit rule side dealers count (filter p qs)
    quotes_kept p qs h = (all_kept_by p _ qs h.0, (chain_kept (differ dealer_of) p qs h.1.0, ordered_kept (quote_before rule.of_quotes side) p qs h.1.1))

    -- a quote that comes later than all others takes the place of its dealer's
    pub quotes_replaced : LawfulRule rule → (more : ℕ) → count ≤ more → (q : Quote) → count < q.arrival → lawful_quote dealers more q ≡ true → (qs : List Quote) → QuotesFit rule side dealers count qs → QuotesFit rule side dealers more (placed (quote_before rule.of_quotes side) q (without q.dealer qs))
    quotes_replaced lawful more l q later fits qs h =
        let before = quote_before rule.of_quotes side in
        let law = lawful.lawful_quotes side in
        let rest = quotes_kept (λ x. not (eqb x.dealer q.dealer)) qs h in
        let new : AllByRecursion (λ (y : Quote). q.arrival ≡ y.arrival → ⊥) (without q.dealer qs) = All-weaker _ _ (λ y e same. absurd (let f : y.arrival ≤ count = grind (arith, nat_tests) in omega arith)) _ rest.0 in (
          all_placed before (λ x. lawful_quote dealers more x ≡ true) q _ fits (quotes_later dealers count more l _ rest).0,
          (
            differ_replaced dealer_of before q qs h.1.0,
            ordered_placed before (λ x y z. law.transitive (quote_key x) (quote_key y) (quote_key z)) (λ x. x.arrival) (λ x y. law.decides (quote_key x) (quote_key y)) q _ _ refl new rest.1.1,
          ),
        )
