-- A session with its book, as lists. Assumes nothing.
use Rattle.std.specs.Prelude.{ℕ, ◌+◌, ◌-◌, Bool, cond, not, ◌&&◌, ◌||◌, List, [], ◌∷◌, ◌++◌, length, Some, None, filter, Option, ◌==◌, nat_eq, nat_le}
use Rattle.std.specs.List.{list_all}
use Rattle.market.specs.declared.Side.{Side}
use Rattle.market.specs.declared.Side.TheVariants.{Buy, Sell}
use Rattle.market.specs.declared.Quote.{Quote}
use Rattle.market.specs.declared.Order.{Order}
use Rattle.market.specs.declared.Config.{Config}
use Rattle.market.specs.declared.Duty.{Duty}
use Rattle.market.specs.declared.TapeRecord.{TapeRecord}
use Rattle.market.specs.Precedence.{Precedence, quote_before, order_before}
use Rattle.market.specs.Lists.{is_distinct, ordered}
use Rattle.market.specs.Serving.{is_whole}

-- ---- what a session consists of

-- before the bell, open for trading, closed
pub data Phase : Type 0 where
  before_bell : Phase
  trading : Phase
  over : Phase

-- the four lists of a book, in the order in which they stand
pub record Lists : Type 0 where
  pub bids : List Quote
  pub asks : List Quote
  pub buys : List Order
  pub sells : List Order

-- how many places each list and the tape have
pub record Sizes : Type 0 where
  pub bid_places : ℕ
  pub ask_places : ℕ
  pub buy_places : ℕ
  pub sell_places : ℕ
  pub tape_places : ℕ

pub record State : Type 0 where
  pub config : Config
  -- the places that were lent at the making, and those that are lent now
  pub made_with : Sizes
  pub lent_now : Sizes
  pub phase : Phase
  pub clock : ℕ
  pub halted : Bool
  -- the shares traded so far, and the sum of price times quantity over the trades
  pub shares : ℕ
  pub value : ℕ
  pub lists : Lists
  -- how dealers 1 to 16 stand to their duty, in their order
  pub duties : List Duty
  pub tape : List TapeRecord

-- the list of quotes of a side: Buy for the bids, Sell for the asks
abbrev pub quotes_of : Lists → Side → List Quote
quotes_of l Buy = l.bids
quotes_of l Sell = l.asks

-- the list of orders of a side
abbrev pub orders_of : Lists → Side → List Order
orders_of l Buy = l.buys
orders_of l Sell = l.sells

-- how many orders are open
abbrev pub open_orders : Lists → ℕ
open_orders l = length l.buys + length l.sells

-- the places of the tape that are still free
abbrev pub free_places : State → ℕ
free_places s = s.made_with.tape_places - length s.tape

-- the place on the tape, from 1, of the next record
abbrev pub next_number : State → ℕ
next_number s = length s.tape + 1

-- ---- limits

-- from the first number to the last
abbrev pub within : (low high n : ℕ) → Bool
within low high n = nat_le low n && nat_le n high

abbrev pub is_price : ℕ → Bool
is_price p = within 1 999999 p

-- one of the session's dealers
abbrev pub is_dealer : (dealers d : ℕ) → Bool
is_dealer dealers d = within 1 dealers d

-- ---- a lawful book

-- a quote that may stand in a list, where there are so many dealers and records
abbrev pub lawful_quote : (dealers count : ℕ) → Quote → Bool
lawful_quote dealers count q =
    is_dealer dealers q.dealer
    && (is_price q.price
    && (within 1 count q.arrival
    && (nat_le q.entered 256000000
    && (within 1 q.entered q.live
    && nat_le q.live 1000000))))

-- an order that may stand in a list; one entered for whole lots has whole lots left
abbrev pub lawful_order : (count : ℕ) → Order → Bool
lawful_order count o =
    within 1 count o.number
    && (is_price o.price
    && (nat_le o.entered 1000000
    && (within 1 o.entered o.left
    && (not (is_whole o.entered) || is_whole o.left))))

-- no two entries have the same number, by the number that each has
abbrev pub apart : {T : Type 0} → (T → ℕ) → List T → Bool
apart number_of xs = is_distinct (λ x y. nat_eq (number_of x) (number_of y)) xs

-- one side's quotes: each as it may be, no dealer twice, strictly in precedence
abbrev pub lawful_quotes : Precedence → Side → (dealers count : ℕ) → List Quote → Bool
lawful_quotes rule s dealers count qs =
    list_all (lawful_quote dealers count) qs
    && (apart (λ (q : Quote). q.dealer) qs
    && ordered (quote_before rule.of_quotes s) qs)

-- one side's orders: each as it may be, strictly in precedence
abbrev pub lawful_orders : Precedence → Side → (count : ℕ) → List Order → Bool
lawful_orders rule s count os = list_all (lawful_order count) os && ordered (order_before rule.of_orders s) os

-- all places that were lent are lent again
abbrev pub same_sizes : Sizes → Sizes → Bool
same_sizes x y =
    (x.bid_places == y.bid_places)
    && (x.ask_places == y.ask_places
    && (x.buy_places == y.buy_places
    && (x.sell_places == y.sell_places
    && x.tape_places == y.tape_places)))

-- the four lists, where there are so many dealers and records; no order number stands twice in both order lists together
abbrev pub lawful_lists : Precedence → (dealers count : ℕ) → Lists → Bool
lawful_lists rule dealers count l =
    lawful_quotes rule Buy dealers count l.bids
    && (lawful_quotes rule Sell dealers count l.asks
    && (lawful_orders rule Buy count l.buys
    && (lawful_orders rule Sell count l.sells
    && apart (λ (o : Order). o.number) (l.buys ++ l.sells))))

-- the book is lawful
unfoldable pub lawful_book : Precedence → State → Bool
lawful_book rule s = same_sizes s.made_with s.lent_now && lawful_lists rule s.config.dealers (length s.tape) s.lists

-- ---- a dealer's quotes

-- the entries of a list but this dealer's
abbrev pub without : (dealer : ℕ) → List Quote → List Quote
without d qs = filter (λ (q : Quote). not (q.dealer == d)) qs

-- the dealer's quote in a list
abbrev pub quote_by : (dealer : ℕ) → List Quote → Option Quote
quote_by d [] = None
quote_by d (q ∷ qs) = cond (q.dealer == d) (Some q) (quote_by d qs)

-- what is left of a quote, 0 where there is none
abbrev pub live_in : Option Quote → ℕ
live_in None = 0
live_in (Some q) = q.live

-- a quote as entered, with none of it taken
abbrev pub new_quote : (dealer price quantity arrival : ℕ) → Quote
new_quote dealer price quantity arrival = record { dealer = dealer; price = price; entered = quantity; live = quantity; arrival = arrival }
