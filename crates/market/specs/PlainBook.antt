-- The plain book: the live quotes and open orders as the log of a run alone makes them, without lists and precedence. Assumes nothing.
use Rattle.std.specs.Prelude.{ℕ, zero, suc, ◌+◌, ◌-◌, max, Bool, true, false, cond, ◌&&◌, List, [], ◌∷◌, ◌++◌, is_ok, Some, None, fold, Option, Result, ◌==◌}
use Rattle.market.specs.declared.Side.{Side}
use Rattle.market.specs.declared.Side.TheVariants.{Buy, Sell}
use Rattle.market.specs.declared.Quote.{Quote}
use Rattle.market.specs.declared.Order.{Order}
use Rattle.market.specs.declared.Trade.{Trade}
use Rattle.market.specs.declared.TapeRecord.{TapeRecord}
use Rattle.market.specs.declared.Event.{Event}
use Rattle.market.specs.declared.Answer.{Answer}
use Rattle.market.specs.declared.Refusal.{Refusal}
use Rattle.market.specs.Prices.{better_price}
use Rattle.market.specs.Serving.{other_side}
use Rattle.market.specs.State.{new_quote}

-- ---- the log

-- one event of a run, as the log has it
pub record Entry : Type 0 where
  pub event : Event
  -- the answer where it was accepted, else the refusal
  pub outcome : Result Answer Refusal
  -- the tape's count before it
  pub count_before : ℕ
  -- the records that it added to the tape
  pub added : List TapeRecord

-- ---- the book

-- an open order with its side
pub record SidedOrder : Type 0 where
  pub side : Side
  pub order : Order

-- at most one quote for each side and dealer, at most one order for each number
pub record PlainBook : Type 0 where
  -- the live quote of a dealer: Buy for its bid, Sell for its ask
  pub quote : Side → ℕ → Option Quote
  -- the open order of a number
  pub order : ℕ → Option SidedOrder

-- nothing stands at the start
abbrev pub empty_book : PlainBook
empty_book = record { quote = λ _ _. None; order = λ _. None }

-- whether two sides are one
abbrev pub same_side : Side → Side → Bool
same_side Buy Buy = true
same_side Buy Sell = false
same_side Sell Buy = false
same_side Sell Sell = true

-- a dealer's quote of one side becomes q, all else stays
abbrev pub put_quote : Side → (dealer : ℕ) → Option Quote → PlainBook → PlainBook
put_quote s d q book = record { quote = λ s' d'. cond (same_side s s' && d == d') q (book.quote s' d'); order = book.order }

-- the order of a number becomes o, all else stays
abbrev pub put_order : (number : ℕ) → Option SidedOrder → PlainBook → PlainBook
put_order n o book = record { quote = book.quote; order = λ n'. cond (n == n') o (book.order n') }

-- an order as entered, with none of it taken
abbrev pub new_order : (number : ℕ) → Side → (price quantity : ℕ) → SidedOrder
new_order number side price quantity = record { side = side; order = record { number = number; price = price; entered = quantity; left = quantity } }

-- a quote with another quantity left
abbrev pub with_live : (live : ℕ) → Quote → Quote
with_live n q = record { dealer = q.dealer; price = q.price; entered = q.entered; live = n; arrival = q.arrival }

-- an order with another quantity left
abbrev pub with_left : (left : ℕ) → Order → Order
with_left n o = record { number = o.number; price = o.price; entered = o.entered; left = n }

-- shares taken off a quote, which is absent when nothing is left
abbrev pub less_quote : (shares : ℕ) → Option Quote → Option Quote
less_quote n None = None
less_quote n (Some q) = cond (q.live - n == 0) None (Some (with_live (q.live - n) q))

-- shares taken off an order, which is absent when nothing is left
abbrev pub less_order : (shares : ℕ) → Option SidedOrder → Option SidedOrder
less_order n None = None
less_order n (Some o) = cond (o.order.left - n == 0) None (Some (record { side = o.side; order = with_left (o.order.left - n) o.order }))

-- an order, where it is of that side
abbrev pub if_on : Side → Option SidedOrder → Option Order
if_on s None = None
if_on s (Some o) = cond (same_side s o.side) (Some o.order) None

-- the open order of that side and number
abbrev pub order_on : PlainBook → Side → (number : ℕ) → Option Order
order_on book s n = if_on s (book.order n)

-- ---- a click

-- what is open of an order that is better priced than p, 0 where it is not or there is none
abbrev pub left_if_better : Side → (price : ℕ) → Option Order → ℕ
left_if_better s p None = 0
left_if_better s p (Some o) = cond (better_price s o.price p) o.left 0

-- the open shares of all orders of a side that are better priced than p, whose numbers go from 1 to the last
abbrev pub shares_better : PlainBook → Side → (price last : ℕ) → ℕ
shares_better book s p zero = 0
shares_better book s p (suc n) = shares_better book s p n + left_if_better s p (order_on book s (suc n))

-- the shares that a click on an order takes: its own, and those of all orders of its side that are better priced
abbrev pub click_shares : PlainBook → (count : ℕ) → SidedOrder → ℕ
click_shares book count o = shares_better book o.side o.order.price count + o.order.left

-- the quote that a click on an order makes: at its price, with the larger of the least quote quantity and the click's shares
abbrev pub click_quote : (least : ℕ) → PlainBook → (count dealer : ℕ) → SidedOrder → Quote
click_quote least book count dealer o = new_quote dealer o.order.price (max least (click_shares book count o)) (count + 1)

-- the book after a click by itself: the dealer's quote of the other side becomes the click's, and its quote of the order's own side stays
abbrev pub after_click : (least count dealer : ℕ) → Option SidedOrder → PlainBook → PlainBook
after_click least count dealer None book = book
after_click least count dealer (Some o) book = put_quote (other_side o.side) dealer (Some (click_quote least book count dealer o)) book

-- ---- what the log makes of it

-- the book after an accepted event by itself, before its trades; a new quote or order gets the tape's count before the event plus 1
abbrev pub after_accepted : (least count : ℕ) → Event → PlainBook → PlainBook
after_accepted least count (Event.Make config number) book = book
after_accepted least count (Event.Clock time) book = book
after_accepted least count (Event.Quote dealer pair) book =
    put_quote Sell dealer (Some (new_quote dealer pair.ask pair.ask_quantity (count + 1)))
    (put_quote Buy dealer (Some (new_quote dealer pair.bid pair.bid_quantity (count + 1))) book)
after_accepted least count (Event.Withdraw dealer) book = put_quote Sell dealer None (put_quote Buy dealer None book)
after_accepted least count Event.Bell book = book
after_accepted least count (Event.Order side price quantity) book = put_order (count + 1) (Some (new_order (count + 1) side price quantity)) book
after_accepted least count (Event.Cancel number amount) book = put_order number (cond (amount == 0) None (less_order amount (book.order number))) book
after_accepted least count (Event.Click dealer number) book = after_click least count dealer (book.order number) book
after_accepted least count Event.Close book = book

-- the book after an event by itself: a refused one changes nothing
abbrev pub after_event : (least : ℕ) → PlainBook → Entry → PlainBook
after_event least book e = cond (is_ok e.outcome) (after_accepted least e.count_before e.event book) book

-- the book after a trade: its quantity is taken off its order, and off its dealer's quote of the other side
abbrev pub after_trade : Trade → PlainBook → PlainBook
after_trade t book =
    put_order t.number (less_order t.quantity (book.order t.number))
    (put_quote (other_side t.side) t.dealer (less_quote t.quantity (book.quote (other_side t.side) t.dealer)) book)

-- the book after a record: one that is no trade changes nothing
abbrev pub after_record : PlainBook → TapeRecord → PlainBook
after_record book (TapeRecord.Quote time dealer pair) = book
after_record book (TapeRecord.Withdrawal time dealer) = book
after_record book (TapeRecord.Order time side price quantity) = book
after_record book (TapeRecord.Cancellation time side number quantity) = book
after_record book (TapeRecord.Click time dealer side number price taken entered) = book
after_record book (TapeRecord.Trade t) = after_trade t book
after_record book (TapeRecord.Late time dealer missed) = book
after_record book (TapeRecord.Halt time direction) = book

-- the book after some records
abbrev pub after_records : PlainBook → List TapeRecord → PlainBook
after_records book rs = fold after_record book rs

-- the book after one entry of the log: the event by itself, then its records in order
abbrev pub after_entry : (least : ℕ) → PlainBook → Entry → PlainBook
after_entry least book e = after_records (after_event least book e) e.added

-- the plain book of a log, where `least` is the least quote quantity
abbrev pub plain : (least : ℕ) → List Entry → PlainBook
plain least log = fold (after_entry least) empty_book log

-- the tape that a log tells of
abbrev pub tape_of : List Entry → List TapeRecord
tape_of [] = []
tape_of (e ∷ es) = e.added ++ tape_of es
