-- What a run guarantees its customers, over its log and its four lists. Assumes nothing.
use Rattle.std.specs.Prelude.{◌≡◌, ℕ, ◌+◌, true, false, cond, List, [], ◌∷◌, ◌++◌, map, length, drop, Some, None, Ok, Err, sum_by, Option, Result, ◌==◌, ◌≢◌}
use Rattle.std.specs.List.{ContainsAt as Has, AllByRecursion}
use Rattle.market.specs.declared.Side.{Side}
use Rattle.market.specs.declared.Quote.{Quote}
use Rattle.market.specs.declared.Order.{Order}
use Rattle.market.specs.declared.Trade.{Trade}
use Rattle.market.specs.declared.TapeRecord.{TapeRecord}
use Rattle.market.specs.declared.Event.{Event}
use Rattle.market.specs.declared.Answer.{Answer}
use Rattle.market.specs.declared.Refusal.{Refusal}
use Rattle.market.specs.Precedence.{Precedence, quote_before, order_before}
use Rattle.market.specs.Lists.{Ordered}
use Rattle.market.specs.Serving.{other_side, can_take, can_serve}
use Rattle.market.specs.State.{Lists, State, quotes_of, orders_of}
use Rattle.market.specs.Events.{step}
use Rattle.market.specs.PlainBook.{Entry, PlainBook, order_on, after_event, after_records, plain, tape_of}

-- ---- in order and at rest

-- the lists hold just what the plain book holds, strictly in precedence, and no quote there can serve an order there
pub record InOrderAndAtRest (rule : Precedence) (lists : Lists) (book : PlainBook) : Type 0 where
  -- each quote of a list is its dealer's quote in the plain book
  pub quotes_stand : (s : Side) (q : Quote) → Has (quotes_of lists s) q → book.quote s q.dealer ≡ Some q
  -- each quote of the plain book is in its list
  pub quotes_listed : (s : Side) (d : ℕ) (q : Quote) → book.quote s d ≡ Some q → Has (quotes_of lists s) q
  -- each order of a list is the order of its number in the plain book
  pub orders_stand : (s : Side) (o : Order) → Has (orders_of lists s) o → order_on book s o.number ≡ Some o
  -- each order of the plain book is in its list
  pub orders_listed : (s : Side) (n : ℕ) (o : Order) → order_on book s n ≡ Some o → Has (orders_of lists s) o
  -- quotes stand in precedence
  pub quotes_in_order : (s : Side) → Ordered (quote_before rule.of_quotes s) (quotes_of lists s)
  -- orders stand in precedence
  pub orders_in_order : (s : Side) → Ordered (order_before rule.of_orders s) (orders_of lists s)
  -- no quote can serve an order of the side that it meets
  pub at_rest : (s : Side) (q : Quote) (o : Order) → Has (quotes_of lists (other_side s)) q → Has (orders_of lists s) o → can_serve s q o ≡ false

-- ---- best served

-- a trade as it should be, where `book` is the plain book just before it
pub record RightlyMade (rule : Precedence) (book : PlainBook) (t : Trade) : Type 0 where
  -- the quote that served
  pub quote : Quote
  -- the order that was served
  pub order : Order
  -- the quote is the named dealer's, of the other side
  pub quote_stands : book.quote (other_side t.side) t.dealer ≡ Some quote
  -- it has the named arrival number
  pub quote_named : quote.arrival ≡ t.arrival
  -- the order is open under the named side and number
  pub order_stands : order_on book t.side t.number ≡ Some order
  -- the quote can serve the order
  pub serves : can_serve t.side quote order ≡ true
  -- the trade is at the quote's price
  pub at_its_price : t.price ≡ quote.price
  -- and for all that the quote can take of the order
  pub for_all_it_can : t.quantity ≡ can_take quote order
  -- the quote precedes each other dealer's quote that can serve the order
  pub best : (d : ℕ) (q : Quote) → (d ≢ t.dealer) → book.quote (other_side t.side) d ≡ Some q → can_serve t.side q order ≡ true → quote_before rule.of_quotes (other_side t.side) quote q ≡ true

-- the plain book just before a record: after the log's past, the record's own event, and that event's earlier records
abbrev pub just_before : (least : ℕ) → List Entry → Entry → List TapeRecord → PlainBook
just_before least past e earlier = after_records (after_event least (plain least past) e) earlier

-- every trade of the log was rightly made
abbrev pub BestServed : Precedence → (least : ℕ) → List Entry → Type 0
BestServed rule least log =
    (past : List Entry) (e : Entry) (rest : List Entry) → log ≡ past ++ e ∷ rest →
    (earlier : List TapeRecord) (t : Trade) (later : List TapeRecord) → e.added ≡ earlier ++ TapeRecord.Trade t ∷ later →
    RightlyMade rule (just_before least past e earlier) t

-- ---- nothing lost

-- what a record trades of an order
abbrev pub traded_of : (number : ℕ) → TapeRecord → ℕ
traded_of n (TapeRecord.Quote time dealer pair) = 0
traded_of n (TapeRecord.Withdrawal time dealer) = 0
traded_of n (TapeRecord.Order time side price quantity) = 0
traded_of n (TapeRecord.Cancellation time side number quantity) = 0
traded_of n (TapeRecord.Click time dealer side number price taken entered) = 0
traded_of n (TapeRecord.Trade t) = cond (t.number == n) t.quantity 0
traded_of n (TapeRecord.Late time dealer missed) = 0
traded_of n (TapeRecord.Halt time direction) = 0

-- what a list has left of an order, 0 where it is absent
abbrev pub left_in : (number : ℕ) → List Order → ℕ
left_in n [] = 0
left_in n (o ∷ os) = cond (o.number == n) o.left (left_in n os)

-- the shares that an answer says were cancelled
abbrev pub cancelled_shares : Answer → ℕ
cancelled_shares Answer.Made = 0
cancelled_shares (Answer.Quoted by_ask by_bid) = 0
cancelled_shares Answer.Withdrawn = 0
cancelled_shares Answer.Rung = 0
cancelled_shares (Answer.Ordered number filled) = 0
cancelled_shares (Answer.Cancelled shares) = shares
cancelled_shares (Answer.Clicked shares) = 0
cancelled_shares (Answer.Stepped late) = 0
cancelled_shares Answer.Closed = 0

-- what an event cancelled of an order, by its answer; a refused one nothing
abbrev pub cancelled_by : (number : ℕ) → Event → Result Answer Refusal → ℕ
cancelled_by n (Event.Make config rule) r = 0
cancelled_by n (Event.Clock time) r = 0
cancelled_by n (Event.Quote dealer pair) r = 0
cancelled_by n (Event.Withdraw dealer) r = 0
cancelled_by n Event.Bell r = 0
cancelled_by n (Event.Order side price quantity) r = 0
cancelled_by n (Event.Cancel number amount) (Ok answer) = cond (number == n) (cancelled_shares answer) 0
cancelled_by n (Event.Cancel number amount) (Err why) = 0
cancelled_by n (Event.Click dealer number) r = 0
cancelled_by n Event.Close r = 0

-- what an entry of the log cancelled of an order
abbrev pub cancelled_of : (number : ℕ) → Entry → ℕ
cancelled_of n e = cancelled_by n e.event e.outcome

-- the shares of an order of that side and number, found again: traded on the tape, left in its list, or cancelled
abbrev pub found_again : Lists → List Entry → Side → (number : ℕ) → ℕ
found_again lists log s n = sum_by (traded_of n) (tape_of log) + left_in n (orders_of lists s) + sum_by (cancelled_of n) log

-- the order number that an answer tells the customer
abbrev pub told_number : Answer → Option ℕ
told_number Answer.Made = None
told_number (Answer.Quoted by_ask by_bid) = None
told_number Answer.Withdrawn = None
told_number Answer.Rung = None
told_number (Answer.Ordered number filled) = Some number
told_number (Answer.Cancelled shares) = None
told_number (Answer.Clicked shares) = None
told_number (Answer.Stepped late) = None
told_number Answer.Closed = None

-- where the event is an accepted order, the customer was told the number that it got, and all its shares are found again under it
abbrev pub Accounted : Lists → List Entry → (count : ℕ) → Event → Result Answer Refusal → Type 0
Accounted lists log count (Event.Make config rule) r = Unit {0}
Accounted lists log count (Event.Clock time) r = Unit {0}
Accounted lists log count (Event.Quote dealer pair) r = Unit {0}
Accounted lists log count (Event.Withdraw dealer) r = Unit {0}
Accounted lists log count Event.Bell r = Unit {0}
Accounted lists log count (Event.Order side price quantity) (Ok answer) = (told_number answer ≡ Some (count + 1)) × (quantity ≡ found_again lists log side (count + 1))
Accounted lists log count (Event.Order side price quantity) (Err why) = Unit {0}
Accounted lists log count (Event.Cancel number amount) r = Unit {0}
Accounted lists log count (Event.Click dealer number) r = Unit {0}
Accounted lists log count Event.Close r = Unit {0}

-- no share of an accepted order is lost
abbrev pub NothingLost : Lists → List Entry → Type 0
NothingLost lists log = AllByRecursion (λ (e : Entry). Accounted lists log e.count_before e.event e.outcome) log

-- ---- the guarantee

-- what holds after each event of a run, for its rule, its least quote quantity, its lists as they then stand and its log so far
pub record Guarantee (rule : Precedence) (least : ℕ) (lists : Lists) (log : List Entry) : Type 0 where
  pub in_order_and_at_rest : InOrderAndAtRest rule lists (plain least log)
  pub best_served : BestServed rule least log
  pub nothing_lost : NothingLost lists log

-- ---- a run and its log

-- the session after some events
abbrev pub after : Precedence → State → List Event → State
after rule s [] = s
after rule s (e ∷ es) = after rule (step rule e s).next es

-- the entry of an event in the log: what came of it, and what it added to the tape
abbrev pub entry_of : Precedence → Event → State → Entry
entry_of rule e s = record { event = e; outcome = (step rule e s).outcome; count_before = length s.tape; added = drop (length s.tape) (step rule e s).next.tape }

-- the log of some events
abbrev pub log_of : Precedence → State → List Event → List Entry
log_of rule s [] = []
log_of rule s (e ∷ es) = entry_of rule e s ∷ log_of rule (step rule e s).next es

-- what came of each event of a log
abbrev pub outcomes_of : List Entry → List (Result Answer Refusal)
outcomes_of log = map (λ (e : Entry). e.outcome) log

-- each entry's count is that of the records before its own, where `count` records were there at first
abbrev pub CountedFrom : (count : ℕ) → List Entry → Type 0
CountedFrom count [] = Unit {0}
CountedFrom count (e ∷ es) = (e.count_before ≡ count) × CountedFrom (count + length e.added) es

-- the log is that of a run: its events, what came of each, and its tape, to which each entry added its part
pub record Tells (events : List Event) (outcomes : List (Result Answer Refusal)) (tape : List TapeRecord) (log : List Entry) : Type 0 where
  -- the events, in the order in which they came
  pub its_events : map (λ (e : Entry). e.event) log ≡ events
  -- what each answered, or why it was refused
  pub its_outcomes : outcomes_of log ≡ outcomes
  -- the tape is what the entries added, one after another
  pub its_tape : tape_of log ≡ tape
  -- the counts are the tape's
  pub counted : CountedFrom 0 log
