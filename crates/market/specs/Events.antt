-- What each event does: when it is refused, and otherwise what it answers and leaves. Assumes nothing.
use Rattle.std.specs.Prelude.{ℕ, ◌+◌, ◌-◌, ◌*◌, ◌/◌, Bool, true, false, cond, not, ◌&&◌, ◌||◌, List, [], ◌∷◌, ◌++◌, length, take, drop, replicate, is_some, Some, None, Ok, Err, Option, Result, ◌==◌, nat_le, nat_lt, slice_set}
use Rattle.market.specs.declared.Side.TheVariants.{Buy, Sell}
use Rattle.market.specs.declared.Quote.{Quote}
use Rattle.market.specs.declared.Config.{Config}
use Rattle.market.specs.declared.Pair.{Pair}
use Rattle.market.specs.declared.Duty.{Duty}
use Rattle.market.specs.declared.Event.{Event}
use Rattle.market.specs.declared.Answer.{Answer}
use Rattle.market.specs.declared.Refusal.{Refusal}
use Rattle.market.specs.declared.Summary.{Summary}
use Rattle.market.specs.declared.TapeRecord.{TapeRecord}
use Rattle.market.specs.Precedence.{Precedence, quote_before}
use Rattle.market.specs.Lists.{placed}
use Rattle.market.specs.Serving.{lot, is_whole}
use Rattle.market.specs.State.{Phase, before_bell, trading, over, Lists, Sizes, State, open_orders, free_places, next_number, within, is_price, is_dealer, lawful_book, without, quote_by, live_in, new_quote}

-- ---- outcomes

-- what comes of an event: its answer or refusal, and what it leaves
pub record Step : Type 0 where
  pub outcome : Result Answer Refusal
  pub next : State

abbrev pub refuse : Refusal → State → Step
refuse why s = record { outcome = Err why; next = s }

abbrev pub accept : Answer → State → Step
accept answer s = record { outcome = Ok answer; next = s }

-- a reason to refuse, and whether it holds
abbrev pub Reason : Type 0
Reason = Bool × Refusal

-- the first reason that holds
abbrev pub first_of : List Reason → Option Refusal
first_of [] = None
first_of (r ∷ rs) = cond r.0 (Some r.1) (first_of rs)

-- refused for that reason, and otherwise accepted
abbrev pub unless : Option Refusal → State → Step → Step
unless None s accepted = accepted
unless (Some why) s accepted = refuse why s

-- ---- making

-- the numbers and the places that a session may be made with
abbrev pub may_be_made : Config → Sizes → Bool
may_be_made c sizes =
    within 2 16 c.dealers
    && (within 1000 100000 c.least_quantity
    && (is_whole c.least_quantity
    && (nat_le c.previous_average 999999
    && (nat_le c.day_kind 4
    && (sizes.bid_places == 16
    && (sizes.ask_places == 16
    && (within 1 256 sizes.buy_places
    && (within 1 256 sizes.sell_places
    && within 64 65536 sizes.tape_places))))))))

-- 08:30, 09:00 and 15:00, in hundredths of a second since midnight
abbrev pub first_clock : ℕ
first_clock = 3060000

abbrev pub bell_clock : ℕ
bell_clock = 3240000

abbrev pub last_clock : ℕ
last_clock = 5400000

-- a session just made: empty lists, an empty tape, all sixteen dealers in order
abbrev pub fresh : Config → Sizes → State
fresh c sizes = record {
  config = c;
  made_with = sizes;
  lent_now = sizes;
  phase = before_bell;
  clock = first_clock;
  halted = false;
  shares = 0;
  value = 0;
  lists = record { bids = []; asks = []; buys = []; sells = [] };
  duties = replicate 16 Duty.InOrder;
  tape = [];
}

-- ---- duties

-- f of each entry and its number, where the first has number n
abbrev pub numbered : {A B : Type 0} → (ℕ → A → B) → (n : ℕ) → List A → List B
numbered f n [] = []
numbered f n (x ∷ xs) = f n x ∷ numbered f (n + 1) xs

-- the duties with those of dealers 1 to n changed, each by its dealer's number
abbrev pub of_dealers : (ℕ → Duty → Duty) → (dealers : ℕ) → List Duty → List Duty
of_dealers f dealers ds = numbered f 1 (take dealers ds) ++ drop dealers ds

-- the dealer has a lot or more left on both sides
abbrev pub quotes_both : (bids asks : List Quote) (dealer : ℕ) → Bool
quotes_both bids asks d = nat_le lot (live_in (quote_by d bids)) && nat_le lot (live_in (quote_by d asks))

-- how long a dealer has to restore its quotes: three minutes
abbrev pub grace : ℕ
grace = 18000

-- a duty after an event at that time, by whether the dealer quotes both sides; one that is short keeps the time first set
abbrev pub duty_after : (clock : ℕ) → Bool → Duty → Duty
duty_after clock true duty = Duty.InOrder
duty_after clock false Duty.InOrder = Duty.Short (clock + grace)
duty_after clock false (Duty.Short until) = Duty.Short until
duty_after clock false Duty.Late = Duty.Late

-- the duties after an event at that time, with the quotes that it left
abbrev pub duties_after : (clock dealers : ℕ) → (bids asks : List Quote) → List Duty → List Duty
duties_after clock dealers bids asks ds = of_dealers (λ d. duty_after clock (quotes_both bids asks d)) dealers ds

-- whether duties are watched: from the bell to the close, unless halted
abbrev pub watching : Phase → (halted : Bool) → Bool
watching before_bell halted = false
watching trading halted = not halted
watching over halted = false

abbrev pub with_duties : List Duty → State → State
with_duties ds s = record {
  config = s.config;
  made_with = s.made_with;
  lent_now = s.lent_now;
  phase = s.phase;
  clock = s.clock;
  halted = s.halted;
  shares = s.shares;
  value = s.value;
  lists = s.lists;
  duties = ds;
  tape = s.tape;
}

-- what an accepted event leaves, with the duties brought up to date
unfoldable pub settled : State → State
settled s = cond (watching s.phase s.halted) (with_duties (duties_after s.clock s.config.dealers s.lists.bids s.lists.asks s.duties) s) s

-- ---- quotes

-- the bid is not below the ask, or the spread is more than a twentieth of the ask
abbrev pub bad_spread : (bid ask : ℕ) → Bool
bad_spread bid ask = nat_le ask bid || nat_lt ask (20 * (ask - bid))

abbrev pub quote_reasons : Precedence → (dealer : ℕ) → Pair → State → List Reason
quote_reasons rule d p s =
    (not (lawful_book rule s), Refusal.UnlawfulBook)
    ∷ (s.halted, Refusal.Halted)
    ∷ (not (is_dealer s.config.dealers d), Refusal.UnknownDealer)
    ∷ (not (is_price p.bid && is_price p.ask), Refusal.PriceOutOfRange)
    ∷ (not (within s.config.least_quantity 1000000 p.bid_quantity && within s.config.least_quantity 1000000 p.ask_quantity), Refusal.QuantityOutOfRange)
    ∷ (bad_spread p.bid p.ask, Refusal.BadSpread)
    ∷ (nat_lt (free_places s) (2 + open_orders s.lists), Refusal.TapeFull)
    ∷ []

-- both sides replace what the dealer had, and the dealer is in order
abbrev pub quoted : Precedence → (dealer : ℕ) → Pair → State → State
quoted rule d p s = record {
  config = s.config;
  made_with = s.made_with;
  lent_now = s.lent_now;
  phase = s.phase;
  clock = s.clock;
  halted = s.halted;
  shares = s.shares;
  value = s.value;
  lists = record {
    bids = placed (quote_before rule.of_quotes Buy) (new_quote d p.bid p.bid_quantity (next_number s)) (without d s.lists.bids);
    asks = placed (quote_before rule.of_quotes Sell) (new_quote d p.ask p.ask_quantity (next_number s)) (without d s.lists.asks);
    buys = s.lists.buys;
    sells = s.lists.sells;
  };
  duties = slice_set s.duties (d - 1) Duty.InOrder;
  tape = s.tape ++ TapeRecord.Quote s.clock d p ∷ [];
}

-- before the bell a quote trades nothing
unfoldable pub early_quote_step : Precedence → (dealer : ℕ) → Pair → State → Step
early_quote_step rule d p s = unless (first_of (quote_reasons rule d p s)) s (accept (Answer.Quoted 0 0) (quoted rule d p s))

-- ---- withdrawals

-- the dealer has a quote in neither list
abbrev pub quotes_nothing : Lists → (dealer : ℕ) → Bool
quotes_nothing l d = not (is_some (quote_by d l.bids) || is_some (quote_by d l.asks))

abbrev pub withdrawal_reasons : Precedence → (dealer : ℕ) → State → List Reason
withdrawal_reasons rule d s =
    (not (lawful_book rule s), Refusal.UnlawfulBook)
    ∷ (not (is_dealer s.config.dealers d), Refusal.UnknownDealer)
    ∷ (quotes_nothing s.lists d, Refusal.NoQuote)
    ∷ (nat_lt (free_places s) 1, Refusal.TapeFull)
    ∷ []

-- both quotes of the dealer go
abbrev pub withdrawn : (dealer : ℕ) → State → State
withdrawn d s = record {
  config = s.config;
  made_with = s.made_with;
  lent_now = s.lent_now;
  phase = s.phase;
  clock = s.clock;
  halted = s.halted;
  shares = s.shares;
  value = s.value;
  lists = record { bids = without d s.lists.bids; asks = without d s.lists.asks; buys = s.lists.buys; sells = s.lists.sells };
  duties = s.duties;
  tape = s.tape ++ TapeRecord.Withdrawal s.clock d ∷ [];
}

unfoldable pub withdrawal_step : Precedence → (dealer : ℕ) → State → Step
withdrawal_step rule d s = unless (first_of (withdrawal_reasons rule d s)) s (accept Answer.Withdrawn (settled (withdrawn d s)))

-- ---- the clock

-- the time that a dealer missed, where it is short until one before t
abbrev pub missed_time : (t : ℕ) → Duty → Option ℕ
missed_time t Duty.InOrder = None
missed_time t (Duty.Short until) = cond (nat_lt until t) (Some until) None
missed_time t Duty.Late = None

-- the record of a dealer who missed a time, and so becomes late
abbrev pub late_record : (t dealer : ℕ) → Option ℕ → List TapeRecord
late_record t d None = []
late_record t d (Some missed) = TapeRecord.Late t d missed ∷ []

-- by dealer, the first of these duties being dealer d's
abbrev pub late_records : (t dealer : ℕ) → List Duty → List TapeRecord
late_records t d [] = []
late_records t d (x ∷ xs) = late_record t d (missed_time t x) ++ late_records t (d + 1) xs

-- a duty at the new time
abbrev pub duty_at : (t : ℕ) → Duty → Duty
duty_at t Duty.InOrder = Duty.InOrder
duty_at t (Duty.Short until) = cond (nat_lt until t) Duty.Late (Duty.Short until)
duty_at t Duty.Late = Duty.Late

-- the records of all of the session's dealers who become late at t
abbrev pub becoming_late : (t : ℕ) → State → List TapeRecord
becoming_late t s = late_records t 1 (take s.config.dealers s.duties)

-- the last time that a clock step may set
abbrev pub latest_clock : Phase → ℕ
latest_clock before_bell = bell_clock - 1
latest_clock trading = last_clock
latest_clock over = last_clock

abbrev pub clock_reasons : Precedence → (t : ℕ) → State → List Reason
clock_reasons rule t s =
    (not (lawful_book rule s), Refusal.UnlawfulBook)
    ∷ (not (within s.clock (latest_clock s.phase) t), Refusal.ClockOutOfRange)
    ∷ (nat_lt (free_places s) (length (becoming_late t s)), Refusal.TapeFull)
    ∷ []

-- the clock is set, and whoever is short until an earlier time becomes late
abbrev pub stepped : (t : ℕ) → State → State
stepped t s = record {
  config = s.config;
  made_with = s.made_with;
  lent_now = s.lent_now;
  phase = s.phase;
  clock = t;
  halted = s.halted;
  shares = s.shares;
  value = s.value;
  lists = s.lists;
  duties = of_dealers (λ _. duty_at t) s.config.dealers s.duties;
  tape = s.tape ++ becoming_late t s;
}

unfoldable pub clock_step : Precedence → (t : ℕ) → State → Step
clock_step rule t s = unless (first_of (clock_reasons rule t s)) s (accept (Answer.Stepped (length (becoming_late t s))) (settled (stepped t s)))

-- ---- the bell and the close

abbrev pub bell_reasons : Precedence → State → List Reason
bell_reasons rule s = (not (lawful_book rule s), Refusal.UnlawfulBook) ∷ []

-- in another phase, at another time
abbrev pub moved_to : Phase → (clock : ℕ) → State → State
moved_to phase clock s = record {
  config = s.config;
  made_with = s.made_with;
  lent_now = s.lent_now;
  phase = phase;
  clock = clock;
  halted = s.halted;
  shares = s.shares;
  value = s.value;
  lists = s.lists;
  duties = s.duties;
  tape = s.tape;
}

unfoldable pub bell_step : Precedence → State → Step
bell_step rule s = unless (first_of (bell_reasons rule s)) s (accept Answer.Rung (settled (moved_to trading bell_clock s)))

abbrev pub close_step : State → Step
close_step s = accept Answer.Closed (moved_to over s.clock s)

-- the day's shares and value, and the average price: (2V + Q) / 2Q, or 0 where nothing traded
abbrev pub summary_of : (shares value : ℕ) → Summary
summary_of q v = record { shares = q; value = v; average = cond (q == 0) 0 ((2 * v + q) / (2 * q)) }

-- ---- all events

abbrev pub before_bell_step : Precedence → Event → State → Step
before_bell_step rule (Event.Make config number) s = refuse Refusal.OutOfTurn s
before_bell_step rule (Event.Clock time) s = clock_step rule time s
before_bell_step rule (Event.Quote dealer pair) s = early_quote_step rule dealer pair s
before_bell_step rule (Event.Withdraw dealer) s = withdrawal_step rule dealer s
before_bell_step rule Event.Bell s = bell_step rule s
before_bell_step rule (Event.Order side price quantity) s = refuse Refusal.OutOfTurn s
before_bell_step rule (Event.Cancel number amount) s = refuse Refusal.OutOfTurn s
before_bell_step rule (Event.Click dealer number) s = refuse Refusal.OutOfTurn s
before_bell_step rule Event.Close s = refuse Refusal.OutOfTurn s

abbrev pub trading_step : Precedence → Event → State → Step
trading_step rule (Event.Make config number) s = refuse Refusal.OutOfTurn s
trading_step rule (Event.Clock time) s = clock_step rule time s
trading_step rule (Event.Quote dealer pair) s = refuse Refusal.OutOfTurn s
trading_step rule (Event.Withdraw dealer) s = withdrawal_step rule dealer s
trading_step rule Event.Bell s = refuse Refusal.OutOfTurn s
trading_step rule (Event.Order side price quantity) s = refuse Refusal.OutOfTurn s
trading_step rule (Event.Cancel number amount) s = refuse Refusal.OutOfTurn s
trading_step rule (Event.Click dealer number) s = refuse Refusal.OutOfTurn s
trading_step rule Event.Close s = close_step s

-- an event in its phase; one that is out of turn is refused
abbrev pub step_in : Phase → Precedence → Event → State → Step
step_in before_bell rule e s = before_bell_step rule e s
step_in trading rule e s = trading_step rule e s
step_in over rule e s = refuse Refusal.OutOfTurn s

abbrev pub step : Precedence → Event → State → Step
step rule e s = step_in s.phase rule e s
