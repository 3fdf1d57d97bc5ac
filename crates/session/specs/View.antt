-- A session with the memory that is lent to it, as a state of the model, and what a call promises. Assumes nothing.
use Rattle.std.specs.Prelude.{◌≡◌, ℕ, ◌+◌, ◌<◌, ◌≤◌, true, false, length, take, drop, IfErr, Some, None, Option, Ok, Err, Result}
use Rattle.market.specs.declared.Answer.{Answer}
use Rattle.market.specs.declared.Refusal.{Refusal}
use Rattle.market.specs.declared.Config.{Config}
use Rattle.market.specs.declared.Quote.{Quote}
use Rattle.market.specs.Precedence.{Precedence}
use Rattle.market.specs.State.{Phase, before_bell, trading, State, is_dealer, apart, without}
use Rattle.market.specs.Events.{Step, may_be_made, fresh, settled, quotes_nothing, late_records, bell_step}
use Rattle.book.specs.declared.memory.Memory.{Memory}
use Rattle.book.specs.declared.memory.Lengths.{Lengths}
use Rattle.book.specs.View.{places_of, sizes_of, lists_of}
use Rattle.session.specs.declared.ledger.Ledger.{Ledger}
use Rattle.session.specs.declared.states.Session.{Session}
use Rattle.session.specs.declared.states.BeforeBell.{BeforeBell}
use Rattle.session.specs.declared.states.Trading.{Trading}

-- a session's numbers in a phase, with the memory
abbrev pub view : Phase → Ledger → Memory → State
view phase l m = record {
  config = l.config;
  made_with = sizes_of l.places;
  lent_now = sizes_of (places_of m);
  phase = phase;
  clock = l.clock;
  halted = l.halted;
  shares = l.shares;
  value = l.value;
  lists = lists_of l.counts m;
  duties = m.duties.now.states;
  tape = take l.counts.tape m.tape.now;
}

-- a session before the bell, and one that is open
abbrev pub PreOpen : Type 0
PreOpen = Session BeforeBell

abbrev pub Open : Type 0
Open = Session Trading

-- that reason to refuse, if there is one
abbrev pub unless_refused : Option Refusal → Result (Unit {0}) Refusal
unless_refused None = Ok tt
unless_refused (Some why) = Err why

-- no place of the memory changed
pub record SameMemory (m m' : Memory) : Type 0 where
  pub same_bids : m'.bids.now ≡ m.bids.now
  pub same_asks : m'.asks.now ≡ m.asks.now
  pub same_buys : m'.buys.now ≡ m.buys.now
  pub same_sells : m'.sells.now ≡ m.sells.now
  pub same_duties : m'.duties.now ≡ m.duties.now
  pub same_tape : m'.tape.now ≡ m.tape.now

-- neither session nor memory changed
pub record Untouched (l l' : Ledger) (m m' : Memory) : Type 0 where
  pub same_ledger : l' ≡ l
  pub same_memory : SameMemory m m'

-- what a call did, of which the model says `step`, and which leaves the session in that phase
pub record Did (step : Step) (phase : Phase) (l l' : Ledger) (m m' : Memory) (r : Result Answer Refusal) : Type 0 where
  -- the answer or the refusal
  pub outcome : r ≡ step.outcome
  -- session, lists, duties and tape
  pub next : view phase l' m' ≡ step.next
  -- the tape grows, and behind its count it is as it was
  pub grows : l.counts.tape ≤ l'.counts.tape
  pub behind : drop l'.counts.tape m'.tape.now ≡ drop l'.counts.tape m.tape.now
  -- a refusal changes nothing
  pub untouched : IfErr r (λ _. Untouched l l' m m')

-- the places that were lent at the making are lent now
pub record Lent (l : Ledger) (m : Memory) : Type 0 where
  pub lent_bids : length m.bids.now ≡ l.places.bids
  pub lent_asks : length m.asks.now ≡ l.places.asks
  pub lent_buys : length m.buys.now ≡ l.places.buys
  pub lent_sells : length m.sells.now ≡ l.places.sells
  pub lent_tape : length m.tape.now ≡ l.places.tape

-- no dealer stands twice in a list
pub record Apart (l : Ledger) (m : Memory) : Type 0 where
  pub apart_bids : apart (λ (q : Quote). q.dealer) (take l.counts.bids m.bids.now) ≡ true
  pub apart_asks : apart (λ (q : Quote). q.dealer) (take l.counts.asks m.asks.now) ≡ true

-- what a lawful book tells: its places are those of the making, its lists and tape have the entries that are counted,
-- no dealer stands twice, and there is room for a quote of each dealer
pub record GoodBook (l : Ledger) (m : Memory) : Type 0 where
  pub lent : Lent l m
  pub no_twice : Apart l m
  pub counted_buys : length (take l.counts.buys m.buys.now) ≡ l.counts.buys
  pub counted_sells : length (take l.counts.sells m.sells.now) ≡ l.counts.sells
  pub counted_tape : length (take l.counts.tape m.tape.now) ≡ l.counts.tape
  pub bid_room : (d : ℕ) → is_dealer l.config.dealers d ≡ true → length (without d (take l.counts.bids m.bids.now)) < 16
  pub ask_room : (d : ℕ) → is_dealer l.config.dealers d ≡ true → length (without d (take l.counts.asks m.asks.now)) < 16

-- what an accepted event may rely on
pub record MayQuote (dealer : ℕ) (l : Ledger) (m : Memory) : Type 0 where
  pub lent : Lent l m
  pub no_twice : Apart l m
  pub some_dealer : 0 < dealer
  pub few_dealers : dealer ≤ 16
  pub bid_room : length (without dealer (take l.counts.bids m.bids.now)) < 16
  pub ask_room : length (without dealer (take l.counts.asks m.asks.now)) < 16
  pub tape_room : l.counts.tape < l.places.tape

pub record MayWithdraw (dealer : ℕ) (l : Ledger) (m : Memory) : Type 0 where
  pub lent : Lent l m
  pub no_twice : Apart l m
  pub has_quote : quotes_nothing (lists_of l.counts m) dealer ≡ false
  pub tape_room : l.counts.tape < l.places.tape

pub record MayStep (time : ℕ) (l : Ledger) (m : Memory) : Type 0 where
  pub lent : Lent l m
  pub in_time : time ≤ 5400000
  pub tape_room : l.counts.tape + length (late_records time 1 (take l.config.dealers m.duties.now.states)) ≤ l.places.tape

-- what the session was became f of it, in every phase, with the tape behind its count unchanged
pub record Became (f : State → State) (l l' : Ledger) (m m' : Memory) : Type 0 where
  pub becomes : (phase : Phase) → view phase l' m' ≡ f (view phase l m)
  pub longer : l.counts.tape ≤ l'.counts.tape
  pub leaves : drop l'.counts.tape m'.tape.now ≡ drop l'.counts.tape m.tape.now
  pub still_lent : Lent l' m'

-- the duties were brought up to date where the phase watches them, and nothing else changed
pub record Settled (phase : Phase) (l : Ledger) (m m' : Memory) : Type 0 where
  pub settles : view phase l m' ≡ settled (view phase l m)
  pub keeps_tape : m'.tape.now ≡ m.tape.now

-- what the bell did to a session's numbers: trading is open, or it is refused and all is as before
abbrev pub BellRang : Precedence → Ledger → Ledger → Memory → Memory → Result (Unit {0}) Refusal → Type 0
BellRang rule l l' m m' (Ok done) = Did (bell_step rule (view before_bell l m)) trading l l' m m' (Ok Answer.Rung)
BellRang rule l l' m m' (Err why) = Did (bell_step rule (view before_bell l m)) before_bell l l' m m' (Err why)

-- what the bell did: an open session, or the one before the bell handed back with the refusal
abbrev pub Rang : Precedence → PreOpen → Memory → Memory → Result Open (Refusal × PreOpen) → Type 0
Rang rule p m m' (Ok o) = BellRang rule p.ledger o.ledger m m' (Ok tt)
Rang rule p m m' (Err back) = BellRang rule p.ledger back.1.ledger m m' (Err back.0) × (back.1 ≡ p)

-- the numbers of a session in which nothing has happened yet
pub record NewLedger (c : Config) (p : Lengths) (l : Ledger) : Type 0 where
  pub from_config : l.config ≡ c
  pub from_places : l.places ≡ p
  pub no_entries : l.counts ≡ record { bids = 0; asks = 0; buys = 0; sells = 0; tape = 0 }
  pub at_first : l.clock ≡ 3060000
  pub not_halted : l.halted ≡ false
  pub no_shares : l.shares ≡ 0
  pub no_value : l.value ≡ 0

-- what the making did: a fresh session, all dealers in order and nothing else written; or a refusal, and nothing written
abbrev pub Made : Config → Memory → Memory → Result PreOpen Refusal → Type 0
Made c m m' (Ok p) =
    (may_be_made c (sizes_of (places_of m)) ≡ true)
    × (view before_bell p.ledger m' ≡ fresh c (sizes_of (places_of m)))
    × (m'.bids.now ≡ m.bids.now)
    × (m'.asks.now ≡ m.asks.now)
    × (m'.buys.now ≡ m.buys.now)
    × (m'.sells.now ≡ m.sells.now)
    × (m'.tape.now ≡ m.tape.now)
Made c m m' (Err why) = (may_be_made c (sizes_of (places_of m)) ≡ false) × (why ≡ Refusal.BadConfig) × SameMemory m m'
