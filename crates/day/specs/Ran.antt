-- What a run of events promises. Assumes nothing.
use Rattle.std.specs.Prelude.{◌≡◌, ℕ, ◌≤◌, true, false, List, take, drop, Ok, Err, vec_items, Result, Vec}
use Rattle.std.specs.declared.alloc.Global.{Global}
use Rattle.market.specs.declared.Config.{Config}
use Rattle.market.specs.declared.Event.{Event}
use Rattle.market.specs.declared.Answer.{Answer}
use Rattle.market.specs.declared.Refusal.{Refusal}
use Rattle.market.specs.Precedence.{Precedence}
use Rattle.market.specs.State.{State, lawful_book}
use Rattle.market.specs.Events.{may_be_made, fresh}
use Rattle.market.specs.Guarantee.{Guarantee, Tells, after, log_of, outcomes_of}
use Rattle.book.specs.declared.memory.Memory.{Memory}
use Rattle.book.specs.View.{places_of, sizes_of}
use Rattle.session.specs.View.{SameMemory}
use Rattle.day.specs.declared.running.Session.{Session}
use Rattle.day.specs.declared.runs.NoRun.{NoRun}
use Rattle.day.specs.declared.runs.NoRun.TheVariants.{Refused, NoMemory}
use Rattle.day.specs.Running.{ledger_of, view_of}

-- a session just made in that memory
abbrev pub start_of : Config → Memory → State
start_of c m = fresh c (sizes_of (places_of m))

-- events taken one after another from a session
pub record Played (rule : Precedence) (s s' : Session) (m m' : Memory) (events : List Event) (outcomes : List (Result Answer Refusal)) : Type 0 where
  pub plays : view_of s' m' ≡ after rule (view_of s m) events
  pub answers : outcomes ≡ outcomes_of (log_of rule (view_of s m) events)
  pub longer : (ledger_of s).counts.tape ≤ (ledger_of s').counts.tape
  pub leaves : drop (ledger_of s').counts.tape m'.tape.now ≡ drop (ledger_of s').counts.tape m.tape.now

-- a run of events from a session just made: the session `s` and the outcomes that came of it, and what is guaranteed of them
pub record Ran (rule : Precedence) (c : Config) (m m' : Memory) (events : List Event) (s : Session) (outcomes : List (Result Answer Refusal)) : Type 0 where
  pub made : may_be_made c (sizes_of (places_of m)) ≡ true
  -- the session and its memory at the end
  pub ends : view_of s m' ≡ after rule (start_of c m) events
  pub behind : drop (ledger_of s).counts.tape m'.tape.now ≡ drop (ledger_of s).counts.tape m.tape.now
  -- the log tells of these events, these outcomes and this tape
  pub log_tells : Tells events outcomes (view_of s m').tape (log_of rule (start_of c m) events)
  -- the log of the first events is the front of the log
  pub log_front : (k : ℕ) → log_of rule (start_of c m) (take k events) ≡ take k (log_of rule (start_of c m) events)
  -- at the start and after each event: the whole guarantee, and a lawful book
  pub guarantee : (k : ℕ) → Guarantee rule c.least_quantity (after rule (start_of c m) (take k events)).lists (log_of rule (start_of c m) (take k events))
  pub stays_lawful : (k : ℕ) → lawful_book rule (after rule (start_of c m) (take k events)) ≡ true

-- why there is no run: a making outside its limits is refused, also where there is no memory for the outcomes
abbrev pub NotRun : Config → Memory → NoRun → Type 0
NotRun c m (Refused why) = (may_be_made c (sizes_of (places_of m)) ≡ false) × (why ≡ Refusal.BadConfig)
NotRun c m NoMemory = may_be_made c (sizes_of (places_of m)) ≡ true

-- what a call of `run` promises: a run, or why there is none, and then no place of the memory changed
abbrev pub RunResult : Precedence → Config → Memory → Memory → List Event → Result (Session × Vec (Result Answer Refusal) Global) NoRun → Type 0
RunResult rule c m m' events (Ok r) = Ran rule c m m' events r.0 (vec_items r.1)
RunResult rule c m m' events (Err why) = NotRun c m why × SameMemory m m'
