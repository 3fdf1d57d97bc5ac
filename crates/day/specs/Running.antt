-- A session in whichever phase it is, as a state of the model, and what an event makes of it. Assumes nothing.
use Rattle.std.specs.Prelude.{◌≡◌, ◌≤◌, drop, IfErr, Some, None, Option, Result}
use Rattle.market.specs.declared.Event.{Event}
use Rattle.market.specs.declared.Answer.{Answer}
use Rattle.market.specs.declared.Refusal.{Refusal}
use Rattle.market.specs.Precedence.{Precedence}
use Rattle.market.specs.State.{before_bell, trading, over, State}
use Rattle.market.specs.declared.Summary.{Summary}
use Rattle.market.specs.Events.{step, summary_of}
use Rattle.book.specs.declared.memory.Memory.{Memory}
use Rattle.session.specs.declared.ledger.Ledger.{Ledger}
use Rattle.session.specs.View.{view, SameMemory}
use Rattle.day.specs.declared.running.Session.{Session}
use Rattle.day.specs.declared.running.Session.TheVariants.{Early, Trading, Over}

-- the numbers that a session keeps
abbrev pub ledger_of : Session → Ledger
ledger_of (Early s) = s.ledger
ledger_of (Trading s) = s.ledger
ledger_of (Over s) = s.ledger

-- a session with its memory
abbrev pub view_of : Session → Memory → State
view_of (Early s) m = view before_bell s.ledger m
view_of (Trading s) m = view trading s.ledger m
view_of (Over s) m = view over s.ledger m

-- what an event made of a session and its memory
pub record Stepped (rule : Precedence) (event : Event) (s s' : Session) (m m' : Memory) (r : Result Answer Refusal) : Type 0 where
  -- the answer or the refusal
  pub outcome : r ≡ (step rule event (view_of s m)).outcome
  -- session, lists, duties and tape
  pub next : view_of s' m' ≡ (step rule event (view_of s m)).next
  -- the tape grows, and behind its count it is as it was
  pub grows : (ledger_of s).counts.tape ≤ (ledger_of s').counts.tape
  pub behind : drop (ledger_of s').counts.tape m'.tape.now ≡ drop (ledger_of s').counts.tape m.tape.now
  -- a refusal changes nothing
  pub untouched : IfErr r (λ _. (s' ≡ s) × SameMemory m m')

-- what a session came to, where it is closed
abbrev pub summary_of_closed : Session → Option Summary
summary_of_closed (Early s) = None
summary_of_closed (Trading s) = None
summary_of_closed (Over s) = Some (summary_of s.ledger.shares s.ledger.value)
