-- What a day makes of a record. Assumes nothing.
use Rattle.std.specs.Prelude.{◌≡◌, ℕ, ◌+◌, min, cond, List, None, Ok, Err, Option, Result, ◌==◌}
use Rattle.market.specs.declared.Config.{Config}
use Rattle.market.specs.declared.Event.{Event}
use Rattle.market.specs.declared.Answer.{Answer}
use Rattle.market.specs.declared.Refusal.{Refusal}
use Rattle.market.specs.declared.Summary.{Summary}
use Rattle.market.specs.Outcomes.{refusal_number}
use Rattle.market.specs.Precedence.{Precedence}
use Rattle.records.specs.declared.Malformed.{Malformed}
use Rattle.records.specs.Layout.{event_bytes, EventFits}
use Rattle.records.specs.Reading.{Reads}
use Rattle.book.specs.declared.memory.Memory.{Memory}
use Rattle.book.specs.View.{rule_of}
use Rattle.session.specs.View.{PreOpen}
use Rattle.session.specs.View.{SameMemory, Made}
use Rattle.day.specs.declared.running.Session.{Session}
use Rattle.day.specs.declared.running.Session.TheVariants.{Early}
use Rattle.day.specs.declared.rulings.Ruling.{Ruling}
use Rattle.day.specs.declared.rulings.Ruling.TheVariants.{Time, Size}
use Rattle.day.specs.declared.stages.Stage.{Stage}
use Rattle.day.specs.declared.stages.Stage.TheVariants.{Unmade, Running, Ended}
use Rattle.day.specs.declared.stages.Day.{Day}
use Rattle.day.specs.declared.faults.Fault.{Fault}
use Rattle.day.specs.Rulings.{quotes_of, orders_of}
use Rattle.day.specs.Running.{Stepped, summary_of_closed}

-- the meaning of a rule
abbrev pub precedence_of : Ruling → Precedence
precedence_of rule = rule_of (quotes_of rule) (orders_of rule)

-- the place of the next record, which stays at the largest number of a word
abbrev pub next_place : ℕ → ℕ
next_place place = min (place + 1) 4294967295

-- ---- the making

-- the rule of a number: 1 is Time, 2 is Size; with another the day refuses
abbrev pub ruling_of : (place number : ℕ) → Result Ruling Fault
ruling_of place number = cond (number == 1) (Ok Time) (cond (number == 2) (Ok Size) (Err (Fault.Day place Refusal.BadConfig)))

-- a rule with the numbers of the making
abbrev pub ruled : Config → Result Ruling Fault → Result (Ruling × Config) Fault
ruled c (Ok rule) = Ok (rule, c)
ruled c (Err fault) = Err fault

-- the rule and the numbers of a making; another event is out of turn
abbrev pub making_of : (place : ℕ) → Event → Result (Ruling × Config) Fault
making_of place (Event.Make config number) = ruled config (ruling_of place number)
making_of place (Event.Clock time) = Err (Fault.Day place Refusal.OutOfTurn)
making_of place (Event.Quote dealer pair) = Err (Fault.Day place Refusal.OutOfTurn)
making_of place (Event.Withdraw dealer) = Err (Fault.Day place Refusal.OutOfTurn)
making_of place Event.Bell = Err (Fault.Day place Refusal.OutOfTurn)
making_of place (Event.Order side price quantity) = Err (Fault.Day place Refusal.OutOfTurn)
making_of place (Event.Cancel number amount) = Err (Fault.Day place Refusal.OutOfTurn)
making_of place (Event.Click dealer number) = Err (Fault.Day place Refusal.OutOfTurn)
making_of place Event.Close = Err (Fault.Day place Refusal.OutOfTurn)

-- a session that was made, under its rule; or the session's fault
abbrev pub made_under : (place : ℕ) → Ruling → Result PreOpen Refusal → Result (Ruling × PreOpen) Fault
made_under place rule (Ok p) = Ok (rule, p)
made_under place rule (Err why) = Err (Fault.Session place why)

-- what comes of the first event: a session under its rule, or a fault and nothing changed
abbrev pub MakesBy : (place : ℕ) → Result (Ruling × Config) Fault → Memory → Memory → Result (Ruling × PreOpen) Fault → Type 0
MakesBy place (Ok named) m m' r = (p : Result PreOpen Refusal) × Made named.1 m m' p × (r ≡ made_under place named.0 p)
MakesBy place (Err fault) m m' r = (r ≡ Err fault) × SameMemory m m'

-- what comes of the first record: 17 is tested first
abbrev pub BeginsBy : (place : ℕ) → Result Event Malformed → Memory → Memory → Result (Ruling × PreOpen) Fault → Type 0
BeginsBy place (Ok e) m m' r = MakesBy place (making_of place e) m m' r
BeginsBy place (Err w) m m' r = (r ≡ Err (Fault.Reader place w)) × SameMemory m m'

-- the stage after the first record, and the answer
abbrev pub begun : Result (Ruling × PreOpen) Fault → Stage
begun (Ok p) = Running p.0 (Early p.1)
begun (Err fault) = Ended

abbrev pub begun_answer : Result (Ruling × PreOpen) Fault → Result Answer Fault
begun_answer (Ok p) = Ok Answer.Made
begun_answer (Err fault) = Err fault

-- ---- later records

-- a refusal with its layer: 18 is the day's, all others are the session's
abbrev pub layered : (place : ℕ) → Refusal → Fault
layered place why = cond (refusal_number why == 18) (Fault.Day place why) (Fault.Session place why)

abbrev pub told : (place : ℕ) → Result Answer Refusal → Result Answer Fault
told place (Ok answer) = Ok answer
told place (Err why) = Err (layered place why)

-- what a record makes of a running session
abbrev pub GoesOnBy : (place : ℕ) → Precedence → Result Event Malformed → Session → Session → Memory → Memory → Result Answer Fault → Type 0
GoesOnBy place rule (Ok e) s s' m m' r = (o : Result Answer Refusal) × Stepped rule e s s' m m' o × (r ≡ told place o)
GoesOnBy place rule (Err w) s s' m m' r = (s' ≡ s) × (r ≡ Err (Fault.Reader place w)) × SameMemory m m'

-- the answer to a record once the day has ended
abbrev pub past_end : (place : ℕ) → Result Event Malformed → Result Answer Fault
past_end place (Ok e) = Err (Fault.Day place Refusal.OutOfTurn)
past_end place (Err w) = Err (Fault.Reader place w)

-- what a record makes of a day, by what a reader says of it
abbrev pub TakenBy : (place : ℕ) → Result Event Malformed → Stage → Stage → Memory → Memory → Result Answer Fault → Type 0
TakenBy place a Unmade d' m m' r = (b : Result (Ruling × PreOpen) Fault) × BeginsBy place a m m' b × (d' ≡ begun b) × (r ≡ begun_answer b)
TakenBy place a (Running rule s) d' m m' r = (s' : Session) × GoesOnBy place (precedence_of rule) a s s' m m' r × (d' ≡ Running rule s')
TakenBy place a Ended d' m m' r = (d' ≡ Ended) × (r ≡ past_end place a) × SameMemory m m'

-- what the bytes of a record make of a day
pub record Taken (bytes : List ℕ) (d d' : Day) (m m' : Memory) (r : Result Answer Fault) : Type 0 where
  pub counts : d'.place ≡ next_place d.place
  -- what a reader says of the bytes
  pub reading : Result Event Malformed
  pub reads : Reads event_bytes EventFits bytes reading
  pub takes : TakenBy d'.place reading d.stage d'.stage m m' r

-- ---- the layers, each by itself

-- the event of a record, or the reader's fault at its place
abbrev pub read_as : (place : ℕ) → Result Event Malformed → Result Event Fault
read_as place (Ok e) = Ok e
read_as place (Err w) = Err (Fault.Reader place w)

-- what holds of what a reader says of the bytes
abbrev pub Reading : List ℕ → (Result Event Malformed → Type 0) → Type 0
Reading xs P = (a : Result Event Malformed) × Reads event_bytes EventFits xs a × P a

-- ---- the end

-- what a day came to, where it was closed
abbrev pub summary_at : Stage → Option Summary
summary_at Unmade = None
summary_at (Running rule s) = summary_of_closed s
summary_at Ended = None
