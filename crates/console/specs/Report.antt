-- The lines of a whole file, as a day gives them. Assumes nothing.
use Rattle.std.specs.Prelude.{◌≡◌, ℕ, ◌<◌, min, List, [], ◌∷◌, ◌++◌, length, Option}
use Rattle.market.specs.declared.Summary.{Summary}
use Rattle.book.specs.declared.memory.Memory.{Memory}
use Rattle.day.specs.declared.stages.Day.{Day}
use Rattle.day.specs.declared.stages.Stage.TheVariants.{Unmade}
use Rattle.day.specs.Course.{Taken, summary_at}
use Rattle.console.specs.declared.report.Line.{Line}
use Rattle.console.specs.Text.{letter_of}

-- the line of a record says what the day made of it, with the record's place and letter
pub record LineOf (bytes : List ℕ) (d d' : Day) (m m' : Memory) (line : Line) : Type 0 where
  pub taken : Taken bytes d d' m m' line.outcome
  pub at : line.place ≡ d'.place
  pub kind : line.letter ≡ letter_of bytes line.outcome

-- a day taken through a file, 24 bytes at a time; the last piece may be shorter
abbrev pub Goes : List ℕ → Day → Memory → List Line → Day → Memory → Type 0
Goes xs d m [] d' m' = (xs ≡ []) × (d' ≡ d) × (m' ≡ m)
Goes xs d m (l ∷ ls) d' m' =
    (piece : List ℕ) × (rest : List ℕ) × (xs ≡ piece ++ rest) × (length piece ≡ min 24 (length xs)) × (0 < length xs)
    × (d₁ : Day) × (m₁ : Memory) × LineOf piece d d₁ m m₁ l × Goes rest d₁ m₁ ls d' m'

-- a day before its first record
abbrev pub new_day : Day
new_day = record { place = 0; stage = Unmade }

-- the lines of a file, and what its day came to where it was closed
pub record Reported (file : List ℕ) (m m' : Memory) (lines : List Line) (summary : Option Summary) : Type 0 where
  pub day_after : Day
  pub goes : Goes file new_day m lines day_after m'
  pub sums_up : summary ≡ summary_at day_after.stage
