-- A report that grows by a line at its end. Assumes nothing.
use Rattle.std.proofs.Common.{◌≡◌, ℕ, List, [], ◌++◌, length, refl}
use Rattle.std.proofs.lemmas.List.{append-nil, nil_from_length}
use Rattle.book.specs.declared.memory.Memory.{Memory}
use Rattle.day.specs.declared.stages.Day.{Day}
use Rattle.console.specs.declared.report.Line.{Line}
use Rattle.console.specs.Report.{Goes}

module _ (file : List ℕ) (d₀ : Day) (m₀ : Memory) where
  -- with lines for the rest of the file, from the day as it is now, these lines are the file's
  abbrev pub Begun : List Line → List ℕ → Day → Memory → Type 0
  Begun lines rest d m = (more : List Line) (d' : Day) (m' : Memory) → Goes rest d m more d' m' → Goes file d₀ m₀ (lines ++ more) d' m'

  pub begun_all : (rest : List ℕ) (lines : List Line) (d : Day) (m : Memory) → length rest ≡ 0 → Begun lines rest d m → Goes file d₀ m₀ lines d m
  begun_all rest lines d m e b = rw append-nil at (b [] d m (nil_from_length rest e, refl, refl))
