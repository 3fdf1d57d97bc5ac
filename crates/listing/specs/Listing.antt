-- The lines of a whole file. Assumes nothing.
use Rattle.std.specs.Prelude.{◌≡◌, ℕ, ◌+◌, ◌<◌, min, List, [], ◌∷◌, ◌++◌, length}
use Rattle.records.specs.Layout.{event_bytes, EventFits}
use Rattle.records.specs.Reading.{Answered}
use Rattle.listing.specs.declared.listing.Line.{Line}

-- the line of the bytes at a place says that place, and what a reader answers to the bytes
pub record LineOf (place : ℕ) (bytes : List ℕ) (line : Line) : Type 0 where
  pub at : line.place ≡ place
  pub said : Answered event_bytes EventFits bytes line.said

-- a line for each 24 bytes, from this place on; the last piece may be shorter
abbrev pub Lists : (place : ℕ) → List ℕ → List Line → Type 0
Lists place xs [] = xs ≡ []
Lists place xs (l ∷ ls) = (piece : List ℕ) × (rest : List ℕ) × (xs ≡ piece ++ rest) × (length piece ≡ min 24 (length xs)) × (0 < length xs) × LineOf place piece l × Lists (place + 1) rest ls
