-- The text of a report's lines. Assumes nothing.
use Rattle.std.specs.Prelude.{ℕ, List, [], ◌∷◌, ◌++◌, Ok, Err, codes, decimal, Result}
use Rattle.std.proofs.Math.Utf8.{encode}
use Rattle.market.specs.Text.{numbers}
use Rattle.market.specs.declared.Answer.{Answer}
use Rattle.market.specs.declared.Summary.{Summary}
use Rattle.market.specs.Outcomes.{answer_values}
use Rattle.day.specs.declared.faults.Fault.{Fault}
use Rattle.day.specs.Faults.{fault_text}
use Rattle.console.specs.declared.report.Line.{Line}

-- `ok` and the answer's values, or `refused` and the fault
abbrev pub outcome_text : Result Answer Fault → List ℕ
outcome_text (Ok answer) = codes " ok" ++ numbers (answer_values answer)
outcome_text (Err fault) = codes " refused " ++ fault_text fault

-- the record's place, its letter, and what came of it
abbrev pub line_text : Line → List ℕ
line_text l = decimal l.place ++ (codes " " ++ (encode l.letter ++ outcome_text l.outcome))

-- the day's shares, value and average
abbrev pub summary_text : Summary → List ℕ
summary_text s = codes "summary" ++ numbers (s.shares ∷ s.value ∷ s.average ∷ [])

-- the first byte, or a question mark (63) where there is none
abbrev pub first_byte : List ℕ → ℕ
first_byte [] = 63
first_byte (b ∷ bs) = b

-- the letter of a record: a question mark for bytes that are none
abbrev pub letter_of : List ℕ → Result Answer Fault → ℕ
letter_of xs (Ok answer) = first_byte xs
letter_of xs (Err (Fault.Reader place malformed)) = 63
letter_of xs (Err (Fault.Day place refusal)) = first_byte xs
letter_of xs (Err (Fault.Session place refusal)) = first_byte xs
