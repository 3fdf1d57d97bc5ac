-- The numbers of faults, and their text. Assumes nothing.
use Rattle.std.specs.Prelude.{ℕ, List, ◌++◌, codes, decimal}
use Rattle.market.specs.Outcomes.{refusal_number}
use Rattle.records.specs.declared.Malformed.TheVariants.{Length, Byte}
use Rattle.day.specs.declared.faults.Fault.{Fault}
use Rattle.day.specs.declared.faults.Fault.TheVariants.{Reader, Day, Session}

-- 17 is the reader's; the day's and the session's are those of their refusals
abbrev pub fault_number : Fault → ℕ
fault_number (Reader place malformed) = 17
fault_number (Day place refusal) = refusal_number refusal
fault_number (Session place refusal) = refusal_number refusal

-- the number and the layer, and for bytes that are no record the length or the first wrong byte's place
abbrev pub fault_text : Fault → List ℕ
fault_text (Reader place (Length found)) = codes "17 reader " ++ decimal found
fault_text (Reader place (Byte byte)) = codes "17 reader " ++ decimal byte
fault_text (Day place refusal) = decimal (refusal_number refusal) ++ codes " day"
fault_text (Session place refusal) = decimal (refusal_number refusal) ++ codes " session"
