-- The text of a line of the listing. Assumes nothing.
use Rattle.std.specs.Prelude.{ℕ, List, [], ◌∷◌, ◌++◌, Ok, Err, codes, decimal, Result}
use Rattle.market.specs.Text.{numbers}
use Rattle.market.specs.declared.Event.{Event}
use Rattle.market.specs.declared.Side.TheVariants.{Buy, Sell}
use Rattle.records.specs.declared.Malformed.{Malformed}
use Rattle.records.specs.declared.Malformed.TheVariants.{Length, Byte}
use Rattle.listing.specs.declared.listing.Line.{Line}

-- the kind letter and the named values, or `?`, 17, and the wrong byte's place or the length
abbrev pub said_text : Result Event Malformed → List ℕ
said_text (Ok (Event.Make config rule)) = codes " M" ++ numbers (config.dealers ∷ config.least_quantity ∷ config.previous_average ∷ config.day_kind ∷ rule ∷ [])
said_text (Ok (Event.Clock time)) = codes " N" ++ numbers (time ∷ [])
said_text (Ok (Event.Quote dealer pair)) = codes " Q" ++ numbers (dealer ∷ pair.bid ∷ pair.bid_quantity ∷ pair.ask ∷ pair.ask_quantity ∷ [])
said_text (Ok (Event.Withdraw dealer)) = codes " W" ++ numbers (dealer ∷ [])
said_text (Ok Event.Bell) = codes " B"
said_text (Ok (Event.Order Buy price quantity)) = codes " O B" ++ numbers (price ∷ quantity ∷ [])
said_text (Ok (Event.Order Sell price quantity)) = codes " O S" ++ numbers (price ∷ quantity ∷ [])
said_text (Ok (Event.Cancel number amount)) = codes " C" ++ numbers (number ∷ amount ∷ [])
said_text (Ok (Event.Click dealer number)) = codes " K" ++ numbers (dealer ∷ number ∷ [])
said_text (Ok Event.Close) = codes " E"
said_text (Err (Length found)) = codes " ? 17" ++ numbers (found ∷ [])
said_text (Err (Byte place)) = codes " ? 17" ++ numbers (place ∷ [])

-- the record's place in the file, and what it says
abbrev pub line_text : Line → List ℕ
line_text l = decimal l.place ++ said_text l.said
