-- The 24 bytes of every event record and every tape record. Assumes nothing.
use Rattle.std.specs.Prelude.{ℕ, ◌/◌, ◌%◌, ◌^◌, ◌<◌, List, [], ◌∷◌, ◌++◌, codes, slice_index}
use Prim.Native.String.{String}
use Rattle.market.specs.declared.Side.{Side}
use Rattle.market.specs.declared.Side.TheVariants.{Buy, Sell}
use Rattle.market.specs.declared.Event.{Event}
use Rattle.market.specs.declared.TapeRecord.{TapeRecord}

-- the four bytes of a word, the highest first
abbrev pub word_bytes : ℕ → List ℕ
word_bytes n = (n / 16777216 % 256) ∷ (n / 65536 % 256) ∷ (n / 256 % 256) ∷ (n % 256) ∷ []

-- the number of a letter
abbrev pub ascii : String → ℕ
ascii text = slice_index (codes text) 0

-- the letter of an order's side
abbrev pub letter : Side → ℕ
letter Buy = ascii "B"
letter Sell = ascii "S"

-- the letter of a record without a side
abbrev pub no_side : ℕ
no_side = ascii "-"

-- the time and the fields A to D
abbrev pub words : (time a b c d : ℕ) → List ℕ
words time a b c d = word_bytes time ++ (word_bytes a ++ (word_bytes b ++ (word_bytes c ++ word_bytes d)))

-- the letters of the kind and the side, the dealer, a zero, the time, and the fields A to D
abbrev pub row : String → (side dealer time a b c d : ℕ) → List ℕ
row kind side dealer time a b c d = ascii kind ∷ side ∷ dealer ∷ 0 ∷ words time a b c d

-- an event's record
abbrev pub event_bytes : Event → List ℕ
event_bytes (Event.Make config rule) = row "M" no_side config.dealers 0 config.least_quantity config.previous_average config.day_kind rule
event_bytes (Event.Clock time) = row "N" no_side 0 time 0 0 0 0
event_bytes (Event.Quote dealer pair) = row "Q" no_side dealer 0 pair.bid pair.bid_quantity pair.ask pair.ask_quantity
event_bytes (Event.Withdraw dealer) = row "W" no_side dealer 0 0 0 0 0
event_bytes Event.Bell = row "B" no_side 0 0 0 0 0 0
event_bytes (Event.Order side price quantity) = row "O" (letter side) 0 0 price quantity 0 0
event_bytes (Event.Cancel number amount) = row "C" no_side 0 0 number amount 0 0
event_bytes (Event.Click dealer number) = row "K" no_side dealer 0 number 0 0 0
event_bytes Event.Close = row "E" no_side 0 0 0 0 0 0

-- a tape record's bytes
abbrev pub tape_bytes : TapeRecord → List ℕ
tape_bytes (TapeRecord.Quote time dealer pair) = row "Q" no_side dealer time pair.bid pair.bid_quantity pair.ask pair.ask_quantity
tape_bytes (TapeRecord.Withdrawal time dealer) = row "W" no_side dealer time 0 0 0 0
tape_bytes (TapeRecord.Order time side price quantity) = row "O" (letter side) 0 time price quantity 0 0
tape_bytes (TapeRecord.Cancellation time side number quantity) = row "C" (letter side) 0 time number quantity 0 0
tape_bytes (TapeRecord.Click time dealer side number price taken entered) = row "K" (letter side) dealer time number price taken entered
tape_bytes (TapeRecord.Trade t) = row "T" (letter t.side) t.dealer t.time t.number t.price t.quantity t.arrival
tape_bytes (TapeRecord.Late time dealer missed) = row "L" no_side dealer time missed 0 0 0
tape_bytes (TapeRecord.Halt time direction) = row "H" no_side 0 time direction 0 0 0

-- a number fits a word, or a byte
abbrev pub IsWord : ℕ → Type 0
IsWord n = n < 2 ^ 32

abbrev pub IsByte : ℕ → Type 0
IsByte n = n < 2 ^ 8

-- the numbers of an event fit their places
abbrev pub EventFits : Event → Type 0
EventFits (Event.Make config rule) = IsByte config.dealers × IsWord config.least_quantity × IsWord config.previous_average × IsWord config.day_kind × IsWord rule
EventFits (Event.Clock time) = IsWord time
EventFits (Event.Quote dealer pair) = IsByte dealer × IsWord pair.bid × IsWord pair.bid_quantity × IsWord pair.ask × IsWord pair.ask_quantity
EventFits (Event.Withdraw dealer) = IsByte dealer
EventFits Event.Bell = Unit {0}
EventFits (Event.Order side price quantity) = IsWord price × IsWord quantity
EventFits (Event.Cancel number amount) = IsWord number × IsWord amount
EventFits (Event.Click dealer number) = IsByte dealer × IsWord number
EventFits Event.Close = Unit {0}

-- the numbers of a tape record fit their places
abbrev pub TapeFits : TapeRecord → Type 0
TapeFits (TapeRecord.Quote time dealer pair) = IsWord time × IsByte dealer × IsWord pair.bid × IsWord pair.bid_quantity × IsWord pair.ask × IsWord pair.ask_quantity
TapeFits (TapeRecord.Withdrawal time dealer) = IsWord time × IsByte dealer
TapeFits (TapeRecord.Order time side price quantity) = IsWord time × IsWord price × IsWord quantity
TapeFits (TapeRecord.Cancellation time side number quantity) = IsWord time × IsWord number × IsWord quantity
TapeFits (TapeRecord.Click time dealer side number price taken entered) = IsWord time × IsByte dealer × IsWord number × IsWord price × IsWord taken × IsWord entered
TapeFits (TapeRecord.Trade t) = IsWord t.time × IsByte t.dealer × IsWord t.number × IsWord t.price × IsWord t.quantity × IsWord t.arrival
TapeFits (TapeRecord.Late time dealer missed) = IsWord time × IsByte dealer × IsWord missed
TapeFits (TapeRecord.Halt time direction) = IsWord time × IsWord direction
