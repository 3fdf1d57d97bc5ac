-- The numbers that refusals and answers go by. Assumes nothing.
use Rattle.std.specs.Prelude.{ℕ, List, [], ◌∷◌}
use Rattle.market.specs.declared.Refusal.{Refusal}
use Rattle.market.specs.declared.Answer.{Answer}

-- the number of a refusal; 17 is the reader's
abbrev pub refusal_number : Refusal → ℕ
refusal_number Refusal.UnlawfulBook = 1
refusal_number Refusal.Halted = 2
refusal_number Refusal.UnknownDealer = 3
refusal_number Refusal.PriceOutOfRange = 4
refusal_number Refusal.QuantityOutOfRange = 5
refusal_number Refusal.BadSpread = 6
refusal_number Refusal.OutsideOrderRange = 7
refusal_number Refusal.ListFull = 8
refusal_number Refusal.TapeFull = 9
refusal_number Refusal.NoSuchOrder = 10
refusal_number Refusal.LacksQuote = 11
refusal_number Refusal.AlreadyReached = 12
refusal_number Refusal.BeyondOwnQuote = 13
refusal_number Refusal.ClockOutOfRange = 14
refusal_number Refusal.BadConfig = 15
refusal_number Refusal.BadAmount = 16
refusal_number Refusal.OutOfTurn = 18
refusal_number Refusal.NoQuote = 19

-- the values of an answer; a withdrawal answers 0, and the making, the bell and the close nothing
abbrev pub answer_values : Answer → List ℕ
answer_values Answer.Made = []
answer_values (Answer.Quoted by_ask by_bid) = by_ask ∷ by_bid ∷ []
answer_values Answer.Withdrawn = 0 ∷ []
answer_values Answer.Rung = []
answer_values (Answer.Ordered number filled) = number ∷ filled ∷ []
answer_values (Answer.Cancelled shares) = shares ∷ []
answer_values (Answer.Clicked shares) = shares ∷ []
answer_values (Answer.Stepped late) = late ∷ []
answer_values Answer.Closed = []
