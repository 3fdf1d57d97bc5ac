-- The rules of precedence that a making can name, their numbers and their meaning. Assumes nothing.
use Rattle.std.specs.Prelude.{◌≡◌, ◌≢◌, ℕ, List, ◌++◌, codes, decimal, Ok, Err, Result}
use Rattle.market.specs.Precedence.{QuotePrecedence, OrderPrecedence, time_quotes, time_orders, size_quotes, size_orders}
use Rattle.day.specs.declared.rulings.Ruling.{Ruling}
use Rattle.day.specs.declared.rulings.Ruling.TheVariants.{Time, Size}
use Rattle.day.specs.declared.rulings.UnknownRule.{UnknownRule}

-- what a rule means for quotes
abbrev pub quotes_of : Ruling → QuotePrecedence
quotes_of Time = time_quotes
quotes_of Size = size_quotes

-- what a rule means for orders
abbrev pub orders_of : Ruling → OrderPrecedence
orders_of Time = time_orders
orders_of Size = size_orders

-- the rule of a number: 1 is Time, 2 is Size, and no other number has one
abbrev pub Names : ℕ → Result Ruling UnknownRule → Type 0
Names number (Ok Time) = number ≡ 1
Names number (Ok Size) = number ≡ 2
Names number (Err unknown) = (unknown.0 ≡ number) × (number ≢ 1) × (number ≢ 2)

-- what is said of a number that names none
abbrev pub unknown_text : ℕ → List ℕ
unknown_text number = codes "no rule of precedence has the number " ++ decimal number
