-- Which of two prices is better. Assumes nothing.
use Rattle.std.specs.Prelude.{ℕ, Bool, nat_lt}
use Rattle.market.specs.declared.Side.{Side}
use Rattle.market.specs.declared.Side.TheVariants.{Buy, Sell}

-- the first price is strictly better than the second: higher for bids and buy orders, lower for asks and sell orders
abbrev pub better_price : Side → ℕ → ℕ → Bool
better_price Buy p q = nat_lt q p
better_price Sell p q = nat_lt p q
