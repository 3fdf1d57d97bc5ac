-- Which quote can serve which order, and for how many shares. Assumes nothing.
use Rattle.std.specs.Prelude.{ℕ, ◌-◌, ◌%◌, min, Bool, cond, ◌&&◌, ◌==◌, nat_le, nat_lt}
use Rattle.market.specs.declared.Side.{Side}
use Rattle.market.specs.declared.Side.TheVariants.{Buy, Sell}
use Rattle.market.specs.declared.Quote.{Quote}
use Rattle.market.specs.declared.Order.{Order}

-- the side that a side meets: bids meet sell orders, asks meet buy orders
abbrev pub other_side : Side → Side
other_side Buy = Sell
other_side Sell = Buy

-- by the order's side: an ask has reached a buy order priced at or above it, a bid a sell order priced at or below it
abbrev pub has_reached : Side → Quote → Order → Bool
has_reached Buy q o = nat_le q.price o.price
has_reached Sell q o = nat_le o.price q.price

-- a round lot: an order entered for a multiple of it trades in multiples of it
abbrev pub lot : ℕ
lot = 1000

-- a multiple of the lot
abbrev pub is_whole : ℕ → Bool
is_whole n = n % lot == 0

-- cut down to a multiple of the lot
abbrev pub cut_down : ℕ → ℕ
cut_down n = n - n % lot

-- what the quote can take of the order: the smaller of what is left in both, cut down where the order was entered for whole lots
abbrev pub can_take : Quote → Order → ℕ
can_take q o = cond (is_whole o.entered) (cut_down (min q.live o.left)) (min q.live o.left)

-- by the order's side: the quote has reached the order, and can take at least one share of it
abbrev pub can_serve : Side → Quote → Order → Bool
can_serve s q o = has_reached s q o && nat_lt 0 (can_take q o)
