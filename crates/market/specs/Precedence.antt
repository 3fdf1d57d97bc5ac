-- What a rule of precedence means, and when it is lawful. Assumes nothing.
use Rattle.std.specs.Prelude.{◌≡◌, ℕ, Bool, true, false, ◌&&◌, ◌||◌, ◌==◌, ◌≢◌, nat_lt}
use Rattle.market.specs.declared.Side.{Side}
use Rattle.market.specs.declared.Quote.{Quote}
use Rattle.market.specs.declared.Order.{Order}
use Rattle.market.specs.declared.QuoteKey.{QuoteKey}
use Rattle.market.specs.declared.OrderKey.{OrderKey}
use Rattle.market.specs.Prices.{better_price}

-- what a rule reads of a quote: all but what is left of it
abbrev pub quote_key : Quote → QuoteKey
quote_key q = record { dealer = q.dealer; price = q.price; entered = q.entered; arrival = q.arrival }

-- what a rule reads of an order: all but what is left of it
abbrev pub order_key : Order → OrderKey
order_key o = record { number = o.number; price = o.price; entered = o.entered }

-- what a rule means for quotes: by side, whether the first comes before the second
pub record QuotePrecedence : Type 0 where
  pub quote_first : Side → QuoteKey → QuoteKey → Bool

-- what a rule means for orders: by side, whether the first comes before the second
pub record OrderPrecedence : Type 0 where
  pub order_first : Side → OrderKey → OrderKey → Bool

-- a relation on one side's entries that may stand as a rule of precedence, by each entry's price and arrival number
pub record Lawful {K : Type 0} (price arrival : K → ℕ) (side : Side) (first : K → K → Bool) : Type 0 where
  -- none comes before itself
  pub irreflexive : (x : K) → first x x ≡ false
  -- what comes before another comes before all that the other does
  pub transitive : (x y z : K) → first x y ≡ true → first y z ≡ true → first x z ≡ true
  -- of two with different arrival numbers, one comes before the other
  pub decides : (x y : K) → (arrival x ≢ arrival y) → first x y ≡ false → first y x ≡ true
  -- the better price comes first
  pub better_first : (x y : K) → better_price side (price x) (price y) ≡ true → first x y ≡ true

-- a rule's half for quotes is lawful on both sides
abbrev pub LawfulQuotes : QuotePrecedence → Type 0
LawfulQuotes p = (s : Side) → Lawful (λ (k : QuoteKey). k.price) (λ k. k.arrival) s (p.quote_first s)

-- a rule's half for orders is lawful on both sides; an order's number is its arrival number
abbrev pub LawfulOrders : OrderPrecedence → Type 0
LawfulOrders p = (s : Side) → Lawful (λ (k : OrderKey). k.price) (λ k. k.number) s (p.order_first s)

-- what a whole rule means
pub record Precedence : Type 0 where
  pub of_quotes : QuotePrecedence
  pub of_orders : OrderPrecedence

-- a rule is lawful when both halves of it are
pub record LawfulRule (rule : Precedence) : Type 0 where
  pub lawful_quotes : LawfulQuotes rule.of_quotes
  pub lawful_orders : LawfulOrders rule.of_orders

-- one quote before another, whatever is left of each
abbrev pub quote_before : QuotePrecedence → Side → Quote → Quote → Bool
quote_before p s x y = p.quote_first s (quote_key x) (quote_key y)

-- one order before another, whatever is left of each
abbrev pub order_before : OrderPrecedence → Side → Order → Order → Bool
order_before p s x y = p.order_first s (order_key x) (order_key y)

-- the better price first, and at equal prices by a test of one's own
abbrev pub by_price : Side → ℕ → ℕ → Bool → Bool
by_price s p q at_equal = better_price s p q || (p == q && at_equal)

-- the larger quantity first, and at equal quantities by a test of one's own
abbrev pub by_quantity : ℕ → ℕ → Bool → Bool
by_quantity m n at_equal = nat_lt n m || (m == n && at_equal)

-- Time: at equal prices the earlier arrival
abbrev pub time_quotes : QuotePrecedence
time_quotes = record { quote_first = λ s x y. by_price s x.price y.price (nat_lt x.arrival y.arrival) }

abbrev pub time_orders : OrderPrecedence
time_orders = record { order_first = λ s x y. by_price s x.price y.price (nat_lt x.number y.number) }

-- Size: at equal prices the larger entered quantity, then the earlier arrival
abbrev pub size_quotes : QuotePrecedence
size_quotes = record {
  quote_first = λ s x y. by_price s x.price y.price (by_quantity x.entered y.entered (nat_lt x.arrival y.arrival));
}

abbrev pub size_orders : OrderPrecedence
size_orders = record {
  order_first = λ s x y. by_price s x.price y.price (by_quantity x.entered y.entered (nat_lt x.number y.number));
}
