-- The lent memory, as lists. Assumes nothing.
use Rattle.std.specs.Prelude.{ℕ, ◌≤◌, Bool, not, List, length, take, ◌==◌}
use Rattle.std.specs.List.{list_all}
use Rattle.market.specs.Precedence.{QuotePrecedence, OrderPrecedence, Precedence}
use Rattle.market.specs.State.{Lists, Sizes}
use Rattle.book.specs.declared.memory.Memory.{Memory}
use Rattle.book.specs.declared.memory.Lengths.{Lengths}

-- both halves of a rule
abbrev pub rule_of : QuotePrecedence → OrderPrecedence → Precedence
rule_of q o = record { of_quotes = q; of_orders = o }

-- how many places the memory has
abbrev pub places_of : Memory → Lengths
places_of m = record {
  bids = length m.bids.now;
  asks = length m.asks.now;
  buys = length m.buys.now;
  sells = length m.sells.now;
  tape = length m.tape.now;
}

-- the same, in the words of the model
abbrev pub sizes_of : Lengths → Sizes
sizes_of p = record { bid_places = p.bids; ask_places = p.asks; buy_places = p.buys; sell_places = p.sells; tape_places = p.tape }

-- the four lists that the memory holds
abbrev pub lists_of : Lengths → Memory → Lists
lists_of c m = record {
  bids = take c.bids m.bids.now;
  asks = take c.asks m.asks.now;
  buys = take c.buys m.buys.now;
  sells = take c.sells m.sells.now;
}

-- no more entries than places
pub record CountsFit (c p : Lengths) : Type 0 where
  pub fit_bids : c.bids ≤ p.bids
  pub fit_asks : c.asks ≤ p.asks
  pub fit_buys : c.buys ≤ p.buys
  pub fit_sells : c.sells ≤ p.sells
  pub fit_tape : c.tape ≤ p.tape

-- no entry has the number n
abbrev pub lacks : {T : Type 0} → (T → ℕ) → ℕ → List T → Bool
lacks number_of n xs = list_all (λ x. not (n == number_of x)) xs
