-- A word, a side and a pair can be had back from their bytes. Assumes nothing.
use Rattle.std.specs.Prelude.{◌≡◌, ℕ, ◌+◌, ◌*◌, ◌/◌, ◌%◌, cond, List, slice_index, refl, ◌==◌}
use Rattle.market.specs.declared.Pair.{Pair}
use Rattle.market.specs.declared.Side.{Side}
use Rattle.market.specs.declared.Side.TheVariants.{Buy, Sell}
use Rattle.records.specs.Layout.{letter, no_side, row, IsWord}
use Rattle.records.specs.Forms.{settled, sided}

-- the number that four bytes stand for, the highest first
abbrev pub number : (w x y z : ℕ) → ℕ
number w x y z = w * 16777216 + x * 65536 + y * 256 + z

-- the number at a place of a list of bytes
abbrev pub word_at : List ℕ → ℕ → ℕ
word_at xs i = number (slice_index xs i) (slice_index xs (i + 1)) (slice_index xs (i + 2)) (slice_index xs (i + 3))

-- a word is the number that its bytes stand for
abbrev pub WordInverse : Type 0
WordInverse = (n : ℕ) → IsWord n → number (n / 16777216 % 256) (n / 65536 % 256) (n / 256 % 256) (n % 256) ≡ n

-- the side of a letter, where it is a side's
abbrev pub side_of : ℕ → Side
side_of x = cond (x == 66) Buy Sell

pub side_inverse : (s : Side) → side_of (letter s) ≡ s
side_inverse Buy = refl
side_inverse Sell = refl

-- a side's letter is one that stands for a side
pub side_keeps : (s : Side) → settled sided (letter s) ≡ letter s
side_keeps Buy = refl
side_keeps Sell = refl

-- the pair in the fields A to D
abbrev pub pair_of : List ℕ → Pair
pair_of xs = record {
  bid = word_at xs 8;
  bid_quantity = word_at xs 12;
  ask = word_at xs 16;
  ask_quantity = word_at xs 20;
}

-- each number of a pair can be had back
pub pair_inverse : WordInverse → (p : Pair) → IsWord p.bid → IsWord p.bid_quantity → IsWord p.ask → IsWord p.ask_quantity → pair_of (row "Q" no_side 0 0 p.bid p.bid_quantity p.ask p.ask_quantity) ≡ p
pair_inverse word p a b c d = λ i. record {
  bid = word p.bid a i;
  bid_quantity = word p.bid_quantity b i;
  ask = word p.ask c i;
  ask_quantity = word p.ask_quantity d i;
}
