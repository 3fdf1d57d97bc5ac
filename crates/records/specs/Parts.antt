-- The parts that a record is read into, and the bytes that they came from. Assumes nothing.
use Rattle.std.specs.Prelude.{◌≡◌, ℕ, List, ◌∷◌, Some, None, Option, ◌≢◌, slice_index}
use Rattle.market.specs.declared.Pair.{Pair}
use Rattle.records.specs.declared.parts.Head.{Head}
use Rattle.records.specs.Layout.{words, IsWord}
use Rattle.records.specs.Forms.{Slot, all_settled}

-- the time and the fields A to D, given as a list
abbrev pub words_of : List ℕ → List ℕ
words_of w = words (slice_index w 0) (slice_index w 1) (slice_index w 2) (slice_index w 3) (slice_index w 4)

-- each of the five fits a word
abbrev pub words_fit : List ℕ → Type 0
words_fit w = IsWord (slice_index w 0) × IsWord (slice_index w 1) × IsWord (slice_index w 2) × IsWord (slice_index w 3) × IsWord (slice_index w 4)

-- the pair in the fields A to D
abbrev pub pair_in : List ℕ → Pair
pair_in w = record { bid = slice_index w 1; bid_quantity = slice_index w 2; ask = slice_index w 3; ask_quantity = slice_index w 4 }

-- the whole record
abbrev pub parts_of : Head → List ℕ → List ℕ
parts_of h w = h.kind ∷ h.side ∷ h.dealer ∷ h.zero ∷ words_of w

-- the value whose record keeps to the form of the parts' kind, and is nearest to the parts; none where no value has that kind
abbrev pub Outlined : {E : Type 0} → (E → List ℕ) → (ℕ → List Slot) → Head → List ℕ → Option E → Type 0
Outlined {E} bytes_of form_of h w None = (e : E) → slice_index (bytes_of e) 0 ≢ h.kind
Outlined bytes_of form_of h w (Some e) = bytes_of e ≡ all_settled (form_of h.kind) (parts_of h w)
