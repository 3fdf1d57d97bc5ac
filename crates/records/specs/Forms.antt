-- What each kind of record says of each of its bytes, and the bytes nearest to given ones that keep to it. Assumes nothing.
use Rattle.std.specs.Prelude.{ℕ, cond, List, [], ◌∷◌, ◌++◌, ◌==◌}

-- a place always holds this byte, or may hold any, or one of the letters B and S
pub data Slot : Type 0 where
  fixed : ℕ → Slot
  free : Slot
  sided : Slot

abbrev four : Slot → List Slot
four s = s ∷ s ∷ s ∷ s ∷ []

abbrev form : (kind : ℕ) → (side dealer time a b c d : Slot) → List Slot
form kind side dealer time a b c d = fixed kind ∷ side ∷ dealer ∷ fixed 0 ∷ (four time ++ (four a ++ (four b ++ (four c ++ four d))))

abbrev none : Slot
none = fixed 45

abbrev zeros : Slot
zeros = fixed 0

-- by the letter of an event record: M, N, Q, W, B, O, C, K, E
abbrev pub event_form : ℕ → List Slot
event_form k =
    cond (k == 77) (form 77 none free zeros free free free free)
    (cond (k == 78) (form 78 none zeros free zeros zeros zeros zeros)
    (cond (k == 81) (form 81 none free zeros free free free free)
    (cond (k == 87) (form 87 none free zeros zeros zeros zeros zeros)
    (cond (k == 66) (form 66 none zeros zeros zeros zeros zeros zeros)
    (cond (k == 79) (form 79 sided zeros zeros free free zeros zeros)
    (cond (k == 67) (form 67 none zeros zeros free free zeros zeros)
    (cond (k == 75) (form 75 none free zeros free zeros zeros zeros)
    (cond (k == 69) (form 69 none zeros zeros zeros zeros zeros zeros) []))))))))

-- by the letter of a tape record: Q, W, O, C, K, T, L, H
abbrev pub tape_form : ℕ → List Slot
tape_form k =
    cond (k == 81) (form 81 none free free free free free free)
    (cond (k == 87) (form 87 none free free zeros zeros zeros zeros)
    (cond (k == 79) (form 79 sided zeros free free free zeros zeros)
    (cond (k == 67) (form 67 sided zeros free free free zeros zeros)
    (cond (k == 75) (form 75 sided free free free free free free)
    (cond (k == 84) (form 84 sided free free free free free free)
    (cond (k == 76) (form 76 none free free free zeros zeros zeros)
    (cond (k == 72) (form 72 none zeros free free zeros zeros zeros) [])))))))

-- the byte nearest to x that the place may hold
abbrev pub settled : Slot → ℕ → ℕ
settled (fixed v) x = v
settled free x = x
settled sided x = cond (x == 66) 66 83

abbrev pub all_settled : List Slot → List ℕ → List ℕ
all_settled [] xs = []
all_settled (s ∷ ss) [] = []
all_settled (s ∷ ss) (x ∷ xs) = settled s x ∷ all_settled ss xs
