-- A list that stands in precedence, by any test that says which of two entries comes first. Assumes nothing.
use Rattle.std.specs.Prelude.{◌≡◌, ℕ, Bool, true, cond, not, ◌&&◌, List, [], ◌∷◌, Some, None, Option, ◌≢◌}
use Rattle.std.specs.List.{AllByRecursion, list_all}

-- x put in front of the first entry that it precedes
abbrev pub placed : {T : Type 0} → (T → T → Bool) → T → List T → List T
placed first_of x [] = x ∷ []
placed first_of x (y ∷ ys) = cond (first_of x y) (x ∷ y ∷ ys) (y ∷ placed first_of x ys)

-- whether each entry precedes all that stand behind it
abbrev pub ordered : {T : Type 0} → (T → T → Bool) → List T → Bool
ordered first_of [] = true
ordered first_of (x ∷ xs) = list_all (first_of x) xs && ordered first_of xs

-- the list stands strictly in precedence
abbrev pub Ordered : {T : Type 0} → (T → T → Bool) → List T → Type 0
Ordered first_of xs = ordered first_of xs ≡ true

-- whether no entry is the same as one behind it, by a test that says which are the same
abbrev pub is_distinct : {T : Type 0} → (T → T → Bool) → List T → Bool
is_distinct same [] = true
is_distinct same (x ∷ xs) = list_all (λ y. not (same x y)) xs && is_distinct same xs

-- no entry of the list has x's arrival number
abbrev pub Fresh : {T : Type 0} → (T → ℕ) → T → List T → Type 0
Fresh arrival_of x xs = AllByRecursion (λ y. arrival_of x ≢ arrival_of y) xs

-- the entry that stands first
abbrev pub head : {T : Type 0} → List T → Option T
head [] = None
head (x ∷ xs) = Some x

-- all entries but the first
abbrev pub tail : {T : Type 0} → List T → List T
tail [] = []
tail (x ∷ xs) = xs

-- the entry, if there is one, precedes each of these
abbrev pub Leads : {T : Type 0} → (T → T → Bool) → Option T → List T → Type 0
Leads first_of None xs = xs ≡ []
Leads first_of (Some x) xs = AllByRecursion (λ y. first_of x y ≡ true) xs
