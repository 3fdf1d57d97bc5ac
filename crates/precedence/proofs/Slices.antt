-- Entries in a slice: where a search for a place ends, and what the moves of an edit come to. Assumes nothing.
use Rattle.std.proofs.Common.{◌≡◌, ℕ, ◌+◌, ◌-◌, ◌<◌, ◌≤◌, Bool, true, false, cond, List, [], ◌∷◌, ◌++◌, length, get_or, take, drop, set, refl, ap, ◌∙◌, add-one, arith, rules}
use lib.Seq.{paste}
use Rattle.std.specs.List.{insert, remove, AllAdjacentBelow}
use Rattle.std.proofs.lemmas.Bool.{cases_eq, cond-true, cond-false, cond_both}
use Rattle.std.proofs.lemmas.List.{places, same_lists, get_or-set_same, take_at}
use Rattle.market.specs.Lists.{placed, ordered}
use Rattle.market.proofs.InOrder.{not_ordered, all_ordered}

-- the places from `at` on moved up by one, and x put at `at`
pub put_is : {T : Type 0} (xs ys : List T) (at : ℕ) (x : T) → at ≤ length xs - 1 → 0 < length xs → ys ≡ paste xs (at + 1) (drop at xs) (length xs - 1 - at) → set ys at x ≡ insert (take (length xs - 1) xs) at x
put_is xs ys at x h k e =
    rw e (same_lists _ _ (search (rules, places)) (λ i d l. let c = cases_eq i at in grind (arith, places, get_or-set_same, c)))

-- the places behind `at` moved down by one; the last of them keeps what it had
pub gap_closed : {T : Type 0} (xs ys : List T) (at : ℕ) → at < length xs → ys ≡ paste xs at (drop (at + 1) xs) (length xs - (at + 1)) → ys ≡ remove xs at ++ drop (length xs - 1) xs
gap_closed xs ys at h e = rw e (same_lists _ _ (search (rules, places)) (λ i d l. grind (arith, places)))

-- the entries that are left, where they stand in front of what lies behind them
pub left_alone : {T : Type 0} (xs ys behind : List T) (at : ℕ) → at < length xs → ys ≡ remove xs at ++ behind → take (length xs - 1) ys ≡ remove xs at
left_alone xs ys behind at h e =
    let l : length (remove xs at) ≡ length xs - 1 = search (rules, places) in
    ap (take (length xs - 1)) e ∙ take_at (remove xs at) behind (length xs - 1) l

module _ {T : Type 0} (b : T → T → Bool) where
  -- how many entries stand before the first that x precedes
  abbrev pub ahead : T → List T → ℕ
  ahead x [] = 0
  ahead x (y ∷ ys) = cond (b x y) 0 (ahead x ys + 1)

  pub ahead_stops : (x y : T) (ys : List T) → b x y ≡ true → ahead x (y ∷ ys) ≡ 0
  ahead_stops x y ys e = cond-true (b x y) _ _ e

  pub ahead_passes : (x y : T) (ys : List T) → b x y ≡ false → ahead x (y ∷ ys) ≡ ahead x ys + 1
  ahead_passes x y ys e = cond-false (b x y) _ _ e

  -- that is its place
  pub placed_at : (x : T) (xs : List T) → insert xs (ahead x xs) x ≡ placed b x xs
  placed_at x [] = refl
  placed_at x (y ∷ ys) =
      cond_both (b x y) 0 (ahead x ys + 1) (λ n. insert (y ∷ ys) n x ≡ placed b x (y ∷ ys))
      (λ e. rw (cond-true (b x y) (x ∷ y ∷ ys) (y ∷ placed b x ys) e) refl)
      (λ e. rw (cond-false (b x y) (x ∷ y ∷ ys) (y ∷ placed b x ys) e) (simp add-one (ap (λ zs. y ∷ zs) (placed_at x ys))))

  -- how neighbours tell whether the entries are in order: the ends of a walk along them
  pub record Told (entries : List T) : Type 0 where
    pub breach : (i : ℕ) (x y : T) → 0 < i → i < length entries → x ≡ get_or entries (i - 1) x → y ≡ get_or entries i y → false ≡ b x y → false ≡ ordered b entries
    pub through : (i : ℕ) → length entries ≤ i → AllAdjacentBelow (λ x y. b x y ≡ true) entries i → true ≡ ordered b entries

  pub told : ((x y z : T) → b x y ≡ true → b y z ≡ true → b x z ≡ true) → (entries : List T) → Told entries
  told chains entries = record { breach = not_ordered b entries; through = all_ordered b chains entries }
