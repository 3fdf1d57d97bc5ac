-- Numbers that stand twice, in one list or in two together. Assumes nothing.
use Rattle.std.proofs.Common.{◌≡◌, ℕ, Bool, not, ◌&&◌, eqb, List, [], ◌∷◌, ◌++◌, refl, arith}
use Rattle.std.specs.List.{list_all}
use Rattle.market.specs.State.{apart}
use Rattle.book.specs.View.{lacks}

passes_both : {T : Type 0} (p : T → Bool) (xs ys : List T) → list_all p (xs ++ ys) ≡ (list_all p xs && list_all p ys)
passes_both p [] ys = refl
passes_both p (x ∷ xs) ys = let h = passes_both p xs ys in grind (arith, h)

-- both together have no number twice where neither has, and none of the one stands in the other
pub apart_both : {T : Type 0} (number_of : T → ℕ) (xs ys : List T) → apart number_of (xs ++ ys) ≡ (list_all (λ x. lacks number_of (number_of x) ys) xs && (apart number_of xs && apart number_of ys))
apart_both number_of [] ys = refl
apart_both number_of (x ∷ xs) ys =
    let h = apart_both number_of xs ys in
    let e = passes_both (λ y. not (eqb (number_of x) (number_of y))) xs ys in
    grind (arith, h, e)
