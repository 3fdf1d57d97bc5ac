-- A dealer's quote in a list: what a search by number finds, and what is left without it. Assumes nothing.
use Rattle.std.proofs.Common.{◌≡◌, ℕ, zero, suc, ◌<◌, Bool, true, false, cond, not, eqb, List, [], ◌∷◌, length, is_some, Some, None, MatchOption, Option, sym, refl, ap, ◌∙◌, arith}
use Rattle.std.specs.List.{remove, list_all, list_any, find, AllWithin, HoldsAt}
use Rattle.std.proofs.lemmas.Bool.{cond-true, cond-false, and_parts}
use Rattle.std.proofs.lemmas.Bool.Decides.{nat_tests}
use Rattle.market.specs.declared.Quote.{Quote}
use Rattle.market.specs.State.{apart, without, quote_by}

module _ (d : ℕ) where
  -- the quote is this dealer's
  abbrev pub his : Quote → Bool
  his q = eqb q.dealer d

  pub quote_is_found : (qs : List Quote) → quote_by d qs ≡ find his qs
  quote_is_found [] = refl
  quote_is_found (q ∷ qs) = ap (λ o. cond (his q) (Some q) o) (quote_is_found qs)

  pub found_is_any : (qs : List Quote) → is_some (quote_by d qs) ≡ list_any his qs
  found_is_any [] = refl
  found_is_any (q ∷ qs) = let h = found_is_any qs in grind (arith, h)

  -- where the dealer has none, none goes
  pub none_goes : (qs : List Quote) → AllWithin (λ (q : Quote). his q ≡ false) qs 0 (length qs) → qs ≡ without d qs
  none_goes [] none = refl
  none_goes (q ∷ qs) none =
      let rest = none_goes qs (λ k e l h. none (suc k) e (omega arith) (omega arith)) in
      ap (λ zs. q ∷ zs) rest ∙ sym (cond-true (not (his q)) _ _ (ap not (none 0 q (omega arith) (omega arith))))

  -- of the entries behind the dealer's one, none is its
  others_pass : (q : Quote) → his q ≡ true → (qs : List Quote) → list_all (λ (r : Quote). not (eqb q.dealer r.dealer)) qs ≡ true → without d qs ≡ qs
  others_pass q own [] a = refl
  others_pass q own (r ∷ qs) a =
      let parts = and_parts _ _ a in
      let other : his r ≡ false = grind (arith, nat_tests) in
      cond-true (not (his r)) _ _ (ap not other) ∙ ap (λ zs. r ∷ zs) (others_pass q own qs parts.1)

  -- where no dealer has two, taking the dealer's one out leaves the others
  pub others_left : (qs : List Quote) (at : ℕ) → apart (λ (q : Quote). q.dealer) qs ≡ true → at < length qs → HoldsAt (λ (q : Quote). his q ≡ true) qs at → AllWithin (λ (q : Quote). his q ≡ false) qs 0 at → remove qs at ≡ without d qs
  others_left [] at a h own none = absurd (omega arith)
  others_left (q ∷ qs) zero a h own none =
      sym (cond-false (not (his q)) _ _ (ap not (own q)) ∙ others_pass q (own q) qs (and_parts _ _ a).0)
  others_left (q ∷ qs) (suc at) a h own none =
      let rest = others_left qs at (and_parts _ _ a).1 (omega arith) own (λ k e l h. none (suc k) e (omega arith) (omega arith)) in
      ap (λ zs. q ∷ zs) rest ∙ sym (cond-true (not (his q)) _ _ (ap not (none 0 q (omega arith) (omega arith))))

  -- what the place of the dealer's one, if there is one, tells of the list without it
  pub place_leaves : (qs : List Quote) (r : Option ℕ) → MatchOption r (AllWithin (λ (q : Quote). his q ≡ false) qs 0 (length qs)) (λ i. (i < length qs) × HoldsAt (λ (q : Quote). his q ≡ true) qs i × AllWithin (λ (q : Quote). his q ≡ false) qs 0 i) → apart (λ (q : Quote). q.dealer) qs ≡ true → MatchOption r (qs ≡ without d qs) (λ at. remove qs at ≡ without d qs)
  place_leaves qs None h a = none_goes qs h
  place_leaves qs (Some at) h a = others_left qs at a h.0 h.1 h.2
