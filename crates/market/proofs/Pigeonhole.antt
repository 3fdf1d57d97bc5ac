-- Sixteen places suffice: a list in which no dealer stands twice is no longer than there are dealers. Assumes nothing.
use Rattle.std.proofs.Common.{◌≡◌, ℕ, zero, suc, ◌+◌, ◌<◌, ◌≤◌, Bool, true, false, not, eqb, leb, List, [], ◌∷◌, length, sym, refl, ap, ◌∙◌, arith}
use Rattle.std.specs.List.{AllByRecursion}
use Rattle.std.proofs.ByRecursion.{All-weaker, all_kept_by, kept_by_passes}
use Rattle.std.proofs.lemmas.Bool.{and_parts, cond_both, cond-true, eqb-true, eqb-false, ne_eqb, leb-true, not-true, not-false}
use Rattle.market.specs.declared.Quote.{Quote}
use Rattle.market.specs.declared.Side.{Side}
use Rattle.market.specs.Precedence.{Precedence}
use Rattle.market.specs.State.{is_dealer, lawful_quote, without}
use Rattle.market.proofs.InOrder.{Chain}
use Rattle.market.proofs.Finds.{differ, except, except_differ, chain_kept}
use Rattle.market.proofs.LawfulBooks.{dealer_of, QuotesFit}

module _ {T : Type 0} (number_of : T → ℕ) where
  -- the number is one of 1 to n
  abbrev pub UpTo : (n : ℕ) → T → Type 0
  UpTo n x = (1 ≤ number_of x) × (number_of x ≤ n)

  none_gone : (x : T) (k : ℕ) → number_of x ≡ k → (xs : List T) → AllByRecursion (λ y. differ number_of x y ≡ true) xs → except number_of k xs ≡ xs
  none_gone x k e [] a = refl
  none_gone x k e (y ∷ ys) a =
      let other : eqb (number_of y) k ≡ false = ne_eqb (number_of y) k (λ s. eqb-false (number_of x) (number_of y) (not-true _ a.0) (e ∙ sym s)) in
      cond-true (not (eqb (number_of y) k)) _ _ (ap not other) ∙ ap (λ zs. y ∷ zs) (none_gone x k e ys a.1)

  -- at most one entry has a number
  one_gone : (k : ℕ) (xs : List T) → Chain (differ number_of) xs → length xs ≤ length (except number_of k xs) + 1
  one_gone k [] c = omega arith
  one_gone k (x ∷ xs) c =
      cond_both (not (eqb (number_of x) k)) (x ∷ except number_of k xs) (except number_of k xs) (λ ys. suc (length xs) ≤ length ys + 1)
      (λ _. let shorter = one_gone k xs c.1 in omega arith)
      (λ e. let same = ap length (none_gone x k (eqb-true _ _ (not-false _ e)) xs c.0) in omega arith)

  lower : (n : ℕ) (x : T) → UpTo (suc n) x → not (eqb (number_of x) (suc n)) ≡ true → UpTo n x
  lower n x u e = let other = eqb-false (number_of x) (suc n) (not-true _ e) in (u.0, below (number_of x) n u.1 other)
    where
      below : (a b : ℕ) → a ≤ suc b → (a ≡ suc b → ⊥) → a ≤ b
      below a b h other = omega arith

  all_lower : (n : ℕ) (xs : List T) → AllByRecursion (UpTo (suc n)) xs → AllByRecursion (λ x. not (eqb (number_of x) (suc n)) ≡ true) xs → AllByRecursion (UpTo n) xs
  all_lower n [] u p = tt
  all_lower n (x ∷ xs) u p = (lower n x u.0 p.0, all_lower n xs u.1 p.1)

  none_within : (xs : List T) → AllByRecursion (UpTo zero) xs → length xs ≤ zero
  none_within [] u = omega arith
  none_within (x ∷ xs) u = absurd (let a = u.0.0 in let b = u.0.1 in omega arith)

  -- entries with different numbers, all from 1 to n, are at most n
  pub at_most : (n : ℕ) (xs : List T) → AllByRecursion (UpTo n) xs → Chain (differ number_of) xs → length xs ≤ n
  at_most zero xs u c = none_within xs u
  at_most (suc n) xs u c =
      let p : T → Bool = λ x. not (eqb (number_of x) (suc n)) in
      let rest = except number_of (suc n) xs in
      let fewer = at_most n rest (all_lower n rest (all_kept_by p (UpTo (suc n)) xs u) (kept_by_passes p xs)) (chain_kept (differ number_of) p xs c) in
      let one = one_gone (suc n) xs c in
      omega arith

dealer_up_to : (dealers count : ℕ) (q : Quote) → lawful_quote dealers count q ≡ true → UpTo dealer_of dealers q
dealer_up_to dealers count q h =
    let d = (and_parts (is_dealer dealers q.dealer) _ h).0 in
    let b = and_parts (leb 1 q.dealer) _ d in
    (leb-true _ _ b.0, leb-true _ _ b.1)

-- there is room for a dealer's quote beside those of the others
pub room_for : (rule : Precedence) (side : Side) (dealers count : ℕ) (qs : List Quote) → QuotesFit rule side dealers count qs → (d : Quote) → UpTo dealer_of dealers d → length (without d.dealer qs) < dealers
room_for rule side dealers count qs fit d u =
    let rest = without d.dealer qs in
    let p : Quote → Bool = λ q. not (eqb q.dealer d.dealer) in
    let within_rest : AllByRecursion (UpTo dealer_of dealers) rest = all_kept_by p (UpTo dealer_of dealers) qs (All-weaker _ _ (λ q h. dealer_up_to dealers count q h) qs fit.0) in
    let more = at_most dealer_of dealers (d ∷ rest) (u, within_rest) (except_differ dealer_of d qs, chain_kept (differ dealer_of) p qs fit.1.0) in
    omega arith
