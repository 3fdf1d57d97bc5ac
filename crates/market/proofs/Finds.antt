-- Look-ups by number in a list whose entries have different numbers: what an insertion and a removal leave of them. Assumes nothing.
use Rattle.std.proofs.Common.{◌≡◌, ℕ, Bool, true, cond, not, eqb, List, [], ◌∷◌, ◌++◌, Some, None, Decides, filter, Option, sym, refl, ap, ◌∙◌, arith}
use Rattle.std.specs.List.{ContainsAt as Has, AllByRecursion}
use Rattle.std.proofs.ByRecursion.{All-weaker, all_kept_by, kept_by_passes, has_append_right}
use Rattle.std.proofs.lemmas.Bool.{cond_both, cond-true, cond-false, eq-eqb, eqb-true, not-true}
use Rattle.std.proofs.lemmas.Bool.Decides.{nat_tests, Decides-at}
use Rattle.market.specs.Lists.{placed, ordered, Ordered}
use Rattle.market.specs.State.{apart}
use Rattle.market.proofs.InOrder.{Chain, chain_tells, all_placed}

-- two constructors are never equal: `never (cc)`
pub never : {A : Type 0} → ◌≡◌ {A = ℕ} 0 1 → A
never e = absurd (omega arith)

-- ---- lists in which each two entries are related

module _ {T : Type 0} (b : T → T → Bool) where
  pub chain_kept : (p : T → Bool) (xs : List T) → Chain b xs → Chain b (filter p xs)
  chain_kept p [] o = tt
  chain_kept p (x ∷ xs) o =
      cond_both (p x) (x ∷ filter p xs) (filter p xs) (Chain b)
      (λ _. (all_kept_by p (λ y. b x y ≡ true) xs o.0, chain_kept p xs o.1))
      (λ _. chain_kept p xs o.1)

  -- what a filter keeps of a list in order is in order
  pub ordered_kept : (p : T → Bool) (xs : List T) → Ordered b xs → Ordered b (filter p xs)
  ordered_kept p xs o = (chain_tells b (filter p xs)).1 (chain_kept p xs ((chain_tells b xs).0 o))

  -- the parts of a joined list
  pub chain_left : (xs ys : List T) → Chain b (xs ++ ys) → Chain b xs
  chain_left [] ys o = tt
  chain_left (x ∷ xs) ys o = (all_left xs o.0, chain_left xs ys o.1)
    where
      all_left : (zs : List T) → AllByRecursion (λ y. b x y ≡ true) (zs ++ ys) → AllByRecursion (λ y. b x y ≡ true) zs
      all_left [] a = tt
      all_left (z ∷ zs) a = (a.0, all_left zs a.1)

  pub chain_right : (xs ys : List T) → Chain b (xs ++ ys) → Chain b ys
  chain_right [] ys o = o
  chain_right (x ∷ xs) ys o = chain_right xs ys o.1

  -- a relation that goes both ways does not mind where an entry is placed
  pub chain_among : ((x y : T) → b x y ≡ true → b y x ≡ true) → (first_of : T → T → Bool) (x : T) (xs : List T) → AllByRecursion (λ y. b x y ≡ true) xs → Chain b xs → Chain b (placed first_of x xs)
  chain_among back first_of x [] a o = (tt, tt)
  chain_among back first_of x (y ∷ ys) a o =
      cond_both (first_of x y) (x ∷ y ∷ ys) (y ∷ placed first_of x ys) (Chain b)
      (λ _. (a, o))
      (λ _. (all_placed first_of (λ z. b y z ≡ true) x ys (back x y a.0) o.0, chain_among back first_of x ys a.1 o.1))

-- ---- look-ups

module _ {T : Type 0} (number_of : T → ℕ) where
  -- two entries have different numbers
  abbrev pub differ : T → T → Bool
  differ x y = not (eqb (number_of x) (number_of y))

  -- all entries but those of that number
  abbrev pub except : (n : ℕ) → List T → List T
  except n xs = filter (λ x. not (eqb (number_of x) n)) xs

  -- the first entry of that number
  abbrev pub found : (n : ℕ) → List T → Option T
  found n [] = None
  found n (x ∷ xs) = cond (eqb (number_of x) n) (Some x) (found n xs)

  -- the test `apart`, as facts
  pub apart_tells : (xs : List T) → Decides (apart number_of xs) (Chain differ xs)
  apart_tells xs = Decides-at (apart number_of xs) (ordered differ xs) (same xs) (chain_tells differ xs)
    where
      same : (ys : List T) → apart number_of ys ≡ ordered differ ys
      same [] = refl
      same (y ∷ ys) = rw (same ys) refl

  pub differ_back : (x y : T) → differ x y ≡ true → differ y x ≡ true
  differ_back x y e = grind (arith, nat_tests)

  -- no entry that is left has the number that went
  pub except_differ : (x : T) (xs : List T) → AllByRecursion (λ y. differ x y ≡ true) (except (number_of x) xs)
  except_differ x xs = All-weaker (λ y. differ y x ≡ true) (λ y. differ x y ≡ true) (λ y. differ_back y x) _ (kept_by_passes (λ y. differ y x) xs)

  -- the entry that is found has that number, and is in the list
  pub found_is : (n : ℕ) (xs : List T) (x : T) → found n xs ≡ Some x → (number_of x ≡ n) × Has xs x
  found_is n [] x = λ e. never (cc)
  found_is n (y ∷ ys) x =
      cond_both (eqb (number_of y) n) (Some y) (found n ys) (λ o. o ≡ Some x → (number_of x ≡ n) × Has (y ∷ ys) x)
      (λ h e. let same : y ≡ x = cc in (ap number_of (sym same) ∙ eqb-true _ _ h, (0, omega arith, λ _. same)))
      (λ h e. let more = found_is n ys x e in (more.0, has_append_right (y ∷ []) ys x more.1))

  -- where numbers differ, each entry is found by its own
  pub found_own : (xs : List T) → Chain differ xs → AllByRecursion (λ x. found (number_of x) xs ≡ Some x) xs
  found_own [] o = tt
  found_own (x ∷ xs) o =
      (cond-true (eqb (number_of x) (number_of x)) (Some x) (found (number_of x) xs) (eq-eqb _ _ refl), behind xs o.0 (found_own xs o.1))
    where
      behind : (ys : List T) → AllByRecursion (λ y. differ x y ≡ true) ys → AllByRecursion (λ y. found (number_of y) xs ≡ Some y) ys → AllByRecursion (λ y. found (number_of y) (x ∷ xs) ≡ Some y) ys
      behind [] a f = tt
      behind (y ∷ ys) a f = (cond-false (eqb (number_of x) (number_of y)) (Some x) (found (number_of y) xs) (not-true _ a.0) ∙ f.0, behind ys a.1 f.1)

  -- a look-up where all entries of a number went
  pub found_except : (m n : ℕ) (xs : List T) → found n (except m xs) ≡ cond (eqb m n) None (found n xs)
  found_except m n [] = grind (arith, nat_tests)
  found_except m n (x ∷ xs) = let more = found_except m n xs in grind (arith, nat_tests)

  -- a look-up where an entry of a new number was placed
  pub found_placed : (first_of : T → T → Bool) (x : T) (n : ℕ) (xs : List T) → AllByRecursion (λ y. differ x y ≡ true) xs → found n (placed first_of x xs) ≡ cond (eqb (number_of x) n) (Some x) (found n xs)
  found_placed first_of x n [] a = refl
  found_placed first_of x n (y ∷ ys) a =
      let more = found_placed first_of x n ys a.1 in
      let other = a.0 in
      cond_both (first_of x y) (x ∷ y ∷ ys) (y ∷ placed first_of x ys) (λ zs. found n zs ≡ cond (eqb (number_of x) n) (Some x) (found n (y ∷ ys)))
      (λ _. refl)
      (λ _. grind (arith, nat_tests))

  -- a look-up where an entry took the place of all those of its number
  pub found_replaced : (first_of : T → T → Bool) (x : T) (n : ℕ) (xs : List T) → found n (placed first_of x (except (number_of x) xs)) ≡ cond (eqb (number_of x) n) (Some x) (found n xs)
  found_replaced first_of x n xs =
      let placed_is = found_placed first_of x n (except (number_of x) xs) (except_differ x xs) in
      let except_is = found_except (number_of x) n xs in
      grind (arith, nat_tests)

  -- where numbers differ, they still do when an entry takes the place of those of its number
  pub differ_replaced : (first_of : T → T → Bool) (x : T) (xs : List T) → Chain differ xs → Chain differ (placed first_of x (except (number_of x) xs))
  differ_replaced first_of x xs o = chain_among differ differ_back first_of x _ (except_differ x xs) (chain_kept differ (λ y. not (eqb (number_of y) (number_of x))) xs o)
