-- Lists in precedence: what an insertion and a removal keep, and what neighbours tell. Assumes nothing.
use Rattle.std.proofs.Common.{◌≡◌, ℕ, zero, suc, ◌+◌, ◌-◌, ◌<◌, ◌≤◌, Bool, true, false, List, [], ◌∷◌, ◌++◌, length, get_or, take, drop, Some, Decides, Option, sym, refl, ap, ◌∙◌, add-one, arith}
use Rattle.std.specs.List.{remove, AllByRecursion, list_all, AllAdjacentBelow}
use Rattle.std.proofs.ByRecursion.{All-weaker, All-append, All-take, All-drop, Decides-by_and}
use Rattle.std.proofs.lemmas.Bool.Decides.{Decides-and, same_from_decides}
use Rattle.std.proofs.lemmas.Bool.{cond_both, cond-false, false≢true}
use Rattle.std.proofs.lemmas.List.{get_or_read}
use Rattle.market.specs.Lists.{placed, ordered, Ordered, Fresh, head, tail, Leads}

-- the entry at place 0 is the head
pub head_read : {T : Type 0} (xs : List T) (x : T) → 0 < length xs → x ≡ get_or xs 0 x → Some x ≡ head xs
head_read [] x h e = absurd (omega arith)
head_read (y ∷ ys) x h e = ap Some e

module _ {T : Type 0} (b : T → T → Bool) where
  -- the test `ordered`, as facts
  abbrev pub Chain : List T → Type 0
  Chain [] = Unit {0}
  Chain (x ∷ xs) = AllByRecursion (λ y. b x y ≡ true) xs × Chain xs

  pub chain_tells : (xs : List T) → Decides (ordered b xs) (Chain xs)
  chain_tells [] = (λ _. tt, λ _. refl)
  chain_tells (x ∷ xs) =
      Decides-and (list_all (b x) xs) (ordered b xs)
      (Decides-by_and (b x) (λ y. b x y ≡ true) (list_all (b x)) (λ y. (λ e. e, λ e. e)) refl (λ _ _. refl) xs)
      (chain_tells xs)

  head_leads : (xs : List T) → Ordered b xs → Leads b (head xs) (tail xs)
  head_leads [] o = refl
  head_leads (x ∷ xs) o = ((chain_tells (x ∷ xs)).0 o).0

  -- the first of a list in order precedes all others
  pub first_leads : (xs : List T) (r : Option T) → r ≡ head xs → Ordered b xs → Leads b r (tail xs)
  first_leads xs r e o = rw e (head_leads xs o)

  chain_removed : (xs : List T) (at : ℕ) → Chain xs → Chain (remove xs at)
  chain_removed [] zero o = tt
  chain_removed [] (suc at) o = tt
  chain_removed (x ∷ xs) zero o = o.1
  chain_removed (x ∷ xs) (suc at) o =
      let P : T → Type 0 = λ y. b x y ≡ true in
      (All-append P (take at xs) (drop (suc at) xs) (All-take P at xs o.0) (All-drop P (suc at) xs o.0), chain_removed xs at o.1)

  -- taking an entry out leaves the list in order
  pub ordered_removed : (xs : List T) (at : ℕ) → Ordered b xs → Ordered b (remove xs at)
  ordered_removed xs at o = (chain_tells (remove xs at)).1 (chain_removed xs at ((chain_tells xs).0 o))

  pub all_placed : (P : T → Type 0) (x : T) (xs : List T) → P x → AllByRecursion P xs → AllByRecursion P (placed b x xs)
  all_placed P x [] p a = (p, tt)
  all_placed P x (y ∷ ys) p a =
      cond_both (b x y) (x ∷ y ∷ ys) (y ∷ placed b x ys) (AllByRecursion P) (λ _. (p, a)) (λ _. (a.0, all_placed P x ys p a.1))

  -- an entry goes behind all that it does not precede
  pub placed_past : (x : T) (past rest : List T) → AllByRecursion (λ y. b x y ≡ false) past → placed b x (past ++ rest) ≡ past ++ placed b x rest
  placed_past x [] rest a = refl
  placed_past x (y ∷ ys) rest a = rw (cond-false (b x y) _ _ a.0, placed_past x ys rest a.1) refl

  -- each entry precedes the next
  pub chain_next : (xs : List T) → Chain xs → AllAdjacentBelow (λ x y. b x y ≡ true) xs (length xs)
  chain_next [] o k d h = absurd (omega arith)
  chain_next (x ∷ []) o k d h = absurd (omega arith)
  chain_next (x ∷ y ∷ ys) o zero d h = o.0.0
  chain_next (x ∷ y ∷ ys) o (suc k) d h = simp add-one (simp add-one at (chain_next (y ∷ ys) o.1 k d (omega arith)))

  -- two neighbours of which the first does not precede the second
  pub not_ordered : (xs : List T) (i : ℕ) (x y : T) → 0 < i → i < length xs → x ≡ get_or xs (i - 1) x → y ≡ get_or xs i y → false ≡ b x y → false ≡ ordered b xs
  not_ordered xs i x y p h ex ey after =
      let e : i - 1 + 1 ≡ i = omega arith in
      let next : Chain xs → b x y ≡ true = λ o. rw (e, ← ex, ← get_or_read xs i y h ey x) at (chain_next xs o (i - 1) x (omega arith)) in
      same_from_decides false (ordered b xs) (λ n. absurd (false≢true n), λ o. after ∙ next o) (chain_tells xs)

  module _ (chains : (x y z : T) → b x y ≡ true → b y z ≡ true → b x z ≡ true) where
    further : (x y : T) (ys : List T) → b x y ≡ true → AllByRecursion (λ z. b y z ≡ true) ys → AllByRecursion (λ z. b x z ≡ true) ys
    further x y ys e a = All-weaker (λ z. b y z ≡ true) (λ z. b x z ≡ true) (λ z t. chains x y z e t) ys a

    -- where each entry precedes the next, each precedes all behind it
    pub chain_from_next : (xs : List T) → AllAdjacentBelow (λ x y. b x y ≡ true) xs (length xs) → Chain xs
    chain_from_next [] near = tt
    chain_from_next (x ∷ []) near = (tt, tt)
    chain_from_next (x ∷ y ∷ ys) near =
        let o = chain_from_next (y ∷ ys) (λ k d h. simp add-one (simp add-one at (near (suc k) d (omega arith)))) in
        let e : b x y ≡ true = near 0 x (omega arith) in
        ((e, further x y ys e o.0), o)

    pub all_ordered : (xs : List T) (i : ℕ) → length xs ≤ i → AllAdjacentBelow (λ x y. b x y ≡ true) xs i → true ≡ ordered b xs
    all_ordered xs i h near = sym ((chain_tells xs).1 (chain_from_next xs (λ k d l. near k d (omega arith))))

    module _ (arrival : T → ℕ) (decides : (x y : T) → (arrival x ≡ arrival y → ⊥) → b x y ≡ false → b y x ≡ true) where
      chain_placed : (x : T) (xs : List T) → Fresh arrival x xs → Chain xs → Chain (placed b x xs)
      chain_placed x [] f o = (tt, tt)
      chain_placed x (y ∷ ys) f o =
          cond_both (b x y) (x ∷ y ∷ ys) (y ∷ placed b x ys) Chain
          (λ e. ((e, further x y ys e o.0), o))
          (λ e. (all_placed (λ z. b y z ≡ true) x ys (decides x y f.0 e) o.0, chain_placed x ys f.1 o.1))

      -- an entry with a new arrival number, put in its place, leaves the list in order
      pub ordered_placed : (x : T) (xs zs : List T) → zs ≡ placed b x xs → Fresh arrival x xs → Ordered b xs → Ordered b zs
      ordered_placed x xs zs e f o = rw e ((chain_tells (placed b x xs)).1 (chain_placed x xs f ((chain_tells xs).0 o)))
