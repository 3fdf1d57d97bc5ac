-- How far some record agrees with given bytes. Assumes nothing.
use Rattle.std.proofs.Common.{◌≡◌, ℕ, zero, suc, ◌+◌, ◌-◌, ◌<◌, ◌≤◌, List, [], ◌∷◌, length, get_or, take, drop, Some, None, Err, Option, sym, refl, ap, ◌∙◌, subst, arith}
use Rattle.std.specs.List.{zip, AllWithin, HoldsAt}
use Rattle.std.specs.Option.{MatchOption}
use Rattle.std.proofs.lemmas.List.{take_all, get_or-take}
use Rattle.std.proofs.lemmas.Slice.Zip.{length-zip, get_or-zip}
use Rattle.records.specs.declared.Malformed.TheVariants.{Byte}
use Rattle.records.specs.declared.parts.Head.{Head}
use Rattle.records.specs.Parts.{words_of, parts_of, Outlined}
use Rattle.records.specs.Forms.{Slot, settled, all_settled}
use Rattle.records.specs.Reading.{Reads, Written}
use Rattle.records.specs.Formats.{LawfulFormat}

-- two lists that differ at i do not agree past it
apart : (xs ys : List ℕ) (i : ℕ) → (get_or xs i 0 ≡ get_or ys i 0 → ⊥) → take (i + 1) xs ≡ take (i + 1) ys → ⊥
apart xs ys i ne e =
    let l : i < i + 1 = omega arith in
    ne (sym (get_or-take (i + 1) xs i 0 l) ∙ ap (λ t. get_or t i 0) e ∙ get_or-take (i + 1) ys i 0 l)

abbrev pub Same : ℕ × ℕ → Type 0
Same p = p.0 ≡ p.1

abbrev pub Apart : ℕ × ℕ → Type 0
Apart p = p.0 ≡ p.1 → ⊥

-- lists whose elements are the same up to n agree so far
agree : (xs ys : List ℕ) (n : ℕ) → length xs ≡ length ys → AllWithin Same (zip xs ys) 0 n → take n xs ≡ take n ys
agree xs ys zero e a = refl
agree [] [] (suc n) e a = refl
agree [] (y ∷ ys) (suc n) e a = absurd (omega arith)
agree (x ∷ xs) [] (suc n) e a = absurd (omega arith)
agree (x ∷ xs) (y ∷ ys) (suc n) e a =
    let h : x ≡ y = a 0 (0, 0) (omega arith) (omega arith) in
    let t : take n xs ≡ take n ys = agree xs ys n (omega arith) (λ k d l m. a (suc k) d (omega arith) (omega arith)) in
    λ i. h i ∷ t i

-- the first pair whose elements differ is where the lists part
pub first_apart : (xs ys : List ℕ) (r : Option ℕ) → length xs ≡ length ys → MatchOption r (AllWithin Same (zip xs ys) 0 (length (zip xs ys))) (λ i. (i < length (zip xs ys)) × HoldsAt Apart (zip xs ys) i × AllWithin Same (zip xs ys) 0 i) → MatchOption r (xs ≡ ys) (λ i. (take i xs ≡ take i ys) × (take (i + 1) xs ≡ take (i + 1) ys → ⊥))
first_apart xs ys None e a =
    let n : length (zip xs ys) ≡ length xs = omega (arith, length-zip xs ys) in
    sym (take_all (length (zip xs ys)) xs (omega arith)) ∙ agree xs ys (length (zip xs ys)) e a ∙ take_all (length (zip xs ys)) ys (omega arith)
first_apart xs ys (Some i) e (l, differ, same) =
    let n : length (zip xs ys) ≡ length xs = omega (arith, length-zip xs ys) in
    let z : get_or (zip xs ys) i (0, 0) ≡ (get_or xs i 0, get_or ys i 0) = get_or-zip xs ys i (0, 0) (omega arith) (omega arith) in
    (agree xs ys i e same, apart xs ys i (λ h. differ (0, 0) (ap (λ p. p.0) z ∙ h ∙ sym (ap (λ p. p.1) z))))

-- a record is its first four bytes and the rest
pub whole : (xs w : List ℕ) (h : Head) → 4 ≤ length xs → h.kind ≡ get_or xs 0 0 → h.side ≡ get_or xs 1 0 → h.dealer ≡ get_or xs 2 0 → h.zero ≡ get_or xs 3 0 → take (length xs - 4) (drop 4 xs) ≡ words_of w → xs ≡ parts_of h w
whole [] w h l a b c d e = absurd (omega arith)
whole (p ∷ []) w h l a b c d e = absurd (omega arith)
whole (p ∷ q ∷ []) w h l a b c d e = absurd (omega arith)
whole (p ∷ q ∷ r ∷ []) w h l a b c d e = absurd (omega arith)
whole (p ∷ q ∷ r ∷ s ∷ rest) w h l a b c d e =
    let k : take (length (p ∷ q ∷ r ∷ s ∷ rest) - 4) rest ≡ rest = take_all _ rest (omega arith) in
    rw (a, b, c, d, ← e, k) refl

-- what a place settles on depends on that place alone
take_settled : (ss : List Slot) (xs : List ℕ) (n : ℕ) → take n (all_settled ss xs) ≡ all_settled (take n ss) (take n xs)
take_settled ss xs zero = refl
take_settled [] xs (suc n) = refl
take_settled (s ∷ ss) [] (suc n) = refl
take_settled (s ∷ ss) (x ∷ xs) (suc n) = ap (λ t. settled s x ∷ t) (take_settled ss xs n)

module _ {E : Type 0} {bytes_of : E → List ℕ} {Fits : E → Type 0} {form_of : ℕ → List Slot} (format : LawfulFormat bytes_of Fits form_of) where
  -- no record agrees with the bytes any further than the one that is settled from them
  nearest : (xs : List ℕ) (e f : E) (n : ℕ) → 0 < n → bytes_of e ≡ all_settled (form_of (get_or xs 0 0)) xs → take n (bytes_of f) ≡ take n xs → take n (bytes_of e) ≡ take n xs
  nearest xs e f n l s h =
      let k : get_or (bytes_of f) 0 0 ≡ get_or xs 0 0 = sym (get_or-take n (bytes_of f) 0 0 l) ∙ ap (λ t. get_or t 0 0) h ∙ get_or-take n xs 0 0 l in
      let ss = form_of (get_or xs 0 0) in
      let f_keeps : all_settled ss (bytes_of f) ≡ bytes_of f = subst (λ x. all_settled (form_of x) (bytes_of f) ≡ bytes_of f) k (format.keeps f) in
      ap (take n) s ∙ take_settled ss xs n ∙ ap (all_settled (take n ss)) (sym h) ∙ sym (take_settled ss (bytes_of f) n) ∙ ap (take n) f_keeps ∙ h

  -- where the record written back differs first from the one that was read, the byte is wrong
  pub wrong_byte : (xs ys w : List ℕ) (h : Head) (o : Option E) (e : E) (i : ℕ) → xs ≡ parts_of h w → Written bytes_of Fits e ys → Outlined bytes_of form_of h w o → o ≡ Some e → (take i ys ≡ take i xs) × (take (i + 1) ys ≡ take (i + 1) xs → ⊥) → Reads bytes_of Fits xs (Err (Byte i))
  wrong_byte xs ys w h o e i x y a some (same, differs) =
      let s : bytes_of e ≡ all_settled (form_of h.kind) (parts_of h w) = subst (Outlined bytes_of form_of h w) some a in
      let near : bytes_of e ≡ all_settled (form_of (get_or xs 0 0)) xs = rw x s in (
        ap length x,
        (e, y.fits, ap (take i) (sym y.bytes) ∙ same),
        λ (f, _, b). differs (ap (take (i + 1)) y.bytes ∙ nearest xs e f (i + 1) (omega arith) near b),
      )

  -- where no record has the first letter, byte 0 is wrong
  pub wrong_kind : (xs w : List ℕ) (h : Head) (o : Option E) → xs ≡ parts_of h w → Outlined bytes_of form_of h w o → o ≡ None → Reads bytes_of Fits xs (Err (Byte 0))
  wrong_kind xs w h o x a e =
      let none : (f : E) → get_or (bytes_of f) 0 0 ≡ h.kind → ⊥ = subst (Outlined bytes_of form_of h w) e a in
      (ap length x, (format.some, format.some_fits, refl), λ (f, _, b). apart (bytes_of f) xs 0 (λ k. none f (k ∙ ap (λ t. get_or t 0 0) x)) b)
