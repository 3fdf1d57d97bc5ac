-- Bytes have one answer, and what is written reads back as itself. Assumes nothing.
use Rattle.std.proofs.Common.{◌≡◌, ℕ, ◌+◌, ◌<◌, ◌≤◌, List, length, take, Ok, Err, Result, sym, ap, ◌∙◌, arith}
use Rattle.std.proofs.lemmas.List.{take-take}
use Rattle.records.specs.declared.Malformed.{Malformed}
use Rattle.records.specs.declared.Malformed.TheVariants.{Length, Byte}
use Rattle.records.specs.Reading.{Begins, Reads, WritesBack, Answered, Written}
use Rattle.records.specs.Forms.{Slot}
use Rattle.records.specs.Formats.{LawfulFormat}

module _ {E : Type 0} {bytes_of : E → List ℕ} {Fits : E → Type 0} {form_of : ℕ → List Slot} (format : LawfulFormat bytes_of Fits form_of) where
  read_back : (e : E) (xs : List ℕ) (r : Result E Malformed) → Fits e → xs ≡ bytes_of e → Reads bytes_of Fits xs r → r ≡ Ok e
  read_back e xs (Ok f) l h (m, g) = ap Ok (format.one_value f e m l (sym g ∙ h))
  read_back e xs (Err (Length n)) l h (g, ne) = absurd (ne (g ∙ ap length h ∙ format.length_of e))
  read_back e xs (Err (Byte i)) l h (g, b, ne) = absurd (ne (e, l, ap (take (i + 1)) (sym h)))

  pub written : (e : E) (xs : List ℕ) → xs ≡ bytes_of e → Fits e → Written bytes_of Fits e xs
  written e xs h l = record { bytes = h; fits = l; reads_back = λ r. read_back e xs r l h }

  begins_less : (xs : List ℕ) (m n : ℕ) → m ≤ n → Begins bytes_of Fits n xs → Begins bytes_of Fits m xs
  begins_less xs m n le (e, l, h) = (e, l, sym (take-take m n (bytes_of e) le) ∙ ap (take m) h ∙ take-take m n xs le)

  one_answer : (xs : List ℕ) (r : Result E Malformed) → Reads bytes_of Fits xs r → (s : Result E Malformed) → Reads bytes_of Fits xs s → s ≡ r
  one_answer xs (Ok e) (l, h) s b = read_back e xs s l h b
  one_answer xs (Err (Length m)) a (Ok f) (l, h) = sym (read_back f xs (Err (Length m)) l h a)
  one_answer xs (Err (Byte i)) a (Ok f) (l, h) = sym (read_back f xs (Err (Byte i)) l h a)
  one_answer xs (Err (Length m)) (a, _) (Err (Length n)) (b, _) = ap (λ k. Err (Length k)) (b ∙ sym a)
  one_answer xs (Err (Length m)) (a, ne) (Err (Byte j)) b = absurd (ne (a ∙ b.0))
  one_answer xs (Err (Byte i)) a (Err (Length n)) (b, ne) = absurd (ne (b ∙ a.0))
  one_answer xs (Err (Byte i)) (_, p, q) (Err (Byte j)) (_, u, v) =
      let low : i < j → ⊥ = λ lt. q (begins_less xs (i + 1) j (omega arith) u) in
      let high : j < i → ⊥ = λ lt. v (begins_less xs (j + 1) i (omega arith) p) in
      let same : j ≡ i = omega arith in
      ap (λ k. Err (Byte k)) same

  writes_back : (xs : List ℕ) (r : Result E Malformed) → Reads bytes_of Fits xs r → WritesBack bytes_of xs r
  writes_back xs (Ok e) (l, h) = sym h
  writes_back xs (Err m) h = tt

  pub answered : (xs : List ℕ) (r : Result E Malformed) → Reads bytes_of Fits xs r → Answered bytes_of Fits xs r
  answered xs r h = record { answer = h; only = one_answer xs r h; writes_back = writes_back xs r h }
