-- A word and its four bytes. Assumes nothing.
use Rattle.std.proofs.Common.{◌≡◌, ℕ, ◌/◌, ◌%◌, ◌<◌, ◌≤◌, List, [], ◌∷◌, ◌++◌, length, get_or, take, drop, sym, ap, arith}
use Rattle.records.specs.Layout.{word_bytes}
use Rattle.records.specs.Inverses.{number}

four_bytes : (w x y z : ℕ) → w < 256 → x < 256 → y < 256 → z < 256 → word_bytes (number w x y z) ≡ w ∷ x ∷ y ∷ z ∷ []
four_bytes w x y z hw hx hy hz =
    let a : number w x y z / 16777216 % 256 ≡ w = omega arith in
    let b : number w x y z / 65536 % 256 ≡ x = omega arith in
    let c : number w x y z / 256 % 256 ≡ y = omega arith in
    let d : number w x y z % 256 ≡ z = omega arith in
    cc

-- the first four bytes of a list are those of the number that they stand for
pub front_word : (xs front rest : List ℕ) (n : ℕ) → 4 ≤ length xs → front ≡ take 4 xs → rest ≡ drop 4 xs → get_or xs 0 0 < 256 → get_or xs 1 0 < 256 → get_or xs 2 0 < 256 → get_or xs 3 0 < 256 → n ≡ number (get_or front 0 0) (get_or front 1 0) (get_or front 2 0) (get_or front 3 0) → xs ≡ word_bytes n ++ rest
front_word [] front rest n l f r a b c d e = absurd (omega arith)
front_word (w ∷ []) front rest n l f r a b c d e = absurd (omega arith)
front_word (w ∷ x ∷ []) front rest n l f r a b c d e = absurd (omega arith)
front_word (w ∷ x ∷ y ∷ []) front rest n l f r a b c d e = absurd (omega arith)
front_word (w ∷ x ∷ y ∷ z ∷ tail) front rest n l f r a b c d e = rw (e, f, r) (ap (λ t. t ++ tail) (sym (four_bytes w x y z a b c d)))
