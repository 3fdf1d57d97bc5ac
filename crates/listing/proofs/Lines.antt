-- What a chain over the pieces of a file lists. Assumes nothing.
use Rattle.std.proofs.Common.{◌≡◌, ℕ, ◌+◌, List, [], ◌∷◌, subst, refl, Bor, ap, ◌∙◌}
use Rattle.std.proofs.lemmas.List.{nil_from_length}
use Rattle.std.specs.Fn.{Called}
use Rattle.std.specs.Iterator.{DrainsIf}
use Rattle.std.specs.Iterator.Adapters.{map_steps, map_source, map_callee, enumerate_steps, enumerate_source, enumerate_count}
use Rattle.std.specs.Slice.Iter.{chunks_steps, chunks_rest, chunks_size}
use Rattle.std.specs.declared.iter.Map.{Map}
use Rattle.std.specs.declared.iter.Enumerate.{Enumerate}
use Rattle.std.specs.declared.slice.Chunks.{Chunks}
use denote.Param.Members.{Mut}
use Rattle.listing.specs.declared.listing.Line.{Line}
use Rattle.listing.specs.Listing.{LineOf, Lists}

-- where each call says the line of its piece, the lines are those of what is left of the file
module _ {F : Type 0} (g : Mut F ((ℕ × Bor (List ℕ)) × Unit {0}) Line) (f : F) (says : (i : ℕ) (piece : Bor (List ℕ)) (l : Line) (q : F) → Called g f ((i, piece), tt) l q → (q ≡ f) × LineOf (i + 1) piece.now l) where
  pub listed : (s : Map (Enumerate (Chunks ℕ)) F) (ls : List Line) (file : List ℕ) (n : ℕ) → map_callee s ≡ f → chunks_size (enumerate_source (map_source s)) ≡ 24 → enumerate_count (map_source s) ≡ n → chunks_rest (enumerate_source (map_source s)) ≡ file → DrainsIf (map_steps (enumerate_steps chunks_steps) g) (Unit {0}) s ls → Lists (n + 1) file ls
  listed s [] file n e z c r (t, y, end) =
      let last = (end tt).1.0.0.1.0 in
      rw (← r) (rw y (nil_from_length _ last))
  listed s (l ∷ ls) file n e z c r (t, (j, (x, (cut, i, count, _), called), more), end) =
      let said = says x.0 x.1 l (map_callee j) (subst (λ k. Called g k (x, tt) l (map_callee j)) e called) in
      let rest = listed j ls (chunks_rest (enumerate_source (map_source j))) (n + 1) said.0 (rw cut.0 z) (count ∙ ap (λ k. k + 1) c) refl (t, more, end) in
      rw (← r) (x.1.now, chunks_rest (enumerate_source (map_source j)), cut.1.0, rw z at cut.1.1, cut.1.2, rw (i, c) at said.1, rest)
