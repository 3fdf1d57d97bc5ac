-- What a format owes for its records to be read: `bytes_of` lays a value out, `Fits` says that its numbers fit, and `form_of` what each kind fixes. Assumes nothing.
use Rattle.std.specs.Prelude.{◌≡◌, ℕ, List, length, slice_index}
use Rattle.records.specs.Forms.{Slot, all_settled}

pub record LawfulFormat {E : Type 0} (bytes_of : E → List ℕ) (Fits : E → Type 0) (form_of : ℕ → List Slot) : Type 0 where
  pub length_of : (e : E) → length (bytes_of e) ≡ 24
  -- each record keeps to the form of its first letter
  pub keeps : (e : E) → all_settled (form_of (slice_index (bytes_of e) 0)) (bytes_of e) ≡ bytes_of e
  -- no two values have one record
  pub one_value : (e f : E) → Fits e → Fits f → bytes_of e ≡ bytes_of f → e ≡ f
  -- there is a record at all
  pub some : E
  pub some_fits : Fits some
