-- What it is to read a record, of either format: `bytes_of` lays a value out, and `Fits` says that its numbers fit. Assumes nothing.
use Rattle.std.specs.Prelude.{◌≡◌, ℕ, ◌+◌, List, length, take, Ok, Err, Result, ◌≢◌}
use Rattle.records.specs.declared.Malformed.{Malformed}
use Rattle.records.specs.declared.Malformed.TheVariants.{Length, Byte}

-- some record begins with the first n of these bytes
abbrev pub Begins : {E : Type 0} → (E → List ℕ) → (E → Type 0) → ℕ → List ℕ → Type 0
Begins {E} bytes_of Fits n xs = (e : E) × Fits e × (take n (bytes_of e) ≡ take n xs)

-- the answer to each list of bytes: the value whose record it is, or its length where that is not 24,
-- or the place of the first wrong byte: some record begins with the bytes before it, and none with that byte too
abbrev pub Reads : {E : Type 0} → (E → List ℕ) → (E → Type 0) → List ℕ → Result E Malformed → Type 0
Reads bytes_of Fits xs (Ok e) = Fits e × (xs ≡ bytes_of e)
Reads bytes_of Fits xs (Err (Length n)) = (n ≡ length xs) × (n ≢ 24)
Reads bytes_of Fits xs (Err (Byte place)) = (length xs ≡ 24) × Begins bytes_of Fits place xs × (Begins bytes_of Fits (place + 1) xs → ⊥)

-- an accepted record is what its value is written as
abbrev pub WritesBack : {E : Type 0} → (E → List ℕ) → List ℕ → Result E Malformed → Type 0
WritesBack bytes_of xs (Ok e) = bytes_of e ≡ xs
WritesBack bytes_of xs (Err m) = Unit {0}

-- what a reader says of the bytes xs by its answer r
pub record Answered {E : Type 0} (bytes_of : E → List ℕ) (Fits : E → Type 0) (xs : List ℕ) (r : Result E Malformed) : Type 0 where
  -- it is an answer that the bytes have
  pub answer : Reads bytes_of Fits xs r
  -- and they have no other
  pub only : (s : Result E Malformed) → Reads bytes_of Fits xs s → s ≡ r
  -- what is accepted writes back to its own bytes
  pub writes_back : WritesBack bytes_of xs r

-- what a writer says of the value e by the bytes xs
pub record Written {E : Type 0} (bytes_of : E → List ℕ) (Fits : E → Type 0) (e : E) (xs : List ℕ) : Type 0 where
  -- they are its record
  pub bytes : xs ≡ bytes_of e
  -- into which its numbers fit
  pub fits : Fits e
  -- and they read back as e, and as nothing else
  pub reads_back : (r : Result E Malformed) → Reads bytes_of Fits xs r → r ≡ Ok e
