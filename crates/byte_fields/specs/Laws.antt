-- What reading a field owes: it reads what is spelled so and nothing else, and leaves a wrong field as it stands.
use Rattle.std.specs.Prelude.{◌≡◌, ◌<◌, ℕ, List, ◌++◌, slice_index_or, Ok, Err}
use Rattle.page_base.specs.Reading.{Read}

-- each number is a byte
abbrev pub AreBytes : List ℕ → Type 0
AreBytes bytes = (i : ℕ) → slice_index_or bytes i 0 < 256

-- values that fit have these bytes as their field, and are read from it
pub record IsSpelled {X : Type 0} (Fits : X → Type 0) (field : X → List ℕ) (read : List ℕ → Read X) : Type 0 where
  pub takes : (bytes : List ℕ) (x : X) (rest : List ℕ) → AreBytes bytes → read bytes ≡ Ok (x, rest) → Fits x × (bytes ≡ field x ++ rest)
  pub again : (x : X) (rest : List ℕ) → Fits x → read (field x ++ rest) ≡ Ok (x, rest)
  pub stays : (bytes rest : List ℕ) → read bytes ≡ Err rest → rest ≡ bytes
