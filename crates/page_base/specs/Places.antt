-- Where bytes that spell no value of a format are refused: at the first byte of the first field that is wrong.
use Rattle.std.specs.Prelude.{◌≡◌, ◌≢◌, ℕ, ◌≤◌, List, ◌++◌, length}
use Rattle.std.specs.List.{concat}

-- the bytes begin with the first fields of some value, and these fields take so many bytes
pub record Reaches {X : Type 0} (Fits : X → Type 0) (fields : X → List (List ℕ)) (bytes : List ℕ) (at : ℕ) : Type 0 where
  pub value : X
  pub fits : Fits value
  pub done : List (List ℕ)
  pub later : List (List ℕ)
  pub rest : List ℕ
  pub first : fields value ≡ done ++ later
  pub spelled : bytes ≡ concat done ++ rest
  pub place : at ≡ length (concat done)

-- the bytes are no value, and reach so far and no farther
pub record IsFault {X : Type 0} (Fits : X → Type 0) (fields : X → List (List ℕ)) (bytes : List ℕ) (at : ℕ) : Type 0 where
  pub reached : Reaches Fits fields bytes at
  pub farthest : (n : ℕ) → Reaches Fits fields bytes n → n ≤ at
  pub none : (x : X) → Fits x → bytes ≢ concat (fields x)
