-- What a function that reads a field returns, by what reading gives.
use Rattle.std.specs.Prelude.{◌≡◌, ℕ, List, Option, Some, None, Ok, Err}
use Rattle.page_base.specs.Reading.{Read}

-- reading stops
abbrev pub Stops : {X : Type 0} → Read X → Type 0
Stops (Ok x) = ⊥
Stops (Err rest) = Unit {0}

-- the value that was read, and the bytes behind it; or none where reading stops
abbrev pub Gives : {X : Type 0} → Option X → List ℕ → Read X → Type 0
Gives (Some x) rest read = read ≡ Ok (x, rest)
Gives None rest read = Stops read
