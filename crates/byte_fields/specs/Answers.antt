-- What a function that reads a field answers, and what it leaves.
use Rattle.std.specs.Prelude.{⊤, ◌≡◌, ℕ, List, Result, Ok, Err}
use Rattle.page_base.specs.Reading.{Read}
use Rattle.byte_fields.specs.declared.stop.Stop.{Stop}
use Rattle.byte_fields.specs.declared.stop.Stop.TheVariants as stop

-- what it refused and what it left are what reading gives, unless memory ran out
abbrev pub Fails : {Y : Type 0} → Stop → List ℕ → Read Y → Type 0
Fails stop.Form rest read = read ≡ Err rest
Fails stop.Memory rest read = ⊤

-- what it answered, seen by view, and what it left are what reading gives: the value that was read, or the field at which reading stopped
abbrev pub Gives : {X Y : Type 0} → (X → Y) → Result X Stop → List ℕ → Read Y → Type 0
Gives view (Ok x) rest read = read ≡ Ok (view x, rest)
Gives view (Err e) rest read = Fails e rest read
