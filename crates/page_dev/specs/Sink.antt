-- What a sink has taken after a piece was offered.
use Rattle.std.specs.Prelude.{ℕ, ◌≤◌, List, length, take, Option, Result, MatchResult}
use Rattle.std.specs.Io.KnownBytes.{Appends, Keeps}
use Rattle.page_dev.specs.declared.sink.SinkRefusal.{SinkRefusal}
use Rattle.page_dev.specs.declared.sink.SinkRefusal.TheVariants.{Failed, Memory}

-- known bytes grow by a front of the piece
abbrev pub AppendsFront : Option (List ℕ) → Option (List ℕ) → List ℕ → Type 0
AppendsFront old new piece = (n : ℕ) × (n ≤ length piece) × Appends old new (take n piece)

-- what a refused write leaves: nothing taken for want of memory, a front of the piece after a failure
abbrev pub Leaves : Option (List ℕ) → Option (List ℕ) → SinkRefusal → List ℕ → Type 0
Leaves old new Failed piece = AppendsFront old new piece
Leaves old new Memory piece = Keeps old new

-- the bytes taken are the front that the answer counts
abbrev pub Takes : Option (List ℕ) → Option (List ℕ) → Result ℕ SinkRefusal → List ℕ → Type 0
Takes old new result piece = MatchResult result (λ n. Appends old new (take n piece)) (λ e. Leaves old new e piece)
