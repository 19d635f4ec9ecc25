-- On which line the statement past the limit begins.
use Rattle.std.specs.Prelude.{ℕ, ◌+◌, ◌-◌, ◌≡◌, ◌≤◌, ◌<◌, ◌⊎◌, ◌==◌, if◌then◌else◌, List, [], ◌∷◌, length, take, count_by}
use Rattle.plain_model.specs.declared.stmt.Stmt.{Stmt}
use Rattle.plain_model.specs.declared.stmt.Stmt.TheVariants.{Broken}
use Rattle.sql_read.specs.Grammar.{IsBatch}
use Rattle.sql_read.specs.Place.{IsRefusedAt}
use Rattle.sql_read.specs.StmtPlace.{IsStmtPlace}
use Rattle.script_read.specs.Lines.{joined}
use Rattle.script_read.specs.Classes.{ends_batch}
use Rattle.script_read.specs.Faults.{Place, InFront, Within, Scheduled, place_behind}

-- lines of a session that are one batch, and the number of the first
pub record Batch : Type 0 where
  pub line : ℕ
  pub lines : List (List ℕ)

abbrev pub batch_at : ℕ → List (List ℕ) → Batch
batch_at number lines = record { line = number; lines = lines }

-- one line more in front of the first batch
abbrev pub grown : ℕ → List ℕ → List Batch → List Batch
grown number line [] = batch_at number (line ∷ []) ∷ []
grown number line (batch ∷ batches) = batch_at number (line ∷ batch.lines) ∷ batches

abbrev mutual
  -- the batches of lines, of which the first stands in this place and is numbered so
  pub batches : Place → ℕ → List (List ℕ) → List Batch
  batches (Scheduled n picks) number lines = []
  batches InFront number [] = []
  batches InFront number (line ∷ lines) = batches (place_behind InFront line) (number + 1) lines
  batches (Within n) number [] = batch_at number [] ∷ []
  batches (Within n) number (line ∷ lines) =
      if ends_batch line then batch_at number [] ∷ batches (place_behind (Within n) line) (number + 1) lines
      else grown number line (batches (Within n) (number + 1) lines)

-- a batch says these statements; one that isn't in the grammar says the one that stands for it
abbrev pub SaysText : List ℕ → List Stmt → Type 0
SaysText batch stmts = IsBatch batch stmts ⊎ ((at : ℕ) × IsRefusedAt batch at × (stmts ≡ Broken at ∷ []))

-- lines that are a batch say these statements
abbrev pub Says : List (List ℕ) → List Stmt → Type 0
Says lines stmts = SaysText (joined lines) stmts

-- how many lines end before a place
abbrev pub ends_before : ℕ → List ℕ → ℕ
ends_before at bytes = count_by (λ b. b == 10) (take at bytes)

-- statement n of a batch, counted from 0, begins on this line, where the batch begins on that one
pub record Begins (batch : List ℕ) (first n line : ℕ) : Type 0 where
  pub at : ℕ
  pub place : IsStmtPlace batch n at
  pub line_is : line ≡ first + ends_before at batch

-- These batches, which come behind so many statements, have one past 20,000 statements, and the first such begins on this line.
abbrev pub IsPast : ℕ → List Batch → ℕ → Type 0
IsPast said [] line = ⊥
IsPast said (batch ∷ batches) line =
    (stmts : List Stmt) × Says batch.lines stmts
    × (((said + length stmts ≤ 20000) × IsPast (said + length stmts) batches line) ⊎ ((20000 < said + length stmts) × Begins (joined batch.lines) batch.line (20000 - said) line))
