-- What the grammar promises of batches: one reading, one place of a refusal, of a statement, and of one that is missing.
use Rattle.std.specs.Prelude.{ℕ, ◌≡◌, ◌<◌, List, length, map}
use Rattle.plain_model.specs.declared.stmt.Stmt.{Stmt}
use Rattle.sql_read.specs.Bare.{bare}
use Rattle.sql_read.specs.Grammar.{IsBatch}
use Rattle.sql_read.specs.Place.{IsRefusedAt}
use Rattle.sql_read.specs.StmtPlace.{IsStmtPlace, LacksStmt}

-- a batch has one list of statements, wherever the parts of their expressions lie in memory
abbrev pub HasOneReading : List ℕ → Type 0
HasOneReading bytes = (ss us : List Stmt) → IsBatch bytes ss → IsBatch bytes us → map bare ss ≡ map bare us

-- a refusal has one place
abbrev pub HasOnePlace : List ℕ → Type 0
HasOnePlace bytes = (a b : ℕ) → IsRefusedAt bytes a → IsRefusedAt bytes b → a ≡ b

-- a statement has one place
abbrev pub HasOneStmtPlace : List ℕ → ℕ → Type 0
HasOneStmtPlace bytes n = (a b : ℕ) → IsStmtPlace bytes n a → IsStmtPlace bytes n b → a ≡ b

-- each statement of a batch has a place
abbrev pub HasEachPlace : List ℕ → Type 0
HasEachPlace bytes = (stmts : List Stmt) (n : ℕ) → IsBatch bytes stmts → n < length stmts → (at : ℕ) × IsStmtPlace bytes n at

-- where the statements of a batch stop is one place, whichever of those that it lacks is sought
abbrev pub HasOneLack : List ℕ → Type 0
HasOneLack bytes = (n m a b : ℕ) → LacksStmt bytes n a → LacksStmt bytes m b → a ≡ b
