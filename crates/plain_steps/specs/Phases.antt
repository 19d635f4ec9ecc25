-- The phases of a statement on tables: which refusals come before any lock, and which locks it takes then.
use Rattle.std.specs.Prelude.{ℕ, Bool, false, ◌==◌, nat_le, List, [], ◌∷◌, ◌++◌, length, Option, Some, None}
use Rattle.page_base.specs.declared.numbers.Mode.{Mode}
use Rattle.page_base.specs.declared.numbers.Mode.TheVariants.{S, X}
use Rattle.plain_model.specs.declared.stmt.Stmt.{Stmt}
use Rattle.plain_model.specs.declared.stmt.Stmt.TheVariants.{CreateTable, DropTable, Insert, Select, Update, Delete}
use Rattle.plain_model.specs.declared.reply.Message.{Message}
use Rattle.plain_model.specs.declared.reply.TheConstants.Message.{TABLE_IN_TRANSACTION, BAD_DEFINITION}
use Rattle.plain_model.specs.declared.event.LockName.TheVariants.{All, Table}
use Rattle.plain_model.specs.Coming.{Next, unless, unless_shape, under, answers, no_write}
use Rattle.plain_model.specs.Meaning.{shape}
use Rattle.plain_model.specs.Messages.{plain}
use Rattle.plain_model.specs.State.{Plain, session, see}
use Rattle.plain_model.specs.Statements.{table_named}

-- the lock on the table of tables that comes first
abbrev pub first_mode : Stmt → Mode
first_mode (CreateTable name cols) = X
first_mode (DropTable name) = X
first_mode stmt = S

-- the lock on the statement's own table that comes behind it; a definition takes none
abbrev pub second_mode : Stmt → Option Mode
second_mode (Insert i) = Some X
second_mode (Update u) = Some X
second_mode (Delete d) = Some X
second_mode (Select s) = Some S
second_mode stmt = None

-- a definition is refused in a transaction, and where it is a bad one
abbrev pub no_definition : Plain → ℕ → Bool → List (Bool × Message)
no_definition st k bad = (nat_le 1 (session st k).depth, plain TABLE_IN_TRANSACTION) ∷ (bad, plain BAD_DEFINITION) ∷ []

-- the refusals that come before any lock, where the session is in the source
abbrev pub early_refusals : Plain → ℕ → Stmt → List (Bool × Message)
early_refusals st k (CreateTable name cols) = no_write st k ++ no_definition st k (length cols == 0)
early_refusals st k (DropTable name) = no_write st k ++ no_definition st k false
early_refusals st k (Select s) = []
early_refusals st k stmt = no_write st k

-- what comes once the second lock is held
abbrev pub second_lock : Plain → ℕ → Option Mode → List ℕ → Next → Next
second_lock st k None table n = n
second_lock st k (Some mode) table n = under st k (Table table) mode n

-- the whole of a statement on the source's tables: early refusals, the table of tables, its shape, its own table, the reply
abbrev pub by_phases : Plain → ℕ → Stmt → Next
by_phases st k stmt =
    unless (early_refusals st k stmt)
    (under st k All (first_mode stmt)
    (unless_shape (shape stmt (see st k))
    (second_lock st k (second_mode stmt) (table_named stmt)
    (answers stmt (see st k)))))
