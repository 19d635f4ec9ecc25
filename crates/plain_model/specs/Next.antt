-- What comes next of a session: its reply, a lock, a cut or a revert, decided from left to right by the order of refusals.
use Rattle.std.specs.Prelude.{ℕ, nat_le, Bool, true, false, ◌==◌, not, if◌then◌else◌, List, [], ◌∷◌, length, Option, Some, None}
use Rattle.page_base.specs.declared.numbers.Mode.TheVariants.{S, X}
use Rattle.plain_model.specs.declared.stmt.Stmt.{Stmt}
use Rattle.plain_model.specs.declared.stmt.Stmt.TheVariants.{UseDb, CreateTable, DropTable, Insert, Select, Update, Delete, BeginTran, Commit, Rollback, LockTimeoutZero, SetLevel, CreateSnap, DropDb, Restore, Broken}
use Rattle.plain_model.specs.declared.event.LockName.TheVariants.{All, Table}
use Rattle.plain_model.specs.declared.reply.TheConstants.Message.{SYNTAX, NO_TABLE, NO_DATABASE, SUSPECT, RESTORING, NOTHING_TO_COMMIT, NOTHING_TO_ROLL_BACK, BEING_MADE, TABLE_IN_TRANSACTION, BAD_DEFINITION, NOT_BUILT}
use Rattle.plain_model.specs.declared.reply.Reply.TheVariants.{Ok, Msg}
use Rattle.plain_model.specs.State.{Plain, session, stmt_of, see, copy, is_source, is_snap, is_suspect, is_being_made, is_restoring, restored}
use Rattle.plain_model.specs.Messages.{plain, at_place}
use Rattle.plain_model.specs.Meaning.{shape}
pub use Rattle.plain_model.specs.Coming.{Next, Replies, Wants, Cuts, Restores, Silent, unless, unless_shape, waits, under, answers, no_write, is_database}
pub use Rattle.plain_model.specs.OfSnaps.{is_each_once, is_taken, is_full, logical_names, sparse_names, no_snap, no_room, next_snap, no_drop, next_drop, no_restore, next_restore}

-- USE d
abbrev pub next_use : Plain → List ℕ → Next
next_use st d =
    unless ((not (is_database st d), plain NO_DATABASE) ∷ (is_restoring st d, plain RESTORING) ∷ (is_being_made st d, plain BEING_MADE) ∷ (is_suspect st d, plain SUSPECT) ∷ [])
    (Replies Ok)

-- CREATE TABLE, where the definition may be a bad one, or DROP TABLE
abbrev pub next_define : Plain → ℕ → Stmt → Bool → Next
next_define st k stmt bad =
    unless (no_write st k) (unless ((nat_le 1 (session st k).depth, plain TABLE_IN_TRANSACTION) ∷ (bad, plain BAD_DEFINITION) ∷ [])
    (under st k All X (unless_shape (shape stmt (see st k)) (answers stmt (see st k)))))

-- INSERT into a table, or UPDATE or DELETE of one
abbrev pub next_change : Plain → ℕ → Stmt → List ℕ → Next
next_change st k stmt table =
    unless (no_write st k)
    (under st k All S (unless_shape (shape stmt (see st k))
    (under st k (Table table) X (answers stmt (see st k)))))

-- SELECT from a table: in the source under locks, in a snapshot over its static view
abbrev pub next_select : Plain → ℕ → Stmt → List ℕ → Next
next_select st k stmt table =
    let current = (session st k).current in
    if is_source st current then
    under st k All S (unless_shape (shape stmt (see st k)) (under st k (Table table) S (answers stmt (see st k))))
    else (if is_snap st current then
    unless ((is_suspect st current, plain SUSPECT) ∷ []) (unless_shape (shape stmt (copy st current)) (answers stmt (copy st current)))
    else Replies (Msg (plain NO_TABLE)))

-- COMMIT or ROLLBACK, with the refusal that it has outside a transaction
abbrev pub next_ending : Plain → ℕ → ℕ → Next
next_ending st k number = unless (((session st k).depth == 0, plain number) ∷ []) (Replies Ok)

-- whether the statement is one of those that are built so far; transactions, settings, dropping and reverting aren't
abbrev pub is_built : Stmt → Bool
is_built (UseDb d) = true
is_built (CreateTable name cols) = true
is_built (Insert i) = true
is_built (Select s) = true
is_built (Update u) = true
is_built (Delete d) = true
is_built (CreateSnap snap files of) = true
is_built (Broken at) = true
is_built stmt = false

-- what comes next of this statement
abbrev pub next_stmt : Plain → ℕ → Stmt → Next
next_stmt st k (UseDb d) = next_use st d
next_stmt st k (CreateTable name cols) = next_define st k (CreateTable name cols) (length cols == 0)
next_stmt st k (DropTable name) = next_define st k (DropTable name) false
next_stmt st k (Insert i) = next_change st k (Insert i) i.table
next_stmt st k (Select s) = next_select st k (Select s) s.table
next_stmt st k (Update u) = next_change st k (Update u) u.table
next_stmt st k (Delete d) = next_change st k (Delete d) d.table
next_stmt st k BeginTran = Replies Ok
next_stmt st k Commit = next_ending st k NOTHING_TO_COMMIT
next_stmt st k Rollback = next_ending st k NOTHING_TO_ROLL_BACK
next_stmt st k LockTimeoutZero = Replies Ok
next_stmt st k (SetLevel level) = Replies Ok
next_stmt st k (CreateSnap snap files of) = next_snap st k (session st k).making snap files of
next_stmt st k (DropDb d) = next_drop st k d
next_stmt st k (Restore d snap) = next_restore st k (restored st k) d snap
next_stmt st k (Broken at) = Replies (Msg (at_place SYNTAX at))

-- a statement that isn't built yet is refused before all else
abbrev pub next_of : Plain → ℕ → Option Stmt → Next
next_of st k None = Silent
next_of st k (Some stmt) = unless ((not (is_built stmt), plain NOT_BUILT) ∷ []) (next_stmt st k stmt)

abbrev pub next : Plain → ℕ → Next
next st k = next_of st k (stmt_of st k)
