-- The statement that each sentence says.
use Rattle.std.specs.Prelude.{◌≡◌, ℕ, List}
use Rattle.plain_model.specs.declared.stmt.Level.{Level}
use Rattle.plain_model.specs.declared.stmt.Level.TheVariants.{Committed, Serial}
use Rattle.plain_model.specs.declared.stmt.Stmt.{Stmt}
use Rattle.plain_model.specs.declared.stmt.Stmt.TheVariants.{UseDb, CreateTable, DropTable, Insert, Select, Update, Delete, BeginTran, Commit, Rollback, LockTimeoutZero, SetLevel, CreateSnap, DropDb, Restore}
use Rattle.sql_form.specs.Form.{Form, Value, Either, Left, Right}
use Rattle.sql_stmt.specs.Saying.{SaysName, SayEach, SaysEither, SaysFile, SaysSource, SaysSnapshot, SaysInsert, SaysUpdate, SaysDelete}
use Rattle.sql_stmt.specs.Selecting.{SaysSelect}
use Rattle.sql_stmt.specs.ChangeForms.{insert, update, delete}
use Rattle.sql_stmt.specs.DatabaseForms.{create_snap, drop_database, restore}
use Rattle.sql_stmt.specs.SelectForms.{select}
use Rattle.sql_stmt.specs.SessionForms.{use_database, begin_transaction, commit, rollback, timeout, level, isolation, set_session}
use Rattle.sql_stmt.specs.Statements.{create, drop, structure, change, turn, statement, ended}
use Rattle.sql_stmt.specs.TableForms.{create_table, drop_table}
use Rattle.sql_stmt.specs.Defining.{SaysPart}
use Rattle.table_def.specs.declared.parts.TablePart.{TablePart}
use Rattle.table_def.specs.Defined.{columns_of}

-- USE name
abbrev pub SaysUse : Stmt → Value use_database → Type 0
SaysUse (UseDb name) (word, v) = SaysName name v
SaysUse _ v = ⊥

-- DATABASE name ON file { , file } AS SNAPSHOT OF name
abbrev pub SaysCreateSnap : Stmt → Value create_snap → Type 0
SaysCreateSnap (CreateSnap snap files of) (word, (name, (on, (written, source)))) = SaysName snap name × SayEach SaysFile files written × SaysSource of source
SaysCreateSnap _ v = ⊥

-- DATABASE name
abbrev pub SaysDropDatabase : Stmt → Value drop_database → Type 0
SaysDropDatabase (DropDb name) (word, v) = SaysName name v
SaysDropDatabase _ v = ⊥

-- BEGIN TRAN | BEGIN TRANSACTION
abbrev pub SaysBegin : Stmt → Value begin_transaction → Type 0
SaysBegin BeginTran v = Unit {0}
SaysBegin _ v = ⊥

-- COMMIT [TRAN | TRANSACTION | WORK]
abbrev pub SaysCommit : Stmt → Value commit → Type 0
SaysCommit Commit v = Unit {0}
SaysCommit _ v = ⊥

-- ROLLBACK [TRAN | TRANSACTION | WORK]
abbrev pub SaysRollback : Stmt → Value rollback → Type 0
SaysRollback Rollback v = Unit {0}
SaysRollback _ v = ⊥

-- LOCK_TIMEOUT 0
abbrev pub SaysTimeout : Stmt → Value timeout → Type 0
SaysTimeout LockTimeoutZero v = Unit {0}
SaysTimeout _ v = ⊥

-- READ COMMITTED | SERIALIZABLE
abbrev pub SaysLevel : Level → Value level → Type 0
SaysLevel to (Left read_committed) = to ≡ Committed
SaysLevel to (Right serializable) = to ≡ Serial

-- TRANSACTION ISOLATION LEVEL ..
abbrev pub SaysIsolation : Stmt → Value isolation → Type 0
SaysIsolation (SetLevel to) (transaction, (isolation, (level, v))) = SaysLevel to v
SaysIsolation _ v = ⊥

-- SET LOCK_TIMEOUT 0 | SET TRANSACTION ISOLATION LEVEL ..
abbrev pub SaysSet : Stmt → Value set_session → Type 0
SaysSet stmt (word, v) = SaysEither SaysTimeout SaysIsolation stmt v

-- RESTORE DATABASE name FROM DATABASE_SNAPSHOT = text
abbrev pub SaysRestore : Stmt → Value restore → Type 0
SaysRestore (Restore db snap) (word, (database, (name, text))) = SaysName db name × SaysSnapshot snap text
SaysRestore _ v = ⊥

-- TABLE table ( part { , part } )
abbrev pub SaysCreateTable : Stmt → Value create_table → Type 0
SaysCreateTable (CreateTable name cols) (word, (table, (left, (written, right)))) = SaysName name table × (parts : List TablePart) × SayEach SaysPart parts written × (cols ≡ columns_of parts)
SaysCreateTable _ v = ⊥

-- TABLE table
abbrev pub SaysDropTable : Stmt → Value drop_table → Type 0
SaysDropTable (DropTable name) (word, table) = SaysName name table
SaysDropTable _ v = ⊥

-- CREATE TABLE .. | CREATE DATABASE ..
abbrev pub SaysCreate : Stmt → Value create → Type 0
SaysCreate stmt (word, v) = SaysEither SaysCreateTable SaysCreateSnap stmt v

-- DROP TABLE .. | DROP DATABASE ..
abbrev pub SaysDrop : Stmt → Value drop → Type 0
SaysDrop stmt (word, v) = SaysEither SaysDropTable SaysDropDatabase stmt v

-- USE .. | CREATE .. | DROP ..
abbrev pub SaysStructure : Stmt → Value structure → Type 0
SaysStructure stmt v = SaysEither SaysUse (SaysEither SaysCreate SaysDrop) stmt v

-- INSERT ..
abbrev pub SaysInsertion : Stmt → Value insert → Type 0
SaysInsertion (Insert i) v = SaysInsert i v
SaysInsertion _ v = ⊥

-- UPDATE ..
abbrev pub SaysUpdating : Stmt → Value update → Type 0
SaysUpdating (Update u) v = SaysUpdate u v
SaysUpdating _ v = ⊥

-- DELETE ..
abbrev pub SaysDeletion : Stmt → Value delete → Type 0
SaysDeletion (Delete d) v = SaysDelete d v
SaysDeletion _ v = ⊥

-- INSERT .. | UPDATE .. | DELETE ..
abbrev pub SaysChange : Stmt → Value change → Type 0
SaysChange stmt v = SaysEither SaysInsertion (SaysEither SaysUpdating SaysDeletion) stmt v

-- BEGIN .. | COMMIT .. | ROLLBACK .. | SET .. | RESTORE ..
abbrev pub SaysTurn : Stmt → Value turn → Type 0
SaysTurn stmt v = SaysEither SaysBegin (SaysEither SaysCommit (SaysEither SaysRollback (SaysEither SaysSet SaysRestore))) stmt v

-- SELECT ..
abbrev pub SaysSelection : Stmt → Value select → Type 0
SaysSelection (Select s) v = SaysSelect s v
SaysSelection _ v = ⊥

-- a statement
abbrev pub SaysStatement : Stmt → Value statement → Type 0
SaysStatement stmt v = SaysEither SaysSelection (SaysEither SaysStructure (SaysEither SaysChange SaysTurn)) stmt v

-- a statement and any number of semicolons
abbrev pub SaysEnded : Stmt → Value ended → Type 0
SaysEnded stmt (v, semicolons) = SaysStatement stmt v
