-- Replies that the tables don't tell: memory, frames, room and files are short.
use Rattle.std.specs.Prelude.{ℕ, ◌≡◌, Bool, true, false, ◌==◌, ◌&&◌, ◌||◌, not, List, Option, Some, None, is_some}
use Rattle.std.specs.Str.{bytes_eq}
use Rattle.std.specs.List.{list_any}
use Rattle.page_base.specs.declared.numbers.Mode.TheVariants.{S}
use Rattle.plain_model.specs.declared.event.LockName.TheVariants.{All}
use Rattle.plain_model.specs.declared.stmt.Stmt.{Stmt}
use Rattle.plain_model.specs.declared.stmt.Stmt.TheVariants.{CreateTable, DropTable, Insert, Select, Update, Delete, Commit, CreateSnap, DropDb, Restore}
use Rattle.plain_model.specs.declared.stmt.SnapFile.{SnapFile}
use Rattle.plain_model.specs.declared.reply.TheConstants.Message.{NO_MEMORY, NO_ROOM, FILE_IS_THERE, FILE_FAILED, FILE_NOT_REMOVED, LOG_FAILED, NO_FRAME, DATA_FAILED}
use Rattle.plain_model.specs.declared.reply.Reply.{Reply}
use Rattle.plain_model.specs.declared.reply.Reply.TheVariants.{Ok, Count, Msg}
use Rattle.plain_model.specs.State.{Plain, session, is_snap, is_suspect, restored}
use Rattle.plain_model.specs.Holding.{holds}
use Rattle.plain_model.specs.Messages.{plain, at_place, first_that}
use Rattle.plain_model.specs.Next.{Replies, no_snap, sparse_names, next_of}

-- whether the statement is about tables
abbrev pub is_of_tables : Stmt → Bool
is_of_tables (CreateTable name cols) = true
is_of_tables (DropTable name) = true
is_of_tables (Insert i) = true
is_of_tables (Select s) = true
is_of_tables (Update u) = true
is_of_tables (Delete d) = true
is_of_tables _ = false

-- whether the statement may need room on pages
abbrev pub may_grow : Stmt → Bool
may_grow (CreateTable name cols) = true
may_grow (Insert i) = true
may_grow (Update u) = true
may_grow _ = false

-- whether the statement reads a suspect snapshot
abbrev pub reads_suspect : Plain → ℕ → Stmt → Bool
reads_suspect st k (Select s) = is_suspect st (session st k).current
reads_suspect st k _ = false

-- whether the statement may be visiting pages: one about tables that holds the table of tables or is in a snapshot, but
-- for a SELECT in a suspect one; or a RESTORE that has begun
abbrev pub visits : Plain → ℕ → Stmt → Bool
visits st k (Restore d snap) = is_some (restored st k)
visits st k stmt = is_of_tables stmt && (not (reads_suspect st k stmt) && (holds (session st k).locks All S || is_snap st (session st k).current))

-- whether the statement's success is written to the log: a transaction's own COMMIT, or a write outside a transaction
abbrev pub is_logged : Plain → ℕ → Stmt → Bool
is_logged st k Commit = (session st k).depth == 1
is_logged st k (Select s) = false
is_logged st k stmt = is_of_tables stmt && (session st k).depth == 0

-- the reply of a write that succeeds
abbrev pub is_success : Reply → Bool
is_success Ok = true
is_success (Count n) = true
is_success _ = false

-- CREATE DATABASE is past the checks that need no file, and before its cut
pub record IsMaking (st : Plain) (k : ℕ) (snap : List ℕ) (files : List SnapFile) (of : List ℕ) : Type 0 where
  pub before : (session st k).making ≡ None
  pub passes : first_that (no_snap st k snap files of) ≡ None

-- whether one of the names is in doubt
abbrev pub is_doubtful : Plain → List (List ℕ) → Bool
is_doubtful st names = list_any (λ n. list_any (bytes_eq n) st.in_doubt) names

-- The free replies: no memory was found for a statement about tables, which reads no suspect snapshot, for the
-- transaction's own COMMIT, before a cut, or for a RESTORE; all frames were pinned, or a data file failed, where the
-- statement may be visiting pages; the log failed where the success is written to it, or in a RESTORE that has begun; a
-- write that would succeed found no room; the volume, or a new file, failed before a cut; a file of a dropped snapshot
-- wasn't removed; a file whose name was in doubt turned out to be there.
pub data IsFree (st : Plain) (k : ℕ) : Option Stmt → Reply → Type 0 where
  NoMemory : (stmt : Stmt) → is_of_tables stmt ≡ true → reads_suspect st k stmt ≡ false → IsFree st k (Some stmt) (Msg (plain NO_MEMORY))
  NoMemoryToCommit : (session st k).depth ≡ 1 → IsFree st k (Some Commit) (Msg (plain NO_MEMORY))
  NoMemoryToCut : (snap : List ℕ) (files : List SnapFile) (of : List ℕ) → (session st k).making ≡ None → IsFree st k (Some (CreateSnap snap files of)) (Msg (plain NO_MEMORY))
  NoMemoryToRestore : (d snap : List ℕ) → IsFree st k (Some (Restore d snap)) (Msg (plain NO_MEMORY))
  NoFrame : (stmt : Stmt) (pins : ℕ) → visits st k stmt ≡ true → IsFree st k (Some stmt) (Msg (at_place NO_FRAME pins))
  DataFailed : (stmt : Stmt) (count : ℕ) → visits st k stmt ≡ true → IsFree st k (Some stmt) (Msg (at_place DATA_FAILED count))
  LogFailed : (stmt : Stmt) (success : Reply) (count : ℕ) → is_logged st k stmt ≡ true → is_success success ≡ true → next_of st k (Some stmt) ≡ Replies success → IsFree st k (Some stmt) (Msg (at_place LOG_FAILED count))
  RevertNotLogged : (d snap : List ℕ) (count : ℕ) → is_some (restored st k) ≡ true → IsFree st k (Some (Restore d snap)) (Msg (at_place LOG_FAILED count))
  NoRoom : (stmt : Stmt) (success : Reply) → may_grow stmt ≡ true → is_success success ≡ true → next_of st k (Some stmt) ≡ Replies success → IsFree st k (Some stmt) (Msg (plain NO_ROOM))
  FileFailed : (snap : List ℕ) (files : List SnapFile) (of : List ℕ) → IsMaking st k snap files of → IsFree st k (Some (CreateSnap snap files of)) (Msg (plain FILE_FAILED))
  FileNotRemoved : (d : List ℕ) → next_of st k (Some (DropDb d)) ≡ Replies Ok → IsFree st k (Some (DropDb d)) (Msg (plain FILE_NOT_REMOVED))
  NameTaken : (snap : List ℕ) (files : List SnapFile) (of : List ℕ) → IsMaking st k snap files of → is_doubtful st (sparse_names files) ≡ true → IsFree st k (Some (CreateSnap snap files of)) (Msg (plain FILE_IS_THERE))
