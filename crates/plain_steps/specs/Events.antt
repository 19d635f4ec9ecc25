-- What one event leaves of the others, of the source and of the copies.
use Rattle.std.specs.Prelude.{ℕ, Bool, true, false, ◌==◌, ◌&&◌, ◌||◌, nat_le, if◌then◌else◌, Option, Some, None}
use Rattle.plain_model.specs.declared.event.Event.{Event}
use Rattle.plain_model.specs.declared.event.Event.TheVariants.{Locked, CutAt, RestoreAt, Turned, Said, Left}
use Rattle.plain_model.specs.declared.reply.Message.{Message}
use Rattle.plain_model.specs.declared.reply.Reply.{Reply}
use Rattle.plain_model.specs.declared.reply.Reply.TheVariants.{Msg}
use Rattle.plain_model.specs.declared.reply.TheConstants.Message.{NO_MEMORY, LOG_FAILED}
use Rattle.plain_model.specs.declared.stmt.Stmt.{Stmt}
use Rattle.plain_model.specs.declared.stmt.Stmt.TheVariants.{CreateTable, DropTable, Insert, Update, Delete, Commit, Rollback, Restore}
use Rattle.plain_model.specs.Meaning.{change_and_reply}
use Rattle.plain_model.specs.State.{Plain, session, stmt_of, committed, see, copy}
use Rattle.plain_model.specs.Tables.{Tables, apply}

-- the session that an event is of; 0, and so none, where a snapshot turned suspect
abbrev pub who_of : Event → ℕ
who_of (Locked who table mode) = who.0
who_of (CutAt who snap) = who.0
who_of (RestoreAt who snap) = who.0
who_of (Turned snap) = 0
who_of (Said who number began reply) = who.0
who_of (Left who) = who.0

-- whether a statement changes tables when it succeeds
abbrev pub is_write : Stmt → Bool
is_write (CreateTable name cols) = true
is_write (DropTable name) = true
is_write (Insert i) = true
is_write (Update u) = true
is_write (Delete d) = true
is_write stmt = false

-- the source's tables once a statement was answered with a success
abbrev pub source_after : Plain → ℕ → Stmt → Tables
source_after st k Commit = if nat_le 2 (session st k).depth then committed st else see st k
source_after st k (Restore d snap) = copy st snap
source_after st k stmt = if is_write stmt && (session st k).depth == 0 then apply (change_and_reply stmt (see st k)).0 (committed st) else committed st

-- or with any reply: a refusal leaves it
abbrev pub source_by : Plain → ℕ → Option Stmt → Reply → Tables
source_by st k stmt (Msg m) = committed st
source_by st k None reply = committed st
source_by st k (Some stmt) reply = source_after st k stmt

-- the source's tables after an event
abbrev pub source_next : Plain → Event → Tables
source_next st (Said who number began reply) = source_by st who.0 (stmt_of st who.0) reply
source_next st e = committed st

-- what a session sees once its own statement was answered with a success
abbrev pub sight_after : Plain → ℕ → Stmt → Tables
sight_after st k Rollback = committed st
sight_after st k (Restore d snap) = apply (session st k).work (copy st snap)
sight_after st k stmt = if is_write stmt then apply (change_and_reply stmt (see st k)).0 (see st k) else see st k

-- whether a refusal takes a transaction's changes away: a COMMIT that found no memory, or whose log failed
abbrev pub is_lost : Stmt → Message → Bool
is_lost Commit m = m.number == NO_MEMORY || m.number == LOG_FAILED
is_lost stmt m = false

-- or with any reply
abbrev pub sight_by : Plain → ℕ → Option Stmt → Reply → Tables
sight_by st k None reply = see st k
sight_by st k (Some stmt) (Msg m) = if is_lost stmt m then committed st else see st k
sight_by st k (Some stmt) reply = sight_after st k stmt
