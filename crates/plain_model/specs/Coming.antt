-- What may come next of a statement, and the phases that statements share: refusals in their order, a lock, the reply.
use Rattle.std.specs.Prelude.{ℕ, Bool, true, ◌||◌, not, if◌then◌else◌, List, [], ◌∷◌, Option, Some, None}
use Rattle.std.specs.Str.{bytes_eq}
use Rattle.page_base.specs.declared.numbers.Mode.{Mode}
use Rattle.plain_model.specs.declared.stmt.Stmt.{Stmt}
use Rattle.plain_model.specs.declared.event.LockName.{LockName}
use Rattle.plain_model.specs.declared.reply.Message.{Message}
use Rattle.plain_model.specs.declared.reply.TheConstants.Message.{SUSPECT, READ_ONLY, LOCKED}
use Rattle.plain_model.specs.declared.reply.Reply.{Reply}
use Rattle.plain_model.specs.declared.reply.Reply.TheVariants.{Msg}
use Rattle.plain_model.specs.Tables.{Tables}
use Rattle.plain_model.specs.State.{Plain, session, master, is_source, is_snap, is_suspect}
use Rattle.plain_model.specs.Holding.{holds, held}
use Rattle.plain_model.specs.Messages.{plain, at_place}
use Rattle.plain_model.specs.Meaning.{change_and_reply}

-- what comes next of a session: a reply, an event before it, or nothing where it has no statement left
pub data Next : Type 0 where
  Replies : Reply → Next
  Wants : LockName → Mode → Next
  Cuts : (snap : List ℕ) → Next
  Restores : (snap : List ℕ) → Next
  Silent : Next

-- the first refusal that applies is the reply, and where none does the rest comes
abbrev pub unless : List (Bool × Message) → Next → Next
unless [] next = next
unless (r ∷ rs) next = if r.0 then Replies (Msg r.1) else unless rs next

-- the same of one refusal that carries what was found
abbrev pub unless_shape : Option Message → Next → Next
unless_shape (Some m) next = Replies (Msg m)
unless_shape None next = next

-- without the lock the session wants it, where no other is in its way
abbrev pub waits : Option ℕ → LockName → Mode → Next
waits (Some other) name mode = Replies (Msg (at_place LOCKED other))
waits None name mode = Wants name mode

-- what comes once the lock is held
abbrev pub under : Plain → ℕ → LockName → Mode → Next → Next
under st k name mode next = if holds (session st k).locks name mode then next else waits (held st k name mode) name mode

-- the reply of a statement whose shape is right
abbrev pub answers : Stmt → Tables → Next
answers stmt tables = Replies (change_and_reply stmt tables).1

-- the refusals of a statement that changes the source, by the session's current database
abbrev pub no_write : Plain → ℕ → List (Bool × Message)
no_write st k = (is_suspect st (session st k).current, plain SUSPECT) ∷ (not (is_source st (session st k).current), plain READ_ONLY) ∷ []

-- `master`, the source or an open snapshot
abbrev pub is_database : Plain → List ℕ → Bool
is_database st d = bytes_eq d master || (is_source st d || is_snap st d)
