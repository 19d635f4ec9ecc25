-- When a session may be answered, and what comes of its statement.
use Rattle.std.specs.Prelude.{ℕ, ◌≡◌, ◌⊎◌, false, List, [], ◌∷◌, Some, None, IsTrue}
use Rattle.page_base.specs.declared.numbers.Mode.{Mode}
use Rattle.page_base.specs.declared.numbers.Mode.TheVariants.{S}
use Rattle.plain_model.specs.declared.stmt.Stmt.{Stmt}
use Rattle.plain_model.specs.declared.event.LockName.{LockName}
use Rattle.plain_model.specs.declared.event.LockName.TheVariants.{All, Table}
use Rattle.plain_model.specs.declared.reply.Reply.{Reply}
use Rattle.plain_model.specs.Tables.{Tables}
use Rattle.plain_model.specs.Journal.{Opening}
use Rattle.plain_model.specs.State.{Plain, Snap, session, is_session, is_suspect, is_being_made, committed, copy}
use Rattle.plain_model.specs.Holding.{held}
use Rattle.plain_model.specs.Next.{Replies, Wants, next_of}
use Rattle.plain_model.specs.Free.{IsFree}
use Rattle.early_engine.specs.declared.answer.Answer.{Answer}
use Rattle.early_engine.specs.declared.answer.Answer.TheVariants.{AtOnce, UnderAll, UnderTable}

abbrev pub Locks : Type 0
Locks = List (LockName × Mode)

-- the source's committed tables, and the copy of each snapshot
pub record Seen : Type 0 where
  pub source : Tables
  pub copies : List ℕ → Tables

-- Session k is in the midst of a statement with these locks, outside a transaction, over these tables and copies; nobody is in its
-- way, and no snapshot has the source's name.
pub record Ready (opening : Opening) (current : List ℕ) (seen : Seen) (st : Plain) (k : ℕ) (locks : Locks) : Type 0 where
  pub there : IsTrue (is_session st k)
  pub current_is : (session st k).current ≡ current
  pub depth : (session st k).depth ≡ 0
  pub work : (session st k).work ≡ []
  pub making : (session st k).making ≡ None
  pub locks_are : (session st k).locks ≡ locks
  pub unmade : (d : List ℕ) → is_being_made st d ≡ false
  pub quiet : (name : LockName) (mode : Mode) → held st k name mode ≡ None
  pub tables_are : committed st ≡ seen.source
  pub copies_are : (snap : List ℕ) → copy st snap ≡ seen.copies snap
  pub opened : st.opening ≡ opening
  pub apart : is_suspect st opening.source ≡ false
  pub settled : st.restoring ≡ None

-- the statement may be answered so
abbrev pub Allowed : Plain → ℕ → Stmt → Reply → Type 0
Allowed st k stmt reply = (next_of st k (Some stmt) ≡ Replies reply) ⊎ IsFree st k (Some stmt) reply

-- the answer is what comes: at once where the snapshots are these, or once its locks are held
abbrev pub Comes : Opening → List ℕ → Seen → List Snap → Stmt → Answer → Type 0
Comes opening current seen snaps stmt (AtOnce reply) = (st : Plain) (k : ℕ) → Ready opening current seen st k [] → st.snaps ≡ snaps → Allowed st k stmt reply
Comes opening current seen snaps stmt (UnderAll mode reply) =
    ((st : Plain) (k : ℕ) → Ready opening current seen st k [] → next_of st k (Some stmt) ≡ Wants All mode)
    × ((st : Plain) (k : ℕ) → Ready opening current seen st k ((All, mode) ∷ []) → Allowed st k stmt reply)
Comes opening current seen snaps stmt (UnderTable name mode reply) =
    ((st : Plain) (k : ℕ) → Ready opening current seen st k [] → next_of st k (Some stmt) ≡ Wants All S)
    × ((st : Plain) (k : ℕ) → Ready opening current seen st k ((All, S) ∷ []) → next_of st k (Some stmt) ≡ Wants (Table name) mode)
    × ((st : Plain) (k : ℕ) → Ready opening current seen st k ((Table name, mode) ∷ (All, S) ∷ []) → Allowed st k stmt reply)

abbrev pub reply_of : Answer → Reply
reply_of (AtOnce reply) = reply
reply_of (UnderAll mode reply) = reply
reply_of (UnderTable name mode reply) = reply

-- the locks that the answer is given under, the newest first
abbrev pub locks_of : Answer → Locks
locks_of (AtOnce reply) = []
locks_of (UnderAll mode reply) = (All, mode) ∷ []
locks_of (UnderTable name mode reply) = (Table name, mode) ∷ (All, S) ∷ []
