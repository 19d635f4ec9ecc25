-- Who holds which table in which mode.
use Rattle.std.specs.Prelude.{◌≡◌, ◌==◌, ◌&&◌, Bool, not, if◌then◌else◌, List, [], ◌∷◌, filter, Option, None, Some}
use Rattle.page_base.specs.declared.numbers.SessNo.{SessNo}
use Rattle.page_base.specs.declared.numbers.TableNo.{TableNo}
use Rattle.page_base.specs.declared.numbers.Mode.{Mode}
use Rattle.page_base.specs.declared.numbers.Mode.TheVariants.{X}
use Rattle.lock_book.specs.declared.lock.Lock.{Lock}

-- the locks, in the order in which each table was first taken by each session
abbrev pub Locks : Type 0
Locks = List Lock

-- the lock is this session's on this table
abbrev pub is_lock : SessNo → TableNo → Lock → Bool
is_lock who table lock = lock.who.0 == who.0 && lock.table.0 == table.0

-- the mode in which a session holds a table
abbrev pub lock_of : Locks → SessNo → TableNo → Option Mode
lock_of [] who table = None
lock_of (lock ∷ locks) who table = if is_lock who table lock then Some lock.mode else lock_of locks who table

-- the session holds the table in this mode
abbrev pub Holds : Locks → SessNo → TableNo → Mode → Type 0
Holds locks who table mode = lock_of locks who table ≡ Some mode

-- the session holds the table in this mode, all else as before
abbrev pub with_lock : Locks → SessNo → TableNo → Mode → Locks
with_lock [] who table mode = record { who = who; table = table; mode = mode } ∷ []
with_lock (lock ∷ locks) who table mode = if is_lock who table lock then record lock { mode = mode } ∷ locks else lock ∷ with_lock locks who table mode

-- the session holds nothing, all else as before
abbrev pub without_locks : Locks → SessNo → Locks
without_locks locks who = filter (λ (lock : Lock). not (lock.who.0 == who.0)) locks

-- the session doesn't hold this table, all else as before
abbrev pub without_lock : Locks → SessNo → TableNo → Locks
without_lock locks who table = filter (λ (lock : Lock). not (is_lock who table lock)) locks

-- a session has one lock at most on a table
abbrev pub IsOnce : Locks → Type 0
IsOnce [] = Unit {0}
IsOnce (lock ∷ locks) = (lock_of locks lock.who lock.table ≡ None) × IsOnce locks

-- who holds a table in X is its only holder
pub record IsLockBook (locks : Locks) : Type 0 where
  pub once : IsOnce locks
  pub alone : (j k : SessNo) (table : TableNo) (mode : Mode) → Holds locks j table X → Holds locks k table mode → j ≡ k
