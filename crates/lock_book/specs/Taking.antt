-- What taking a lock leads to, and who is in its way.
use Rattle.std.specs.Prelude.{◌≢◌, ◌<◌, if◌then◌else◌, Option, None, Some, IsTrue}
use Rattle.page_base.specs.declared.numbers.SessNo.{SessNo}
use Rattle.page_base.specs.declared.numbers.TableNo.{TableNo}
use Rattle.page_base.specs.declared.numbers.Mode.{Mode}
use Rattle.page_base.specs.declared.numbers.Mode.TheVariants.{S, X}
use Rattle.lock_book.specs.declared.lock.LockRefusal.{LockRefusal}
use Rattle.lock_book.specs.declared.lock.LockRefusal.TheVariants.{Held, Memory}
use Rattle.lock_book.specs.Modes.{conflicts, gains}
use Rattle.lock_book.specs.Locks.{Locks, Holds, lock_of, with_lock}

-- the locks after a session was given one: as before where it gained nothing
abbrev pub after_taking : Locks → SessNo → TableNo → Mode → Locks
after_taking locks who table mode = if gains (lock_of locks who table) mode then with_lock locks who table mode else locks

-- the mode in which a session holds a table once it was given one more
abbrev pub stronger : Option Mode → Mode → Mode
stronger None mode = mode
stronger (Some S) mode = mode
stronger (Some X) mode = X

-- session k is another one, and holds the table in a mode that conflicts
pub record IsInTheWay (locks : Locks) (who : SessNo) (table : TableNo) (mode : Mode) (k : SessNo) : Type 0 where
  pub other : k ≢ who
  pub held : Mode
  pub holds : Holds locks k table held
  pub conflict : IsTrue (conflicts held mode)

-- no session is in the way
abbrev pub IsFree : Locks → SessNo → TableNo → Mode → Type 0
IsFree locks who table mode = (k : SessNo) → ¬ IsInTheWay locks who table mode k

-- session k is in the way, and none below it is
pub record IsLowestInTheWay (locks : Locks) (who : SessNo) (table : TableNo) (mode : Mode) (k : SessNo) : Type 0 where
  pub there : IsInTheWay locks who table mode k
  pub lowest : (j : SessNo) → j.0 < k.0 → ¬ IsInTheWay locks who table mode j

-- when each refusal comes; want of memory only where nobody is in the way
abbrev pub Refuses : Locks → SessNo → TableNo → Mode → LockRefusal → Type 0
Refuses locks who table mode (Held by) = IsLowestInTheWay locks who table mode by
Refuses locks who table mode Memory = IsFree locks who table mode
