-- What the searches of the list look for.
use Rattle.std.specs.Prelude.{◌≡◌, ◌==◌, ◌&&◌, ℕ, ◌<◌, Bool, not, true, false, List, length, map, filter, slice_index_or}
use Rattle.page_base.specs.declared.numbers.SessNo.{SessNo}
use Rattle.page_base.specs.declared.numbers.TableNo.{TableNo}
use Rattle.page_base.specs.declared.numbers.Mode.{Mode}
use Rattle.lock_book.specs.declared.lock.Lock.{Lock}
use Rattle.lock_book.specs.Modes.{conflicts}
use Rattle.lock_book.specs.Locks.{Locks, is_lock}

-- another session's lock on this table that conflicts with the mode
abbrev pub blocks : SessNo → TableNo → Mode → Lock → Bool
blocks who table mode lock = not (lock.who.0 == who.0) && lock.table.0 == table.0 && conflicts lock.mode mode

-- the numbers of the sessions whose locks block
abbrev pub blockers : SessNo → TableNo → Mode → List Lock → List ℕ
blockers who table mode locks = map (λ (lock : Lock). lock.who.0) (filter (blocks who table mode) locks)

-- no lock of the list is this session's on this table
abbrev pub HasNone : Locks → SessNo → TableNo → Type 0
HasNone locks who table = (d : Lock) (k : ℕ) → k < length locks → is_lock who table (slice_index_or locks k d) ≡ false

-- the first such lock stands at i
pub record IsFirst (locks : Locks) (who : SessNo) (table : TableNo) (i : ℕ) : Type 0 where
  pub within : i < length locks
  pub here : (d : Lock) → is_lock who table (slice_index_or locks i d) ≡ true
  pub before : (d : Lock) (k : ℕ) → k < i → is_lock who table (slice_index_or locks k d) ≡ false
