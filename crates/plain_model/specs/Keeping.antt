-- Which locks a session keeps when its statement is answered, by its level.
use Rattle.std.specs.Prelude.{Bool, true, false, ◌==◌, ◌&&◌, not, if◌then◌else◌, List, [], ◌∷◌, filter}
use Rattle.std.specs.List.{list_any}
use Rattle.page_base.specs.declared.numbers.Mode.{Mode}
use Rattle.page_base.specs.declared.numbers.Mode.TheVariants.{S, X}
use Rattle.plain_model.specs.declared.event.LockName.{LockName}
use Rattle.plain_model.specs.declared.event.LockName.TheVariants.{All}
use Rattle.plain_model.specs.declared.stmt.Level.{Level}
use Rattle.plain_model.specs.declared.stmt.Level.TheVariants as levels
use Rattle.plain_model.specs.State.{Session}
use Rattle.plain_model.specs.Holding.{same_lock}

abbrev pub is_shared : Mode → Bool
is_shared S = true
is_shared X = false

-- a lock on a table other than the table of tables
abbrev pub is_on_table : LockName × Mode → Bool
is_on_table l = not (same_lock l.0 All)

-- a lock in S on one of the names that were gained
abbrev pub was_gained : List LockName → LockName × Mode → Bool
was_gained gained l = is_shared l.1 && list_any (same_lock l.0) gained

-- without what was gained on tables
abbrev pub without_tables : List LockName → List (LockName × Mode) → List (LockName × Mode)
without_tables gained locks = filter (λ l. not (is_on_table l && was_gained gained l)) locks

-- then without what was gained on the table of tables, where no lock on a table is left
abbrev pub without_all : List LockName → List (LockName × Mode) → List (LockName × Mode)
without_all gained locks = if list_any is_on_table locks then locks else filter (λ l. not (was_gained gained l)) locks

-- what a statement said at this level leaves of a transaction's locks
abbrev pub kept_at : Level → List LockName → List (LockName × Mode) → List (LockName × Mode)
kept_at levels.Serial gained locks = locks
kept_at levels.Committed gained locks = without_all gained (without_tables gained locks)

-- the locks that a session keeps when its statement is answered: none outside a transaction
abbrev pub kept_locks : Session → List (LockName × Mode)
kept_locks s = if s.depth == 0 then [] else kept_at s.level s.gained s.locks

-- the names gained in S, and that of a lock which is gained now where it is one in S
abbrev pub with_gain : LockName → Mode → List LockName → List LockName
with_gain name S gained = name ∷ gained
with_gain name X gained = gained
