-- What holds in each state that a legal history leads to: of locks, and of changes that wait for a commit.
use Rattle.std.specs.Prelude.{ℕ, ◌≡◌, ◌≢◌, ◌≤◌, List, [], Some, None}
use Rattle.std.specs.List.{AllByRecursion}
use Rattle.page_base.specs.declared.numbers.Mode.{Mode}
use Rattle.page_base.specs.declared.numbers.Mode.TheVariants.{X}
use Rattle.plain_model.specs.declared.event.LockName.{LockName}
use Rattle.plain_model.specs.declared.event.LockName.TheVariants.{All, Table}
use Rattle.plain_model.specs.State.{Plain, session}
use Rattle.plain_model.specs.Tables.{Change}
use Rattle.plain_steps.specs.Changes.{named_by, IsOfRow}
use Rattle.plain_steps.specs.Modes.{mode_in}

-- a change of a row, of a table that is held in X
abbrev pub IsHeldChange : List (LockName × Mode) → Change → Type 0
IsHeldChange locks c = IsOfRow c × (mode_in locks (Table (named_by c)) ≡ Some X)

pub record IsOrderly (st : Plain) : Type 0 where
  -- a table that one session holds in X no other holds
  pub exclusive : (i j : ℕ) (name : LockName) → 1 ≤ i → 1 ≤ j → i ≢ j → mode_in (session st i).locks name ≡ Some X → mode_in (session st j).locks name ≡ None
  -- outside a transaction nothing waits
  pub idle : (k : ℕ) → (session st k).depth ≡ 0 → (session st k).work ≡ []
  -- what waits is rows of tables that its session holds in X
  pub covered : (k : ℕ) → AllByRecursion (IsHeldChange (session st k).locks) (session st k).work
  -- who holds a table holds the table of tables
  pub tabled : (k : ℕ) (table : List ℕ) → mode_in (session st k).locks (Table table) ≢ None → mode_in (session st k).locks All ≢ None
