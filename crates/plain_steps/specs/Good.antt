-- Tables whose rows are such as a statement may put, from the opening on.
use Rattle.std.specs.Prelude.{ℕ, ◌≡◌, true, List, Some, All}
use Rattle.std.specs.FinMap as finite
use Rattle.std.specs.List.{list_all}
use Rattle.plain_model.specs.declared.stmt.Stmt.{Stmt}
use Rattle.plain_model.specs.declared.event.Event.{Event}
use Rattle.plain_model.specs.Journal.{Opening}
use Rattle.plain_model.specs.Legal.{Legal, end}
use Rattle.plain_model.specs.Sound.{are_sound}
use Rattle.plain_model.specs.State.{committed, copy}
use Rattle.plain_model.specs.Tables.{Table, Tables, IsKeyed, rows_of}
use Rattle.row_fmt.specs.Rows.{IsRowOf}
use Rattle.row_types.specs.Fitting.{IsFitting}
use Rattle.row_types.specs.Limits.{KeepsLimits}

-- The columns are a good definition; each row fits them, is one that a program holds, is within the limits, and stands by
-- its own key.
pub record IsGood (t : Table) : Type 0 where
  pub fits : IsFitting t
  pub held : All (IsRowOf t.cols) (rows_of t)
  pub small : All (KeepsLimits t.cols) (rows_of t)
  pub keyed : IsKeyed t

-- each of these tables
abbrev pub AreGood : Tables → Type 0
AreGood tables = (name : List ℕ) (t : Table) → finite.get tables name ≡ Some t → IsGood t

-- those of an opening: the source's, and those of each snapshot
pub record BeginsGood (o : Opening) : Type 0 where
  pub tables : AreGood o.tables
  pub copies : All (λ s. AreGood s.tables) o.snaps

-- a legal history of sound statements keeps them so
abbrev pub AreKeptGood : Type 0
AreKeptGood = (opening : Opening) (scripts : List (List Stmt)) (book : List Event) → BeginsGood opening → list_all are_sound scripts ≡ true → Legal opening scripts book →
    AreGood (committed (end opening scripts book)) × ((snap : List ℕ) → AreGood (copy (end opening scripts book) snap))
