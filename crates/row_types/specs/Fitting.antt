-- Rows that a statement puts fit the columns of its table.
use Rattle.std.specs.Prelude.{◌≡◌, true, List, Some, None, All}
use Rattle.page_base.specs.declared.column.Column.{Column}
use Rattle.plain_model.specs.declared.stmt.Stmt.{Stmt}
use Rattle.plain_model.specs.Sound.{is_definition, is_sound}
use Rattle.plain_model.specs.Statements.{shape_over, data_over}
use Rattle.plain_model.specs.Tables.{Table, Change, rows_of}
use Rattle.row_fmt.specs.Rows.{FitsColumns, IsRowOf}
use Rattle.row_types.specs.Puts.{Puts}

-- a table whose columns are a good definition and hold its rows
pub record IsFitting (t : Table) : Type 0 where
  pub definition : is_definition t.cols ≡ true
  pub rows : All (FitsColumns t.cols) (rows_of t)

-- each row that is put fits these columns
abbrev pub PutsFit : List Column → List Change → Type 0
PutsFit cols changes = Puts (FitsColumns cols) changes

-- what a sound statement that suits its table puts fits the table's columns
abbrev pub PutsWhatFits : Type 0
PutsWhatFits = (stmt : Stmt) (t : Table) → is_sound stmt ≡ true → IsFitting t → shape_over stmt (Some t) ≡ None → PutsFit t.cols (data_over stmt t).0

-- what it puts is a row that a program can hold, where the table's rows are
abbrev pub PutsWhatIsHeld : Type 0
PutsWhatIsHeld = (stmt : Stmt) (t : Table) → is_sound stmt ≡ true → IsFitting t → All (IsRowOf t.cols) (rows_of t) → shape_over stmt (Some t) ≡ None → Puts (IsRowOf t.cols) (data_over stmt t).0
