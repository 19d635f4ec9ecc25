-- Rows that a statement puts, and their keys, are within the limits of a page.
use Rattle.std.specs.Prelude.{◌≡◌, ◌≤◌, true, List, length, Some, None, All}
use Rattle.page_base.specs.declared.column.Column.{Column}
use Rattle.page_base.specs.declared.limits.TheConstants.{MAX_ROW_BYTES, MAX_KEY_BYTES}
use Rattle.page_base.specs.declared.value.Value.{Value}
use Rattle.plain_model.specs.declared.stmt.Stmt.{Stmt}
use Rattle.plain_model.specs.Sound.{is_sound}
use Rattle.plain_model.specs.Statements.{shape_over, data_over}
use Rattle.plain_model.specs.Tables.{Table, Change, rows_of}
use Rattle.row_fmt.specs.Keys.{key_bytes}
use Rattle.row_fmt.specs.Rows.{row_bytes}
use Rattle.row_types.specs.Fitting.{IsFitting}
use Rattle.row_types.specs.Puts.{Puts}

-- a row of at most 8,060 bytes, and of at most 900 bytes of key
pub record KeepsLimits (cols : List Column) (row : List Value) : Type 0 where
  pub bytes : length (row_bytes row) ≤ MAX_ROW_BYTES
  pub key : length (key_bytes cols row) ≤ MAX_KEY_BYTES

-- each row that is put is within the limits
abbrev pub PutsSmall : List Column → List Change → Type 0
PutsSmall cols changes = Puts (KeepsLimits cols) changes

-- what a sound statement that suits its table puts is within the limits, where the table's rows are
abbrev pub PutsWhatIsSmall : Type 0
PutsWhatIsSmall = (stmt : Stmt) (t : Table) → is_sound stmt ≡ true → IsFitting t → All (KeepsLimits t.cols) (rows_of t) → shape_over stmt (Some t) ≡ None → PutsSmall t.cols (data_over stmt t).0
