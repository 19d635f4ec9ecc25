-- The row that the bytes of a slot are.
use Rattle.std.specs.Prelude.{ℕ, List, Option}
use Rattle.std.specs.List.{AllByRecursion}
use Rattle.page_base.specs.declared.column.Column.{Column}
use Rattle.page_base.specs.declared.value.Value.{Value}
use Rattle.row_fmt.specs.Reading.{row_at}
use Rattle.row_fmt.specs.Rows.{FitsColumns}
use Rattle.plain_model.specs.Tables.{Table, rows_of}
use Rattle.table_pages.specs.Headers.{whole}

-- the row of these columns that bytes are, up to the last byte
unfoldable pub row_of : List Column → List ℕ → Option (List Value)
row_of cols bytes = whole (row_at cols bytes)

-- a table's columns may hold each of its rows
abbrev pub HoldsFitting : Table → Type 0
HoldsFitting t = AllByRecursion (FitsColumns t.cols) (rows_of t)
