-- A row of table 0 as a name, an ordinal, a name or none, and three numbers.
use Rattle.std.specs.Prelude.{ℕ, ◌<◌, ◌^◌, Option, None, Some, List, []}
use Rattle.page_base.specs.declared.column.Column.{Column}
use Rattle.page_base.specs.declared.value.Value.{Value}
use Rattle.page_base.specs.Name.{IsLowName}
use Rattle.sys_cat.specs.declared.desc.TableDesc.{TableDesc}
use Rattle.sys_cat.specs.declared.line.Line.{Line}
use Rattle.sys_cat.specs.Rows.{row_of, type_number, type_length, key_number}

-- the bytes of a name, or no bytes
abbrev pub text_bytes : Option (List ℕ) → List ℕ
text_bytes None = []
text_bytes (Some name) = name

-- a name, or none
abbrev pub IsText : Option (List ℕ) → Type 0
IsText None = Unit {0}
IsText (Some name) = IsLowName name

-- a line as a row can hold it
pub record IsLine (l : Line) : Type 0 where
  pub name : IsLowName l.name
  pub text : IsText l.text
  pub ord : l.ord < 2 ^ 31
  pub a : l.a < 2 ^ 31
  pub b : l.b < 2 ^ 31
  pub c : l.c < 2 ^ 31

-- the row of a line
abbrev pub line_row : Line → List Value
line_row l = row_of l.name l.ord (text_bytes l.text) l.a l.b l.c

-- the line of a table's row
abbrev pub table_line : TableDesc → Line
table_line d = record { name = d.name; ord = 0; text = None; a = d.number.0; b = d.root.file; c = d.root.page }

-- the line of a column's row
abbrev pub column_line : List ℕ → ℕ → Column → Line
column_line name ord c = record { name = name; ord = ord; text = Some c.name; a = type_number c.kind; b = type_length c.kind; c = key_number c }
