-- The columns that a definition gives its table.
use Rattle.std.specs.Prelude.{ℕ, not, nat_le, ◌||◌, List, [], map, if◌then◌else◌}
use Rattle.page_base.specs.declared.column.Column.{Column}
use Rattle.table_def.specs.declared.parts.ColumnPart.{ColumnPart}
use Rattle.table_def.specs.declared.parts.TablePart.{TablePart}
use Rattle.table_def.specs.Parts.{written}
use Rattle.table_def.specs.Options.{says_not_null}
use Rattle.table_def.specs.Kinds.{kind_of}
use Rattle.table_def.specs.Keys.{key_of, place_in}
use Rattle.table_def.specs.Faults.{is_bad}

-- a column beside a key: it has its written type and its place in the key, and it may be NULL unless it is declared
-- NOT NULL or is in the key
abbrev pub column_of : List (List ℕ) → ColumnPart → Column
column_of key c =
    let place = place_in key c.name in
    record { name = c.name; kind = kind_of c.kind; nullable = not (says_not_null c || nat_le 1 place); key = place }

-- the columns that the parts define, in order; none where the definition is a bad one
abbrev pub columns_of : List TablePart → List Column
columns_of parts = if is_bad parts then [] else map (column_of (key_of parts)) (written parts)
