-- The columns among the parts of a definition, and their names.
use Rattle.std.specs.Prelude.{ℕ, Bool, false, List, Option, Some, None, map}
use Rattle.std.specs.List.{filter_map, list_any}
use Rattle.std.specs.Str.{bytes_eq}
use Rattle.table_def.specs.declared.parts.ColumnPart.{ColumnPart}
use Rattle.table_def.specs.declared.parts.TablePart.{TablePart}
use Rattle.table_def.specs.declared.parts.TablePart.TheVariants.{Column, Key}

-- the column that a part defines, if it is one
abbrev pub column_in : TablePart → Option ColumnPart
column_in (Column column) = Some column
column_in (Key names) = None

-- the columns as they are written, in order
abbrev pub written : List TablePart → List ColumnPart
written parts = filter_map column_in parts

-- a test of columns, at a part; no other part passes
abbrev pub in_column : (ColumnPart → Bool) → TablePart → Bool
in_column p (Column column) = p column
in_column p (Key names) = false

-- the names of columns
abbrev pub names_in : List ColumnPart → List (List ℕ)
names_in columns = map (λ c. c.name) columns

-- the names of the columns that the parts define
abbrev pub names_of : List TablePart → List (List ℕ)
names_of parts = names_in (written parts)

-- a name is one of these
abbrev pub is_among : List (List ℕ) → List ℕ → Bool
is_among names name = list_any (bytes_eq name) names
