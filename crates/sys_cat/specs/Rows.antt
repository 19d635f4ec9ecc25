-- Table 0: its columns and its root, and its rows that tell of one table: one for the table, and one for each column.
use Rattle.std.specs.Prelude.{ℕ, false, pos, ◌+◌, ◌*◌, if◌then◌else◌, List, [], ◌∷◌}
use Rattle.page_base.specs.declared.column.Column.{Column}
use Rattle.page_base.specs.declared.column.ColType.{ColType}
use Rattle.page_base.specs.declared.column.ColType.TheVariants as types
use Rattle.page_base.specs.declared.numbers.PageId.{PageId}
use Rattle.page_base.specs.declared.value.Value.{Value}
use Rattle.page_base.specs.declared.value.Value.TheVariants.{Int, Text}
use Rattle.sys_cat.specs.declared.desc.TableDesc.{TableDesc}

-- page 1 of file 0
abbrev pub zero_root : PageId
zero_root = record { file = 0; page = 1 }

-- a column that may not be NULL
abbrev pub column : List ℕ → ColType → ℕ → Column
column name kind key = record { name = name; kind = kind; nullable = false; key = key }

-- name and ord, which are the key, text, a, b and c
unfoldable pub table_0 : List Column
table_0 = column (110 ∷ 97 ∷ 109 ∷ 101 ∷ []) (types.Text 128) 1 ∷ column (111 ∷ 114 ∷ 100 ∷ []) types.Int 2 ∷ column (116 ∷ 101 ∷ 120 ∷ 116 ∷ []) (types.Text 128) 0
    ∷ column (97 ∷ []) types.Int 0 ∷ column (98 ∷ []) types.Int 0 ∷ column (99 ∷ []) types.Int 0 ∷ []

-- the number of a column's type
abbrev pub type_number : ColType → ℕ
type_number types.Int = 1
type_number types.Big = 2
type_number (types.Text max) = 3

-- the most bytes of a VARCHAR, 0 for a number
abbrev pub type_length : ColType → ℕ
type_length types.Int = 0
type_length types.Big = 0
type_length (types.Text max) = max

-- twice the place in the key, and one more where the column may be NULL
abbrev pub key_number : Column → ℕ
key_number c = 2 * c.key + (if c.nullable then 1 else 0)

-- a row: a table's name, an ordinal, a text and three numbers
abbrev pub row_of : List ℕ → ℕ → List ℕ → ℕ → ℕ → ℕ → List Value
row_of name ord text a b c = Text name ∷ Int (pos ord) ∷ Text text ∷ Int (pos a) ∷ Int (pos b) ∷ Int (pos c) ∷ []

-- the table's row: its number, and the file and page of its root
abbrev pub table_row : TableDesc → List Value
table_row d = row_of d.name 0 [] d.number.0 d.root.file d.root.page

-- a column's row: its name, its type and its length, and its place in the key
abbrev pub column_row : List ℕ → ℕ → Column → List Value
column_row name ord c = row_of name ord c.name (type_number c.kind) (type_length c.kind) (key_number c)

-- the rows of columns, the first of this ordinal
abbrev pub column_rows : List ℕ → ℕ → List Column → List (List Value)
column_rows name ord [] = []
column_rows name ord (c ∷ cs) = column_row name ord c ∷ column_rows name (ord + 1) cs

-- all rows of a table
abbrev pub rows_of : TableDesc → List (List Value)
rows_of d = table_row d ∷ column_rows d.name 1 d.cols
