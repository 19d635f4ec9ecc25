-- A key as bytes: a row of the key's columns without the bytes that tell which are NULL, since none is.
use Rattle.std.specs.Prelude.{false, ◌==◌, ◌++◌, Option, None, Some, Ok, Err, if◌then◌else◌, ℕ, min, List, [], ◌∷◌, length, replicate}
use Rattle.std.specs.List.{range_with_len, flat_map}
use Rattle.page_base.specs.declared.column.Column.{Column}
use Rattle.page_base.specs.declared.value.Value.{Value}
use Rattle.page_base.specs.Reading.{Read}
use Rattle.plain_model.specs.Tables.{key_size}
use Rattle.row_fmt.specs.Reading.{row_at}
use Rattle.row_fmt.specs.Rows.{null_bytes}

abbrev pub Key : Type 0
Key = List Value

-- the column of a place in the key, never NULL
abbrev pub key_column : List Column → ℕ → List Column
key_column [] place = []
key_column (c ∷ cs) place = if c.key == place then record c { nullable = false } ∷ [] else key_column cs place

-- the columns of the key, in the key's order; places have eight bits
abbrev pub key_columns : List Column → List Column
key_columns cols = flat_map (key_column cols) (range_with_len 1 (min (key_size cols) 255))

-- a value that was read to the end
abbrev pub whole : {X : Type 0} → Read X → Option X
whole (Ok (x, [])) = Some x
whole (Ok (x, (b ∷ bs))) = None
whole (Err rest) = None

-- the bytes for NULLs of a row of so many columns, none of which is NULL
abbrev pub no_nulls : ℕ → List ℕ
no_nulls columns = replicate (null_bytes columns) 0

-- the key of these columns that these bytes spell
abbrev pub key_at : List Column → List ℕ → Option Key
key_at keys bytes = whole (row_at keys (no_nulls (length keys) ++ bytes))
