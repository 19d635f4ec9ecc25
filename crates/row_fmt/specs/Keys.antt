-- The key of a row: the values of its key columns in key order, spelled without the bytes for NULLs.
use Rattle.std.specs.Prelude.{◌≡◌, ◌≢◌, ◌==◌, false, ℕ, nat_le, if◌then◌else◌, List, [], ◌∷◌, map}
use Rattle.std.specs.List.{concat, flat_map, AllByRecursion}
use Rattle.page_base.specs.declared.column.Column.{Column}
use Rattle.page_base.specs.declared.value.Value.{Value}
use Rattle.row_fmt.specs.Rows.{value_field}

-- something of a key column, behind the column's place in the key
abbrev pub Part : Type 0 → Type 0
Part X = ℕ × X

-- a part among others in key order, before the first that doesn't stand before it
abbrev pub placed : {X : Type 0} → Part X → List (Part X) → List (Part X)
placed part [] = part ∷ []
placed part (first ∷ parts) = if nat_le part.0 first.0 then part ∷ first ∷ parts else first ∷ placed part parts

-- the key columns, in key order; a column of place 0 is none
abbrev pub column_parts : List Column → List (Part Column)
column_parts [] = []
column_parts (column ∷ columns) = if column.key == 0 then column_parts columns else placed (column.key, column) (column_parts columns)

-- their values
abbrev pub key_parts : List Column → List Value → List (Part Value)
key_parts [] row = []
key_parts (column ∷ columns) [] = []
key_parts (column ∷ columns) (value ∷ row) = if column.key == 0 then key_parts columns row else placed (column.key, value) (key_parts columns row)

-- the same without the places
abbrev pub key_values : List Column → List Value → List Value
key_values columns row = map (λ part. part.1) (key_parts columns row)

-- the bytes of these values
unfoldable pub key_bytes : List Column → List Value → List ℕ
key_bytes columns row = concat (flat_map value_field (key_values columns row))

-- no key column may be NULL
abbrev pub KeysStand : List Column → Type 0
KeysStand columns = AllByRecursion (λ column. column.key ≢ 0 → column.nullable ≡ false) columns
