-- The bytes of slot 0 of a table's page: the table's name and its columns.
use Rattle.std.specs.Prelude.{ℕ, ◌+◌, ◌*◌, ◌/◌, ◌%◌, ◌==◌, ◌&&◌, not, nat_lt, nat_le, Bool, if◌then◌else◌, List, [], ◌∷◌, ◌++◌, length, take, drop, slice_index, Option, Some, None, Ok, Err}
use Rattle.std.specs.List.{list_all, flat_map}
use Rattle.std.specs.Char.{is_ascii_digit, to_ascii_lowercase}
use Rattle.page_base.specs.declared.column.Column.{Column}
use Rattle.page_base.specs.declared.column.ColType.{ColType}
use Rattle.page_base.specs.declared.column.ColType.TheVariants as types
use Rattle.page_base.specs.Name.{is_name_byte}
use Rattle.page_base.specs.Reading.{Read, ◌>>=◌, times_at}
use Rattle.plain_model.specs.Sound.{is_definition}
use Rattle.table_pages.specs.Numbers.{number, number_in}

-- a name: its length in one byte, and its bytes
abbrev pub sized : List ℕ → List ℕ
sized name = length name ∷ name

-- the number of a column's type
abbrev pub type_number : ColType → ℕ
type_number types.Int = 1
type_number types.Big = 2
type_number (types.Text max) = 3

-- the most bytes of a VARCHAR, 0 for a number
abbrev pub type_length : ColType → ℕ
type_length types.Int = 0
type_length types.Big = 0
type_length (types.Text max) = max

-- twice the place in the key, and one more where the column may be NULL
abbrev pub key_number : ℕ → Bool → ℕ
key_number key nullable = 2 * key + (if nullable then 1 else 0)

-- a column's name and its three numbers
abbrev pub column_bytes : Column → List ℕ
column_bytes c = sized c.name ++ (number (type_number c.kind) ++ (number (type_length c.kind) ++ number (key_number c.key c.nullable)))

-- the table's name, the number of its columns, and each column
unfoldable pub header : List ℕ → List Column → List ℕ
header name cols = sized name ++ length cols ∷ flat_map column_bytes cols

-- a letter, a digit or `_`, in lower case
abbrev pub is_low_byte : ℕ → Bool
is_low_byte b = is_name_byte b && to_ascii_lowercase b == b

-- 1 to 128 such bytes, the first no digit
abbrev pub is_low_name : List ℕ → Bool
is_low_name bytes = nat_lt 0 (length bytes) && nat_le (length bytes) 128 && not (is_ascii_digit (slice_index bytes 0)) && list_all is_low_byte bytes

-- the name that these bytes are as they stand
abbrev pub low_name : List ℕ → Option (List ℕ)
low_name bytes = if is_low_name bytes then Some bytes else None

-- what was made of the bytes that were read, if anything
abbrev pub given : {X : Type 0} → List ℕ → Option X → List ℕ → Read X
given bytes None rest = Err bytes
given bytes (Some x) rest = Ok (x, rest)

-- a byte
unfoldable pub byte_at : List ℕ → Read ℕ
byte_at [] = Err []
byte_at (b ∷ rest) = Ok (b, rest)

-- a name behind its length
unfoldable pub name_at : List ℕ → Read (List ℕ)
name_at [] = Err []
name_at (n ∷ rest) = if nat_lt (length rest) n then Err (n ∷ rest) else given (n ∷ rest) (low_name (take n rest)) (drop n rest)

-- a number in four bytes
unfoldable pub number_at : List ℕ → Read ℕ
number_at bytes = if nat_lt (length bytes) 4 then Err bytes else Ok (number_in bytes, drop 4 bytes)

-- the type with this number and this length
abbrev pub type_of : ℕ → ℕ → Option ColType
type_of kind max =
    if kind == 1 && max == 0 then Some types.Int
    else (if kind == 2 && max == 0 then Some types.Big
    else (if kind == 3 && (nat_le 1 max && nat_le max 8000) then Some (types.Text max) else None))

-- a type: its number and its length
unfoldable pub type_at : List ℕ → Read ColType
type_at bytes = do
  kind ← number_at bytes
  max ← number_at kind.1
  given bytes (type_of kind.0 max.0) max.1

-- the place in the key, of which a column keeps one byte, and whether the column may be NULL
abbrev pub key_of_number : ℕ → Option (ℕ × Bool)
key_of_number n = if nat_lt n 512 then Some (n / 2, n % 2 == 1) else None

-- both in one number
unfoldable pub key_at : List ℕ → Read (ℕ × Bool)
key_at bytes = do
  n ← number_at bytes
  given bytes (key_of_number n.0) n.1

-- a column
unfoldable pub column_at : List ℕ → Read Column
column_at bytes = do
  name ← name_at bytes
  kind ← type_at name.1
  key ← key_at kind.1
  Ok (record { name = name.0; kind = kind.0; nullable = key.0.1; key = key.0.0 }, key.1)

-- so many columns, the number first
unfoldable pub columns_at : List ℕ → Read (List Column)
columns_at bytes = do
  count ← byte_at bytes
  times_at column_at count.0 count.1

-- a table's name and its columns
unfoldable pub header_at : List ℕ → Read (List ℕ × List Column)
header_at bytes = do
  name ← name_at bytes
  cols ← columns_at name.1
  Ok ((name.0, cols.0), cols.1)

-- what was read, if nothing follows
abbrev pub whole : {X : Type 0} → Read X → Option X
whole (Ok (x, [])) = Some x
whole _ = None

-- the name and the columns, where they are a good definition
abbrev pub defined : Option (List ℕ × List Column) → Option (List ℕ × List Column)
defined None = None
defined (Some h) = if is_definition h.1 then Some h else None

-- the table's name and its columns that bytes are; only a good definition of columns is one
unfoldable pub header_of : List ℕ → Option (List ℕ × List Column)
header_of bytes = defined (whole (header_at bytes))
