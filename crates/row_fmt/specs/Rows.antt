-- Which rows some columns may hold, and the bytes of a row: its fields, one after the other.
use Rattle.std.specs.Prelude.{◌≡◌, ⊤, ℕ, zero, suc, ◌+◌, ◌*◌, ◌/◌, ◌^◌, ◌<◌, ◌≤◌, ◌&&◌, Bool, true, false, IsTrue, nat_le, if◌then◌else◌, List, [], ◌∷◌, ◌++◌, length, take, drop, map, All, FitsSigned}
use Rattle.std.specs.Int.{w32, w64, cast_unsigned}
use Rattle.std.specs.List.{concat, flat_map, AllByRecursion}
use Rattle.page_base.specs.declared.column.Column.{Column}
use Rattle.page_base.specs.declared.column.ColType.{ColType}
use Rattle.page_base.specs.declared.column.ColType.TheVariants as kinds
use Rattle.page_base.specs.declared.value.Value.{Value}
use Rattle.page_base.specs.declared.value.Value.TheVariants.{Null, Int, Big, Text}
use Rattle.byte_fields.specs.Fields.{sized}
use Rattle.byte_fields.specs.Numbers.{number}

-- a byte from the space to `~`
abbrev pub is_text_byte : ℕ → Bool
is_text_byte b = nat_le 32 b && nat_le b 126

-- a text that a column of at most so many bytes may hold
pub record IsText (max : ℕ) (bytes : List ℕ) : Type 0 where
  pub short : length bytes ≤ max
  pub each : All (λ b. is_text_byte b ≡ true) bytes

-- a value of this type, and not NULL
abbrev pub IsOfKind : ColType → Value → Type 0
IsOfKind kind Null = ⊥
IsOfKind kinds.Int (Int n) = ⊤
IsOfKind kinds.Big (Int n) = ⊥
IsOfKind (kinds.Text max) (Int n) = ⊥
IsOfKind kinds.Int (Big n) = ⊥
IsOfKind kinds.Big (Big n) = ⊤
IsOfKind (kinds.Text max) (Big n) = ⊥
IsOfKind kinds.Int (Text bytes) = ⊥
IsOfKind kinds.Big (Text bytes) = ⊥
IsOfKind (kinds.Text max) (Text bytes) = IsText max bytes

-- what may stand in a column: a value of its type, and NULL where the column may be NULL
abbrev pub MayStand : Column → Value → Type 0
MayStand column Null = IsTrue column.nullable
MayStand column (Int n) = IsOfKind column.kind (Int n)
MayStand column (Big n) = IsOfKind column.kind (Big n)
MayStand column (Text bytes) = IsOfKind column.kind (Text bytes)

-- a row that these columns may hold: a value for each
abbrev pub FitsColumns : List Column → List Value → Type 0
FitsColumns [] [] = ⊤
FitsColumns [] (value ∷ row) = ⊥
FitsColumns (column ∷ columns) [] = ⊥
FitsColumns (column ∷ columns) (value ∷ row) = MayStand column value × FitsColumns columns row

-- a value as a program can hold it: an INT has 32 bits, a BIGINT 64, and the length of a text 16
abbrev pub InRange : Value → Type 0
InRange Null = ⊤
InRange (Int n) = FitsSigned w32 n
InRange (Big n) = FitsSigned w64 n
InRange (Text bytes) = length bytes < 2 ^ 16

-- a row of these columns, of values that a program can hold
pub record IsRowOf (columns : List Column) (row : List Value) : Type 0 where
  pub fits : FitsColumns columns row
  pub range : AllByRecursion InRange row

-- whether a value is NULL
abbrev pub is_null : Value → Bool
is_null Null = true
is_null (Int n) = false
is_null (Big n) = false
is_null (Text bytes) = false

-- bits as a number, the first the lowest
abbrev pub bits_number : List Bool → ℕ
bits_number [] = 0
bits_number (b ∷ bits) = (if b then 1 else 0) + 2 * bits_number bits

-- so many bytes, each a field: eight bits to a byte
unfoldable pub bit_fields : ℕ → List Bool → List (List ℕ)
bit_fields zero bits = []
bit_fields (suc n) bits = (bits_number (take 8 bits) ∷ []) ∷ bit_fields n (drop 8 bits)

-- one byte for each eight columns begun
abbrev pub null_bytes : ℕ → ℕ
null_bytes columns = (columns + 7) / 8

-- the field of a value: INT in four bytes and BIGINT in eight, both two's complement, a text behind its length; none of NULL
abbrev pub value_field : Value → List (List ℕ)
value_field Null = []
value_field (Int n) = number 4 (cast_unsigned w32 n) ∷ []
value_field (Big n) = number 8 (cast_unsigned w64 n) ∷ []
value_field (Text bytes) = sized bytes ∷ []

-- which values are NULL, and then the values that aren't
abbrev pub row_fields : List Value → List (List ℕ)
row_fields row = bit_fields (null_bytes (length row)) (map is_null row) ++ flat_map value_field row

-- the fields, one after the other
unfoldable pub row_bytes : List Value → List ℕ
row_bytes row = concat (row_fields row)

-- the bytes are this row of these columns
pub record IsRow (columns : List Column) (bytes : List ℕ) (row : List Value) : Type 0 where
  pub of : IsRowOf columns row
  pub spelled : bytes ≡ row_bytes row
