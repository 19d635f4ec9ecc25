-- Reading a row field by field, up to the first wrong one.
use Rattle.std.specs.Prelude.{ℕ, zero, suc, ◌/◌, ◌%◌, ◌^◌, ◌==◌, ◌&&◌, ◌||◌, Bool, true, false, nat_le, if◌then◌else◌, List, [], ◌∷◌, ◌++◌, length, take, drop, slice_index, Option, Some, None, Ok, Err}
use Rattle.std.specs.Int.{w32, w64, cast_signed}
use Rattle.std.specs.List.{list_all}
use Rattle.page_base.specs.declared.column.Column.{Column}
use Rattle.page_base.specs.declared.column.ColType.{ColType}
use Rattle.page_base.specs.declared.column.ColType.TheVariants as kinds
use Rattle.page_base.specs.declared.value.Value.{Value}
use Rattle.page_base.specs.declared.value.Value.TheVariants.{Null, Int, Big, Text}
use Rattle.page_base.specs.Reading.{Read, ◌>>=◌}
use Rattle.byte_fields.specs.Reading.{number_at, sized_at, through}
use Rattle.row_fmt.specs.Rows.{is_text_byte, null_bytes}

-- each bit that is set is that of a column that may be NULL
abbrev pub may_be_null : List Column → ℕ → Bool
may_be_null [] b = b == 0
may_be_null (column ∷ columns) b = (column.nullable || b % 2 == 0) && may_be_null columns (b / 2)

-- so many bits of a number, the lowest first
abbrev pub bits_of : ℕ → ℕ → List Bool
bits_of zero b = []
bits_of (suc n) b = (b % 2 == 1) ∷ bits_of n (b / 2)

-- which of eight columns, or fewer, are NULL
unfoldable pub group_at : List Column → List ℕ → Read (List Bool)
group_at columns [] = Err []
group_at columns (b ∷ rest) = if may_be_null columns b then Ok (bits_of (length columns) b, rest) else Err (b ∷ rest)

-- which columns are NULL, from so many bytes
unfoldable pub nulls_at : ℕ → List Column → List ℕ → Read (List Bool)
nulls_at zero columns bytes = Ok ([], bytes)
nulls_at (suc n) columns bytes = group_at (take 8 columns) bytes >>= λ group. nulls_at n (drop 8 columns) group.1 >>= λ later. Ok (group.0 ++ later.0, later.1)

-- the bits of so many bytes, eight to a byte, one for each column
unfoldable pub null_bits : ℕ → List Column → List ℕ → List Bool
null_bits zero columns bytes = []
null_bits (suc n) columns [] = []
null_bits (suc n) columns (b ∷ bytes) = bits_of (length (take 8 columns)) b ++ null_bits n (drop 8 columns) bytes

-- the bit of column i
abbrev pub null_bit : List ℕ → ℕ → Bool
null_bit bytes i = slice_index bytes (i / 8) / 2 ^ (i % 8) % 2 == 1

-- an INT, and a BIGINT
abbrev pub int_at : List ℕ → Read Value
int_at = through (λ n. Some (Int (cast_signed w32 n))) (number_at 4)

abbrev pub big_at : List ℕ → Read Value
big_at = through (λ n. Some (Big (cast_signed w64 n))) (number_at 8)

-- a text of at most so many bytes
abbrev pub is_text : ℕ → List ℕ → Bool
is_text max text = nat_le (length text) max && list_all is_text_byte text

-- the value that such a text is
abbrev pub text_value : ℕ → List ℕ → Option Value
text_value max text = if is_text max text then Some (Text text) else None

abbrev pub text_at : ℕ → List ℕ → Read Value
text_at max = through (text_value max) sized_at

-- a value that isn't NULL
abbrev pub value_at : ColType → List ℕ → Read Value
value_at kinds.Int bytes = int_at bytes
value_at kinds.Big bytes = big_at bytes
value_at (kinds.Text max) bytes = text_at max bytes

-- what stands in a column
abbrev pub cell_at : Bool → ColType → List ℕ → Read Value
cell_at true kind bytes = Ok (Null, bytes)
cell_at false kind bytes = value_at kind bytes

-- what stands in each column, of which these are NULL
unfoldable pub values_at : List Column → List Bool → List ℕ → Read (List Value)
values_at [] nulls bytes = Ok ([], bytes)
values_at (column ∷ columns) [] bytes = Ok ([], bytes)
values_at (column ∷ columns) (null ∷ nulls) bytes = cell_at null column.kind bytes >>= λ value. values_at columns nulls value.1 >>= λ values. Ok (value.0 ∷ values.0, values.1)

-- a row
unfoldable pub row_at : List Column → List ℕ → Read (List Value)
row_at columns bytes = nulls_at (null_bytes (length columns)) columns bytes >>= λ nulls. values_at columns nulls.0 nulls.1
