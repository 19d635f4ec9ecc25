-- Storing values in the columns of a row, and what refuses a row by itself.
use Rattle.std.specs.Prelude.{ℕ, nat_lt, Bool, true, false, not, ◌&&◌, ◌||◌, if◌then◌else◌, List, [], ◌∷◌, length, Option, Some, None}
use Rattle.std.specs.Option.{option_or}
use Rattle.page_base.specs.declared.column.Column.{Column}
use Rattle.page_base.specs.declared.column.ColType.{ColType}
use Rattle.page_base.specs.declared.column.ColType.TheVariants as types
use Rattle.page_base.specs.declared.value.Value.{Value}
use Rattle.page_base.specs.declared.value.Value.TheVariants.{Null, Int, Big, Text}
use Rattle.plain_model.specs.Messages.{first_that}
use Rattle.plain_model.specs.Numbers.{stored}
use Rattle.plain_model.specs.Sizes.{size_of_row, size_of_values}
use Rattle.plain_model.specs.Tables.{key_of}
use Rattle.page_base.specs.declared.limits.TheConstants.{MAX_ROW_BYTES, MAX_KEY_BYTES}
use Rattle.plain_model.specs.declared.reply.TheConstants.Message.{KEY_TOO_LONG, NULL_VALUE, ROW_TOO_LONG, TEXT_TOO_LONG}

-- a value as a column of this type keeps it; none is a number that INT doesn't hold
abbrev pub kept_as : ColType → Value → Option Value
kept_as types.Int (Int n) = stored false n
kept_as types.Int (Big n) = stored false n
kept_as types.Big (Int n) = stored true n
kept_as types.Big (Big n) = stored true n
kept_as _ value = Some value

abbrev pub is_null : Value → Bool
is_null Null = true
is_null _ = false

-- the value is NULL, and the column may not be
abbrev pub lacks : Column → Value → Bool
lacks column value = is_null value && not column.nullable

abbrev pub is_longer_than : ColType → Value → Bool
is_longer_than (types.Text max) (Text bytes) = nat_lt max (length bytes)
is_longer_than _ _ = false

-- the value is a text longer than the column
abbrev pub overflows : Column → Value → Bool
overflows column value = is_longer_than column.kind value

-- the test holds of some column and the value in it
abbrev pub some_cell : (Column → Value → Bool) → List Column → List Value → Bool
some_cell test [] row = false
some_cell test (column ∷ columns) [] = false
some_cell test (column ∷ columns) (value ∷ row) = test column value || some_cell test columns row

-- what refuses a row by itself: a NULL where none may stand, a text longer than its column, more than 8,060 bytes
abbrev pub row_fault : List Column → List Value → Option ℕ
row_fault cols row = first_that ((some_cell lacks cols row, NULL_VALUE) ∷ (some_cell overflows cols row, TEXT_TOO_LONG) ∷ (nat_lt MAX_ROW_BYTES (size_of_row row), ROW_TOO_LONG) ∷ [])

-- what refuses a key by itself: values of too many bytes
abbrev pub key_fault : List Value → Option ℕ
key_fault key = if nat_lt MAX_KEY_BYTES (size_of_values key) then Some KEY_TOO_LONG else None

-- what refuses a new row by itself: first as a row, then by its key
abbrev pub new_row_fault : List Column → List Value → Option ℕ
new_row_fault cols row = option_or (row_fault cols row) (key_fault (key_of cols row))
