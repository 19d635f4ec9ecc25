-- How many bytes a row and its key take in a page.
use Rattle.std.specs.Prelude.{ℕ, ◌+◌, ◌/◌, List, [], ◌∷◌, length}
use Rattle.page_base.specs.declared.value.Value.{Value}
use Rattle.page_base.specs.declared.value.Value.TheVariants.{Null, Int, Big, Text}

-- INT takes 4 bytes and BIGINT 8, a text 2 beside its own, NULL none
abbrev pub size_of_value : Value → ℕ
size_of_value Null = 0
size_of_value (Int n) = 4
size_of_value (Big n) = 8
size_of_value (Text bytes) = 2 + length bytes

-- values take their bytes one after the other
abbrev pub size_of_values : List Value → ℕ
size_of_values [] = 0
size_of_values (value ∷ values) = size_of_value value + size_of_values values

-- a row takes one byte for each eight values begun, which says which are NULL, and the bytes of its values
abbrev pub size_of_row : List Value → ℕ
size_of_row row = (length row + 7) / 8 + size_of_values row
