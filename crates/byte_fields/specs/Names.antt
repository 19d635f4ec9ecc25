-- The test of a name in lower case.
use Rattle.std.specs.Prelude.{◌==◌, ◌&&◌, ℕ, Bool, not, nat_lt, nat_le, if◌then◌else◌, List, length, slice_index, Option, Some, None}
use Rattle.std.specs.List.{list_all}
use Rattle.std.specs.Char.{is_ascii_digit, to_ascii_lowercase}
use Rattle.page_base.specs.Name.{is_name_byte}

-- a letter, a digit or `_`, in lower case
abbrev pub is_low_byte : ℕ → Bool
is_low_byte b = is_name_byte b && to_ascii_lowercase b == b

-- 1 to 128 such bytes, the first no digit
abbrev pub is_low_name : List ℕ → Bool
is_low_name bytes = nat_lt 0 (length bytes) && nat_le (length bytes) 128 && not (is_ascii_digit (slice_index bytes 0)) && list_all is_low_byte bytes

-- the name that these bytes are as they stand
abbrev pub low_name : List ℕ → Option (List ℕ)
low_name bytes = if is_low_name bytes then Some bytes else None
