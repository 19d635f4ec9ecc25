-- The type that a column has, by the one that is written.
use Rattle.std.specs.Prelude.{ℕ, ℤ, pos, negsuc, nat_le, Bool, true, false, ◌&&◌}
use Rattle.page_base.specs.declared.column.ColType.{ColType}
use Rattle.page_base.specs.declared.column.ColType.TheVariants as types
use Rattle.table_def.specs.declared.parts.WrittenType.{WrittenType}
use Rattle.table_def.specs.declared.parts.WrittenType.TheVariants.{Int, Bigint, Varchar}

-- a VARCHAR has room for 1 to 8,000 bytes
abbrev pub is_length : ℤ → Bool
is_length (pos n) = nat_le 1 n && nat_le n 8000
is_length (negsuc n) = false

-- the type has a length that it may have, if it has one
abbrev pub has_length : WrittenType → Bool
has_length Int = true
has_length Bigint = true
has_length (Varchar max) = is_length max

-- the number, 0 where it is below 0, which is no length
abbrev pub number_in : ℤ → ℕ
number_in (pos n) = n
number_in (negsuc n) = 0

-- the type that is written
abbrev pub kind_of : WrittenType → ColType
kind_of Int = types.Int
kind_of Bigint = types.Big
kind_of (Varchar max) = types.Text (number_in max)
