-- Numbers in four bytes, the lowest byte first.
use Rattle.std.specs.Prelude.{ℕ, List}
use Rattle.byteorder.specs.Endian.{little_bytes, little_number}

-- a number in four bytes
unfoldable pub number : ℕ → List ℕ
number n = little_bytes 4 n

-- the number that the first four bytes are
unfoldable pub number_in : List ℕ → ℕ
number_in bytes = little_number 4 bytes
