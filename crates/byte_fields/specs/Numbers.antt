-- Numbers as bytes, the lowest byte first.
use Rattle.std.specs.Prelude.{ℕ, List}
use Rattle.byteorder.specs.Endian.{little_bytes, little_number}

-- a number in so many bytes
unfoldable pub number : ℕ → ℕ → List ℕ
number size n = little_bytes size n

-- the number that the first so many bytes are
unfoldable pub number_in : ℕ → List ℕ → ℕ
number_in size bytes = little_number size bytes
