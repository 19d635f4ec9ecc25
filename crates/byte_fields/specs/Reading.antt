-- Reading one field from the front of bytes; a field that is wrong or cut short is left as it stands.
use Rattle.std.specs.Prelude.{◌+◌, ℕ, nat_lt, if◌then◌else◌, List, [], ◌∷◌, length, take, drop, slice_index, Option, Some, None, Ok, Err}
use Rattle.page_base.specs.declared.numbers.PageId.{PageId}
use Rattle.page_base.specs.Reading.{Read, ◌>>=◌}
use Rattle.byte_fields.specs.Numbers.{number_in}
use Rattle.byte_fields.specs.Names.{low_name}

-- one byte
unfoldable pub byte_at : List ℕ → Read ℕ
byte_at [] = Err []
byte_at (b ∷ rest) = Ok (b, rest)

-- a number in so many bytes
unfoldable pub number_at : ℕ → List ℕ → Read ℕ
number_at size bytes = if nat_lt (length bytes) size then Err bytes else Ok (number_in size bytes, drop size bytes)

-- the page whose address the first five bytes are
abbrev pub page_in : List ℕ → PageId
page_in bytes = record { file = slice_index bytes 0; page = number_in 4 (drop 1 bytes) }

-- which page
unfoldable pub address_at : List ℕ → Read PageId
address_at bytes = if nat_lt (length bytes) 5 then Err bytes else Ok (page_in bytes, drop 5 bytes)

-- so many bytes behind a length of some size
abbrev pub text_of : ℕ → ℕ → List ℕ → Read (List ℕ)
text_of size n bytes = if nat_lt (length bytes) (size + n) then Err bytes else Ok (take n (drop size bytes), drop n (drop size bytes))

-- a text with its length in two bytes in front
unfoldable pub sized_at : List ℕ → Read (List ℕ)
sized_at bytes = if nat_lt (length bytes) 2 then Err bytes else text_of 2 (number_in 2 bytes) bytes

-- a text with its length in one byte in front
unfoldable pub short_at : List ℕ → Read (List ℕ)
short_at [] = Err []
short_at (n ∷ rest) = text_of 1 n (n ∷ rest)

-- what a field tells, or none, where it is wrong
abbrev pub told : {Y : Type 0} → List ℕ → Option Y → List ℕ → Read Y
told bytes None rest = Err bytes
told bytes (Some y) rest = Ok (y, rest)

-- a field whose value tells another one, or is wrong
unfoldable pub through : {X Y : Type 0} → (X → Option Y) → (List ℕ → Read X) → List ℕ → Read Y
through f read bytes = read bytes >>= λ x. told bytes (f x.0) x.1

-- a name with its length in one byte in front
abbrev pub name_at : List ℕ → Read (List ℕ)
name_at = through low_name short_at
