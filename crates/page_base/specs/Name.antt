-- What is a name of a table, a column or a database.
use Rattle.std.specs.Prelude.{ℕ, Bool, true, false, ◌==◌, ◌||◌, ◌≡◌, ◌-◌, ◌<◌, ◌≤◌, List, ◌++◌, length, map, replicate, slice_index, All}
use Rattle.std.specs.Char.{is_ascii_alphanumeric, is_ascii_digit, to_ascii_lowercase}

-- a letter, a digit or `_`
abbrev pub is_name_byte : ℕ → Bool
is_name_byte b = is_ascii_alphanumeric b || (b == 95)

-- 1 to 128 such bytes, the first no digit
pub record IsName (bs : List ℕ) : Type 0 where
  pub some : 0 < length bs
  pub short : length bs ≤ 128
  pub starts : is_ascii_digit (slice_index bs 0) ≡ false
  pub each : All (λ c. is_name_byte c ≡ true) bs

-- a name in lower case, as it is kept
pub record IsLowName (bs : List ℕ) : Type 0 where
  pub name : IsName bs
  pub low : map to_ascii_lowercase bs ≡ bs

-- a name as it lies in its array: zeros stand behind it
abbrev pub padded : List ℕ → List ℕ
padded bs = bs ++ replicate (128 - length bs) 0
