-- What is a name of a file, and which part of a path is one.
use Rattle.std.specs.Prelude.{ℕ, Bool, true, false, ◌==◌, ◌||◌, ◌≡◌, ◌<◌, ◌≤◌, List, [], ◌∷◌, length, slice_index, All, if◌then◌else◌}
use Rattle.std.specs.List.{list_any}
use Rattle.page_base.specs.Name.{is_name_byte}

-- a letter, a digit, `_`, `-` or `.`
abbrev pub is_file_name_byte : ℕ → Bool
is_file_name_byte b = is_name_byte b || (b == 45 || b == 46)

-- 1 to 128 such bytes, the first no `.`
pub record IsFileName (bs : List ℕ) : Type 0 where
  pub some : 0 < length bs
  pub short : length bs ≤ 128
  pub starts : (slice_index bs 0 == 46) ≡ false
  pub each : All (λ c. is_file_name_byte c ≡ true) bs

-- `\` or `/`
abbrev pub is_separator : ℕ → Bool
is_separator b = b == 92 || b == 47

-- the part of a path after its last separator, the whole path where it has none
abbrev pub last_part : List ℕ → List ℕ
last_part [] = []
last_part (b ∷ path) = if list_any is_separator (b ∷ path) then last_part path else b ∷ path
