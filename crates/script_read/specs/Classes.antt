-- What a line of a script is.
use Rattle.std.specs.Prelude.{ℕ, ◌≡◌, nat_eq, nat_le, Bool, false, ◌==◌, ◌&&◌, ◌||◌, List, [], ◌∷◌, ◌++◌, drop, codes}
use Rattle.std.specs.List.{list_all, prefix_len, starts_with}
use Rattle.std.specs.Str.{bytes_eq}
use Rattle.std.specs.Char.{to_ascii_lowercase}
use Rattle.script_read.specs.Decimal.{is_decimal, IsDecimal}

-- a tab, or a printable byte
abbrev pub is_text_byte : ℕ → Bool
is_text_byte b = b == 9 || (nat_le 32 b && nat_le b 126)

-- a line may have these bytes alone
abbrev pub is_text : List ℕ → Bool
is_text line = list_all is_text_byte line

-- a space or a tab
abbrev pub is_blank_byte : ℕ → Bool
is_blank_byte b = b == 32 || b == 9

-- only spaces and tabs
abbrev pub is_blank : List ℕ → Bool
is_blank line = list_all is_blank_byte line

-- two hyphens in front
abbrev pub is_comment : List ℕ → Bool
is_comment line = starts_with nat_eq line (codes "--")

-- what may stand before the first session
abbrev pub is_skipped : List ℕ → Bool
is_skipped line = is_blank line || is_comment line

abbrev pub begins_with_colon : List ℕ → Bool
begins_with_colon [] = false
begins_with_colon (b ∷ bs) = b == 58

-- the letters `go` in any case, and blanks behind them
abbrev pub goes : List ℕ → Bool
goes [] = false
goes (g ∷ []) = false
goes (g ∷ o ∷ rest) = (to_ascii_lowercase g == 103 && to_ascii_lowercase o == 111) && list_all is_blank_byte rest

-- `GO` in any case, with blanks around it
abbrev pub is_go : List ℕ → Bool
is_go line = goes (drop (prefix_len is_blank_byte line) line)

-- a line that ends a batch
abbrev pub ends_batch : List ℕ → Bool
ends_batch line = begins_with_colon line || is_go line

-- what stands before a session's number
abbrev pub session_word : List ℕ
session_word = codes ":session "

-- the digits of a session's number
abbrev pub number_part : List ℕ → List ℕ
number_part line = drop 9 line

-- `:session`, a space, and a number
abbrev pub is_session : List ℕ → Bool
is_session line = starts_with nat_eq line session_word && is_decimal (number_part line)

-- the line that begins session n
pub record IsSession (n : ℕ) (line : List ℕ) : Type 0 where
  pub digits : List ℕ
  pub line_is : line ≡ session_word ++ digits
  pub number : IsDecimal digits n

abbrev pub is_schedule : List ℕ → Bool
is_schedule line = bytes_eq line (codes ":schedule")
