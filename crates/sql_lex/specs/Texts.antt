-- How a text stands between its quotes.
use Rattle.std.specs.Prelude.{ℕ, ◌+◌, Bool, true, false, ◌==◌, ◌&&◌, nat_le, if◌then◌else◌, List, [], ◌∷◌, ◌++◌, length, slice_index, not, Option, Some, None}
use Rattle.std.specs.List.{list_all}
use Rattle.std.specs.Char.{is_ascii_digit}
use Rattle.page_base.specs.Name.{is_name_byte}
use Rattle.page_base.specs.FileName.{is_file_name_byte}

-- a single quote
abbrev pub is_quote : ℕ → Bool
is_quote b = b == 39

-- a byte that a text may have
abbrev pub is_printable : ℕ → Bool
is_printable b = nat_le 32 b && nat_le b 126

-- a text with its quotes doubled
abbrev pub doubled : List ℕ → List ℕ
doubled [] = []
doubled (b ∷ bs) = if is_quote b then b ∷ b ∷ doubled bs else b ∷ doubled bs

-- a text in quotes
abbrev pub quoted : List ℕ → List ℕ
quoted text = 39 ∷ (doubled text ++ 39 ∷ [])

-- the bytes without every second quote, the first one being the first or the second
abbrev pub undoubled_from : Bool → List ℕ → List ℕ
undoubled_from second [] = []
undoubled_from true (b ∷ bs) = b ∷ undoubled_from false bs
undoubled_from false (b ∷ bs) = if is_quote b then undoubled_from true bs else b ∷ undoubled_from false bs

-- the text whose quotes are doubled in these bytes
abbrev pub undoubled : List ℕ → List ℕ
undoubled bytes = undoubled_from false bytes

-- Where a text ends, so many bytes behind its opening quote: behind a quote that no other follows. None where it isn't closed.
-- The byte before these may be such a quote.
abbrev pub text_end : Bool → ℕ → List ℕ → Option ℕ
text_end quote n [] = if quote then Some n else None
text_end true n (b ∷ bs) = if is_quote b then text_end false (n + 1) bs else Some n
text_end false n (b ∷ bs) = if is_quote b then text_end true (n + 1) bs else (if is_printable b then text_end false (n + 1) bs else None)

-- whether these bytes are a name
abbrev pub is_name : List ℕ → Bool
is_name bytes = (nat_le 1 (length bytes) && nat_le (length bytes) 128) && (not (is_ascii_digit (slice_index bytes 0)) && list_all is_name_byte bytes)

-- whether these bytes are a name of a file
abbrev pub is_file_name : List ℕ → Bool
is_file_name bytes = (nat_le 1 (length bytes) && nat_le (length bytes) 128) && (not (slice_index bytes 0 == 46) && list_all is_file_name_byte bytes)
