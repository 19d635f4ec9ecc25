-- The number that a word spells, in the one way in which it is written.
use Rattle.std.specs.Prelude.{ℕ, ◌^◌, ◌==◌, ◌&&◌, ◌||◌, not, nat_le, nat_lt, if◌then◌else◌, Bool, false, List, [], ◌∷◌, Option, Some, None, ℤ, pos, neg_ℤ, codes}
use Rattle.std.specs.Option.{option_map}
use Rattle.std.specs.List.{list_all}
use Rattle.std.specs.Char.{is_ascii_digit}
use Rattle.std.specs.Str.{bytes_eq}
use Rattle.std.specs.Str.Parse.{digits_value}

-- digits, of which the first isn't 0
abbrev pub is_counting : List ℕ → Bool
is_counting [] = false
is_counting (d ∷ ds) = not (d == 48) && list_all is_ascii_digit (d ∷ ds)

-- such digits, or a 0 alone
abbrev pub is_numeral : List ℕ → Bool
is_numeral word = is_counting word || bytes_eq word (codes "0")

-- the number below a limit that a word spells
abbrev pub number_on : ℕ → List ℕ → Option ℕ
number_on limit word = if is_numeral word && nat_lt (digits_value 10 word) limit then Some (digits_value 10 word) else None

-- the number below 0 whose digits stand behind a minus
abbrev pub negative_on : List ℕ → Option ℤ
negative_on digits = if is_counting digits && nat_le (digits_value 10 digits) (2 ^ 63) then Some (neg_ℤ (pos (digits_value 10 digits))) else None

-- the number with or without a minus that 64 bits hold
abbrev pub signed_on : List ℕ → Option ℤ
signed_on [] = None
signed_on (b ∷ bs) = if b == 45 then negative_on bs else option_map pos (number_on (2 ^ 63) (b ∷ bs))
