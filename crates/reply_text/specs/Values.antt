-- The row that a line tells.
use Rattle.std.specs.Prelude.{ℕ, ◌==◌, ◌&&◌, false, if◌then◌else◌, List, [], ◌∷◌, Option, Some, None, option_and_then, codes}
use Rattle.std.specs.Option.{option_map}
use Rattle.std.specs.Str.{bytes_eq}
use Rattle.page_base.specs.declared.value.Value.{Value}
use Rattle.page_base.specs.declared.value.Value.TheVariants.{Null, Big, Text}
use Rattle.reply_text.specs.Told.{is_printable}
use Rattle.reply_text.specs.Numbers.{signed_on}
use Rattle.reply_text.specs.Pieces.{pieces, behind, before}

-- an element in front of a list, if that is there
abbrev pub in_front : {X : Type 0} → X → Option (List X) → Option (List X)
in_front x more = option_map (λ xs. x ∷ xs) more

-- the text of which this stands behind the opening quote: a quote in it is doubled
abbrev pub text_on : List ℕ → Option (List ℕ)
text_on [] = None
text_on (b ∷ []) = if b == 39 then Some [] else None
text_on (b ∷ c ∷ bs) = if b == 39 then (if c == 39 then in_front 39 (text_on bs) else None) else (if is_printable b then in_front b (text_on (c ∷ bs)) else None)

-- the text where no further byte of it stands behind the opening quote
abbrev pub text_end : List ℕ → Option (List ℕ)
text_end bytes = if bytes_eq bytes (codes "'") then Some [] else None

-- a value that begins with this byte and isn't NULL
abbrev pub shown_on : ℕ → List ℕ → Option Value
shown_on b bs = if b == 39 then option_map Text (text_on bs) else option_map Big (signed_on (b ∷ bs))

-- the value that a piece of a row tells
abbrev pub value_on : List ℕ → Option Value
value_on [] = None
value_on (b ∷ bs) = if bytes_eq (b ∷ bs) (codes "NULL") then Some Null else shown_on b bs

-- the values that pieces tell
abbrev pub values_on : List (List ℕ) → Option (List Value)
values_on [] = Some []
values_on (piece ∷ more) = option_and_then (λ (v : Value). in_front v (values_on more)) (value_on piece)

-- the row that a line with its end tells
abbrev pub row_on : List ℕ → Option (List Value)
row_on line = option_and_then (λ (bytes : List ℕ). values_on (pieces 44 false bytes)) (option_and_then (before (codes ")\n")) (behind (codes " (") line))
