-- What the text of histories promises of itself.
use Rattle.std.specs.Prelude.{ℕ, ◌≡◌, List}
use Rattle.plain_model.specs.declared.event.Event.{Event}
use Rattle.plain_model.specs.Printed.{printed}
use Rattle.reply_text.specs.Told.{AreTold}
use Rattle.reply_text.specs.Books.{IsBookOf, IsRefusedAt}

-- bytes are the text of one history
abbrev pub HasOneReading : List ℕ → Type 0
HasOneReading bytes = (a b : List Event) → IsBookOf bytes a → IsBookOf bytes b → a ≡ b

-- bytes are refused at one line
abbrev pub HasOneRefusal : List ℕ → Type 0
HasOneRefusal bytes = (a b : ℕ) → IsRefusedAt bytes a → IsRefusedAt bytes b → a ≡ b

-- the text of a history that can be told is that of it
abbrev pub IsReadBack : List Event → Type 0
IsReadBack book = AreTold book → IsBookOf (printed book) book
