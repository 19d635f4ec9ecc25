-- What the program promises of its answer.
use Rattle.std.specs.Prelude.{ℕ, ◌≡◌, ◌<◌, ◌≤◌, ◌⊎◌, ◌++◌, Bool, IsTrue, List, [], ◌∷◌, length, codes, Option}
use Rattle.std.specs.Fmt.{decimal}
use Rattle.std.specs.Io.KnownBytes.{Consumes, IsAtEnd}
use Rattle.page_dev.specs.Faults.{Rose}
use Rattle.plain_model.specs.declared.stmt.Stmt.{Stmt}
use Rattle.plain_model.specs.declared.pick.Pick.{Pick}
use Rattle.plain_model.specs.declared.event.Event.{Event}
use Rattle.plain_model.specs.Journal.{Opening}
use Rattle.plain_model.specs.Legal.{Legal}
use Rattle.plain_model.specs.Complete.{Complete, AreKnown}
use Rattle.plain_model.specs.Order.{IsInOrder}
use Rattle.plain_model.specs.Printed.{printed}
use Rattle.early_engine.specs.Opened.{new_source}
use Rattle.script_read.specs.declared.refusal.Why.{Why}
use Rattle.script_read.specs.Words.{text_of}
use Rattle.script_read.specs.Script.{IsScript}
use Rattle.script_read.specs.Refusal.{IsRefusedAt}

-- the words of the one command
abbrev pub IsPlay : List (List ℕ) → Type 0
IsPlay words = words ≡ codes "play" ∷ []

-- how many bytes a script has at most
abbrev pub most_bytes : ℕ
most_bytes = 16777216

-- the bytes were read, from what was left to what is left
abbrev pub Reads : Option (List ℕ) → Option (List ℕ) → List ℕ → Type 0
Reads old new bytes = Consumes old new bytes × IsAtEnd new

-- a run begins with the new source `shop`, whose one data file is `shop_data`, beside these names on the volume
abbrev pub fresh : List (List ℕ) → Opening
fresh names = new_source (codes "shop") (codes "shop_data") names

-- The book is one complete history of the script, in the order of its schedule, in which no stranger is told of, and a
-- legal one where the volume tells its content. The names are those on the volume at the beginning.
pub record IsHistory (told : Bool) (names : List (List ℕ)) (bytes : List ℕ) (book : List Event) : Type 0 where
  pub scripts : List (List Stmt)
  pub picks : List Pick
  pub script : IsScript bytes scripts picks
  pub legal : IsTrue told → Legal (fresh names) scripts book
  pub complete : Complete scripts book
  pub known : AreKnown scripts book
  pub order : IsInOrder scripts picks book

-- a whole script of no more bytes than one may have was read, and the book is its history
abbrev pub Tells : Bool → List (List ℕ) → Option (List ℕ) → Option (List ℕ) → List Event → Type 0
Tells told names old new book = (bytes : List ℕ) × Reads old new bytes × (length bytes ≤ most_bytes) × IsHistory told names bytes book

-- more bytes than a script may have were taken
abbrev pub Exceeds : Option (List ℕ) → Option (List ℕ) → Type 0
Exceeds old new = (bytes : List ℕ) × Consumes old new bytes × (most_bytes < length bytes)

-- all bytes were read, are no more than a script may have, and this line is the first that is refused, so that they are
-- no script
abbrev pub IsRefused : Option (List ℕ) → Option (List ℕ) → ℕ → Why → Type 0
IsRefused old new line why = (bytes : List ℕ) × Reads old new bytes × (length bytes ≤ most_bytes) × IsRefusedAt bytes line why

abbrev pub usage_line : List ℕ
usage_line = codes "refused: usage\n"

-- the line that names the first line of a script that is refused
abbrev pub script_line : ℕ → Why → List ℕ
script_line line why = codes "refused: script line " ++ decimal line ++ codes " " ++ text_of why ++ codes "\n"

abbrev pub long_line : List ℕ
long_line = codes "refused: script long\n"

-- the line that names a file which the volume failed to put back
abbrev pub close_line : List ℕ → List ℕ
close_line name = codes "refused: close " ++ name ++ codes "\n"

-- Which line refuses the call: the words are no command; a line of the script that was read is refused; or more bytes
-- than a script may have were taken.
pub data Refuses (words : List (List ℕ)) (old new : Option (List ℕ)) : List ℕ → Type 0 where
  Usage : (IsPlay words → ⊥) → Refuses words old new usage_line
  Script : (line : ℕ) (why : Why) → IsPlay words → IsRefused old new line why → Refuses words old new (script_line line why)
  TooLong : IsPlay words → Exceeds old new → Refuses words old new long_line
