-- Which bytes are the text of a history, and the line at which others are refused.
use Rattle.std.specs.Prelude.{ℕ, ◌≡◌, ◌+◌, ◌-◌, ◌≤◌, List, ◌++◌, length, take, Result}
use Rattle.std.specs.Prelude.{Ok, Err}
use Rattle.plain_model.specs.declared.event.Event.{Event}
use Rattle.plain_model.specs.Printed.{printed}
use Rattle.reply_text.specs.declared.refusal.BookRefusal.{BookRefusal}
use Rattle.reply_text.specs.declared.refusal.BookRefusal.TheVariants.{Line, Memory}
use Rattle.reply_text.specs.Told.{AreTold}
use Rattle.reply_text.specs.Lines.{lines_of}

-- the bytes are the text of this history, which can be told
pub record IsBookOf (bytes : List ℕ) (book : List Event) : Type 0 where
  pub told : AreTold book
  pub spelled : bytes ≡ printed book

-- the text of some history begins with these lines
pub record Begins (front : List (List ℕ)) : Type 0 where
  pub book : List Event
  pub more : List (List ℕ)
  pub told : AreTold book
  pub spelled : lines_of (printed book) ≡ front ++ more

-- The bytes are no history's text, and this line, counted from 1, is the first that can't stand: those before it begin one, and with it
-- they don't. It is one past the last where the lines begin a history's text, but rows are missing.
pub record IsRefusedAt (bytes : List ℕ) (line : ℕ) : Type 0 where
  pub first : 1 ≤ line
  pub last : line ≤ length (lines_of bytes) + 1
  pub begins : Begins (take (line - 1) (lines_of bytes))
  pub ends : line ≤ length (lines_of bytes) → Begins (take line (lines_of bytes)) → ⊥
  pub none : (book : List Event) → IsBookOf bytes book → ⊥

-- a refusal at its line, or for want of memory
abbrev pub Refuses : List ℕ → BookRefusal → Type 0
Refuses bytes Memory = Unit {0}
Refuses bytes (Line line) = IsRefusedAt bytes line

-- this history is answered where memory is found
abbrev pub GivesBook : List Event → Result (List Event) BookRefusal → Type 0
GivesBook book (Ok got) = got ≡ book
GivesBook book (Err Memory) = Unit {0}
GivesBook book (Err (Line line)) = ⊥
