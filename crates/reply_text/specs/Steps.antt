-- What the reading of one event does with the lines that are left.
use Rattle.std.specs.Prelude.{ℕ, ◌+◌, ◌≡◌, ◌<◌, true, List, [], ◌∷◌, ◌++◌, length, map, Option, Some, None}
use Rattle.std.specs.List.{list_all, flat_map}
use Rattle.page_base.specs.declared.value.Value.{Value}
use Rattle.plain_model.specs.declared.reply.Reply.TheVariants.{Rows}
use Rattle.plain_model.specs.declared.event.Event.{Event}
use Rattle.plain_model.specs.declared.event.Event.TheVariants.{Said}
use Rattle.plain_model.specs.Printed.{row_text}
use Rattle.reply_text.specs.declared.heading.Heading.{Heading}
use Rattle.reply_text.specs.declared.heading.Heading.TheVariants as heading
use Rattle.reply_text.specs.declared.refusal.BookRefusal.{BookRefusal}
use Rattle.reply_text.specs.declared.refusal.BookRefusal.TheVariants.{Line, Memory}
use Rattle.reply_text.specs.Told.{is_told, is_told_row, AreTold}
use Rattle.reply_text.specs.Values.{row_on}
use Rattle.reply_text.specs.Headings.{heading_text}

-- what the first line of an event tells
abbrev pub heading_of : Event → Heading
heading_of (Said who number began (Rows rows)) = heading.Rows who number began (length rows)
heading_of event = heading.Whole event

-- the rows that follow an event's first line
abbrev pub rows_of : Event → List (List Value)
rows_of (Said who number began (Rows rows)) = rows
rows_of event = []

-- how many rows follow a line
abbrev pub count_of : Heading → ℕ
count_of (heading.Whole event) = 0
count_of (heading.Rows who number began count) = count

-- the event of a first line and of the rows behind it
abbrev pub event_of : Heading → List (List Value) → Event
event_of (heading.Whole event) rows = event
event_of (heading.Rows who number began count) rows = Said who number began (Rows rows)

-- the lines of an event
abbrev pub event_lines : Event → List (List ℕ)
event_lines event = heading_text (heading_of event) ∷ map row_text (rows_of event)

-- the lines of some history begin so
pub record Fronts (front : List (List ℕ)) : Type 0 where
  pub book : List Event
  pub more : List (List ℕ)
  pub told : AreTold book
  pub spelled : flat_map event_lines book ≡ front ++ more

-- The lines are no history's, and begin one for so many lines and no more.
pub record Stops (lines : List (List ℕ)) (n : ℕ) : Type 0 where
  pub front : List (List ℕ)
  pub rest : List (List ℕ)
  pub split : lines ≡ front ++ rest
  pub count : n ≡ length front
  pub begins : Fronts front
  pub ends : (line : List ℕ) (more : List (List ℕ)) → rest ≡ line ∷ more → Fronts (front ++ line ∷ []) → ⊥
  pub none : (book : List Event) → AreTold book → flat_map event_lines book ≡ lines → ⊥

-- a refusal at the line where lines of which the first is numbered so stop, or for want of memory
abbrev pub StopsAt : List (List ℕ) → ℕ → BookRefusal → Type 0
StopsAt lines number Memory = Unit {0}
StopsAt lines number (Line line) = (n : ℕ) × (line ≡ number + n) × Stops lines n

-- the row that the first line tells
abbrev pub first_row : List (List ℕ) → Option (List Value)
first_row [] = None
first_row (line ∷ lines) = row_on line

-- so many rows were taken
pub record TakesRows (count : ℕ) (old : List (List ℕ)) (rows : List (List Value)) (new : List (List ℕ)) : Type 0 where
  pub long : length rows ≡ count
  pub told : list_all is_told_row rows ≡ true
  pub split : old ≡ map row_text rows ++ new

-- fewer rows than so many are there, and what stands behind them, if anything, is none
pub record Lacks (count : ℕ) (lines : List (List ℕ)) (n : ℕ) : Type 0 where
  pub rows : List (List Value)
  pub rest : List (List ℕ)
  pub told : list_all is_told_row rows ≡ true
  pub few : length rows < count
  pub split : lines ≡ map row_text rows ++ rest
  pub lacks : first_row rest ≡ None
  pub place : n ≡ length rows

-- a refusal at the line where a row is missing, or for want of memory
abbrev pub LacksAt : ℕ → List (List ℕ) → ℕ → BookRefusal → Type 0
LacksAt count lines number Memory = Unit {0}
LacksAt count lines number (Line line) = (n : ℕ) × (line ≡ number + n) × Lacks count lines n

-- the row of the first line was taken
pub record TakesRow (old : List (List ℕ)) (row : List Value) (new : List (List ℕ)) : Type 0 where
  pub line : List ℕ
  pub split : old ≡ line ∷ new
  pub is : row_on line ≡ Some row

-- a refusal since the first line is no row, or for want of memory
abbrev pub LacksFirst : List (List ℕ) → ℕ → BookRefusal → Type 0
LacksFirst lines number Memory = Unit {0}
LacksFirst lines number (Line line) = (line ≡ number) × (first_row lines ≡ None)

-- an event was taken
pub record TakesEvent (old : List (List ℕ)) (event : Event) (new : List (List ℕ)) : Type 0 where
  pub told : is_told event ≡ true
  pub split : old ≡ event_lines event ++ new
