-- What a run that was closed tells, its status, and the text that is due of a call.
use Rattle.std.specs.Prelude.{ℕ, ◌≡◌, ◌⊎◌, Bool, List, [], ◌++◌, Option}
use Rattle.page_dev.specs.Faults.{Rose}
use Rattle.plain_model.specs.declared.event.Event.{Event}
use Rattle.plain_model.specs.Printed.{printed}
use Rattle.early_engine.specs.declared.closing.CloseEnd.{CloseEnd}
use Rattle.early_engine.specs.declared.closing.CloseEnd.TheVariants.{Done, Fault}
use Rattle.early_engine.specs.Closing.{IsFault}
use Rattle.early_engine.specs.Safe.{Disk}
use Rattle.snapdb.specs.Headline.{IsPlay, Tells, Refuses, close_line}
use Rattle.snapdb.specs.Runs.{Runs}

-- the text of the history, and behind it the line of the file that wasn't put back, if there is one
abbrev pub told_text : List Event → CloseEnd → List ℕ
told_text book Done = printed book
told_text book (Fault name) = printed book ++ close_line name

-- 0 where all files are back, 7 where one isn't
abbrev pub status_of : CloseEnd → ℕ
status_of Done = 0
status_of (Fault name) = 7

-- The text is that of one run, which ended so: that of its history; and behind it, where a file wasn't put back, the line
-- that names that file, and then the volume's count of faults rose.
pub record IsTold (before after : Disk) (old new : Option (List ℕ)) (book : List Event) (text : List ℕ) : Type 0 where
  pub end : CloseEnd
  pub run : Runs before after old new book end
  pub failed : IsFault end → Rose before.failures after.failures
  pub is : text ≡ told_text book end

-- the text that is due: the line of a refusal, with an empty book, or the text of a run
abbrev pub IsDue : Bool → List (List ℕ) → Disk → Disk → List (List ℕ) → Option (List ℕ) → Option (List ℕ) → List Event → List ℕ → Type 0
IsDue told names before after words old new book text =
    (Refuses words old new text × (book ≡ [])) ⊎ (IsPlay words × Tells told names old new book × IsTold before after old new book text)
