-- A whole run: over a new source, by a schedule and then to the end, and how its sparse files were put back.
use Rattle.std.specs.Prelude.{ℕ, ◌≡◌, IsTrue, List, [], ◌∷◌}
use Rattle.std.specs.FinMap as finite
use Rattle.page_dev.specs.Faults.{Rose}
use Rattle.plain_model.specs.declared.stmt.Stmt.{Stmt}
use Rattle.plain_model.specs.declared.pick.Pick.{Pick}
use Rattle.plain_model.specs.declared.event.Event.{Event}
use Rattle.plain_model.specs.Journal.{Opening}
use Rattle.early_pages.specs.Shown.{counts, count}
use Rattle.early_engine.specs.declared.closing.CloseEnd.{CloseEnd}
use Rattle.early_engine.specs.Closing.{IsFault, Ends, StillLies}
use Rattle.early_engine.specs.Safe.{Disk, Run}
use Rattle.early_engine.specs.Schedules.{Plays, Rounds}
use Rattle.early_engine.specs.Steps.{HaveLeft}

-- Scripts were run from one volume to another: an engine over a new source of so many pages took the schedule's steps, and then
-- the lowest session that hadn't left took its own, until all had left. The book is its history. All its sparse files are back, or
-- this one is the first that isn't, and then the volume failed as it was put back. In this no name came or went, and what lay there lies there still.
pub record IsRun (opening : Opening) (pages : ℕ) (scripts : List (List Stmt)) (picks : List Pick) (before after : Disk) (book : List Event) (end : CloseEnd) : Type 0 where
  pub opened : Run
  pub played : Run
  pub last : Run
  pub begins : opened.opening ≡ opening
  pub same : opened.scripts ≡ scripts
  pub disk : opened.disk ≡ before
  pub size : counts opened.shown ≡ pages ∷ []
  pub empty : opened.kept.events ≡ []
  pub plays : Plays picks opened played
  pub rounds : Rounds played last
  pub left : HaveLeft last
  pub tells : book ≡ last.kept.events
  pub ends : Ends last.shown (count last.shown) after end
  pub fault : IsFault end → Rose last.disk.failures after.failures
  pub places : (name : List ℕ) → IsTrue last.disk.told → finite.contains_key after.folder name ≡ finite.contains_key last.disk.folder name
  pub lies : StillLies last.disk.told last.disk.folder after.folder
