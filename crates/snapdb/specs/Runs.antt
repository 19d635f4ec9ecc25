-- Which run a script gets, from the volume that is handed in to the volume that is left.
use Rattle.std.specs.Prelude.{ℕ, ◌≤◌, List, length, Option}
use Rattle.plain_model.specs.declared.stmt.Stmt.{Stmt}
use Rattle.plain_model.specs.declared.pick.Pick.{Pick}
use Rattle.plain_model.specs.declared.event.Event.{Event}
use Rattle.early_engine.specs.declared.closing.CloseEnd.{CloseEnd}
use Rattle.early_engine.specs.Opened.{names_of}
use Rattle.early_engine.specs.Safe.{Disk}
use Rattle.early_engine.specs.Played.{IsRun}
use Rattle.script_read.specs.Script.{IsScript}
use Rattle.snapdb.specs.Headline.{Reads, most_bytes, fresh}

-- the scripts were run over a new source of 256 pages
abbrev pub HaveRun : List (List Stmt) → List Pick → Disk → Disk → List Event → CloseEnd → Type 0
HaveRun scripts picks before after book end = IsRun (fresh (names_of before.folder)) 256 scripts picks before after book end

-- a whole script of no more bytes than one may have was read, and was run so
pub record Runs (before after : Disk) (old new : Option (List ℕ)) (book : List Event) (end : CloseEnd) : Type 0 where
  pub bytes : List ℕ
  pub scripts : List (List Stmt)
  pub picks : List Pick
  pub reads : Reads old new bytes
  pub short : length bytes ≤ most_bytes
  pub script : IsScript bytes scripts picks
  pub run : HaveRun scripts picks before after book end
