-- Where a session stands in its script.
use Rattle.std.specs.Prelude.{ℕ, Bool, true, false, ◌==◌, List, [], Option, Some, None, slice_get}
use Rattle.plain_model.specs.declared.reply.Reply.{Reply}
use Rattle.plain_model.specs.declared.stmt.Level.{Level}
use Rattle.plain_model.specs.declared.stmt.Level.TheVariants as levels
use Rattle.plain_model.specs.declared.stmt.Stmt.{Stmt}
use Rattle.plain_model.specs.declared.stmt.Stmt.TheVariants.{Commit as CommitTran, Rollback}
use Rattle.plain_model.specs.State.{master}
use Rattle.step_words.specs.Courses.{Course}
use Rattle.step_words.specs.declared.point.Point.{Point}
use Rattle.step_words.specs.declared.point.Point.TheVariants.{Undo, Say, Leave, Gone}

pub record Sitting : Type 0 where
  pub script : List Stmt
  -- how many of its statements were answered
  pub said : ℕ
  pub current : List ℕ
  -- the cut of the snapshot that is its current database, if that is one
  pub within : Option ℕ
  pub depth : ℕ
  pub level : Level
  -- how far its statement on tables is, if one began
  pub course : Option Course
  pub point : Point
  -- in a snapshot, once it has looked: the page was copied
  pub found : Bool
  -- a reply that waits until records are taken back
  pub waiting : Option Reply

-- its present statement
abbrev pub stmt_at : Sitting → Option Stmt
stmt_at s = slice_get s.script s.said

-- whether the statement ends a transaction
abbrev pub is_ending : Option Stmt → Bool
is_ending (Some CommitTran) = true
is_ending (Some Rollback) = true
is_ending stmt = false

-- or the session's script
abbrev pub ends_work : Option Stmt → Bool
ends_work None = true
ends_work (Some stmt) = is_ending (Some stmt)

-- whether the session takes back, or has just taken back, its whole transaction
abbrev pub undoes_all : Point → Option Stmt → Bool
undoes_all (Undo all) stmt = all
undoes_all Say stmt = is_ending stmt
undoes_all Leave stmt = true
undoes_all point stmt = false

-- one that isn't there
abbrev pub no_sitting : Sitting
no_sitting = record { script = []; said = 0; current = master; within = None; depth = 0; level = levels.Committed; course = None; point = Gone; found = false; waiting = None }
