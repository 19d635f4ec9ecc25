-- How far a statement on tables is: what it has read, what it has claimed, and what it still edits.
use Rattle.std.specs.Prelude.{ℕ, Bool, true, false, List, Option}
use Rattle.page_base.specs.declared.numbers.PageId.{PageId}
use Rattle.page_fmt.specs.Seen.{Looked}
use Rattle.plain_model.specs.declared.reply.Reply.{Reply}
use Rattle.plain_model.specs.declared.stmt.Stmt.{Stmt}
use Rattle.sys_cat.specs.declared.desc.TableDesc.{TableDesc}
use Rattle.table_walk.specs.declared.plan.Edit.{Edit}
use Rattle.step_words.specs.declared.stage.DbKind.{DbKind}
use Rattle.step_words.specs.declared.stage.Stage.{Stage}
use Rattle.step_words.specs.declared.stage.Stage.TheVariants.{AskAll, ScanZero, AskTable, Scan, Plan, Claim, Edit as Editing, End}

-- an edit to come: one whose bytes are known up to the page that it names, or the row of table 0 that tells a new table,
-- whose root is the page that is claimed with this number
pub data Draft : Type 0 where
  Plain : (edit : Edit) → Draft
  Root : (edit : Edit) (desc : TableDesc) (new : ℕ) → Draft

pub record Course : Type 0 where
  pub stmt : Stmt
  -- the kind of its database
  pub at : DbKind
  pub stage : Stage
  -- pages of table 0 that were read, in order
  pub base : List Looked
  -- the statement's table, once table 0 was read
  pub desc : Option TableDesc
  -- pages of it that were read, in order
  pub seen : List Looked
  -- for which tables pages are claimed, by their numbers, in order; and those that were
  pub owners : List ℕ
  pub taken : List PageId
  -- edits to come
  pub edits : List Draft
  pub reply : Option Reply

-- whether the statement has been planned
abbrev pub is_planned : Stage → Bool
is_planned AskAll = false
is_planned (ScanZero page) = false
is_planned AskTable = false
is_planned (Scan page rows) = false
is_planned Plan = false
is_planned Claim = true
is_planned Editing = true
is_planned End = true

-- whether it has asked for the lock on the table of tables, and got it
abbrev pub is_past_all : Stage → Bool
is_past_all AskAll = false
is_past_all stage = true

-- whether it has asked for the lock on its own table, and got it
abbrev pub is_past_table : Stage → Bool
is_past_table AskAll = false
is_past_table (ScanZero page) = false
is_past_table AskTable = false
is_past_table stage = true
