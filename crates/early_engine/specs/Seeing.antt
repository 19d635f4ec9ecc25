-- What a reader finds on a snapshot's page, and what a statement about rows answers over its table.
use Rattle.std.specs.Prelude.{ℕ, ◌≡◌, ◌≢◌, true, false, List, [], Option, Some, None, unwrap_or}
use Rattle.std.specs.Str.{bytes_eq}
use Rattle.std.specs.FinMap as finite
use Rattle.page_fmt.specs.Content.{content, IsPage}
use Rattle.page_fmt.specs.Edits.{slot_at}
use Rattle.plain_model.specs.declared.reply.Reply.{Reply}
use Rattle.plain_model.specs.declared.reply.Reply.TheVariants.{Msg}
use Rattle.plain_model.specs.declared.reply.Message.{Message}
use Rattle.plain_model.specs.declared.stmt.SelectStmt.{SelectStmt}
use Rattle.plain_model.specs.declared.stmt.Stmt.{Stmt}
use Rattle.plain_model.specs.declared.stmt.Stmt.TheVariants.{Select}
use Rattle.plain_model.specs.Statements.{shape_over, data_over}
use Rattle.plain_model.specs.Tables.{Table, Tables}
use Rattle.stmt_eval.specs.declared.effect.Verdict.{Verdict}
use Rattle.stmt_eval.specs.Verdicts.{IsVerdict}
use Rattle.table_pages.specs.Carried.{Holds}
use Rattle.table_pages.specs.Rows.{HoldsFitting}
use Rattle.early_engine.specs.declared.seeing.Glance.{Glance}
use Rattle.early_engine.specs.declared.seeing.Glance.TheVariants.{Blank, Named, Other, Damaged, Lost}

-- what the bytes of a page are to somebody who looks for a table: none, this one, another one, or no page; nothing is
-- known of a page that couldn't be read
abbrev pub Shows : List ℕ → List ℕ → Glance → Type 0
Shows image name Blank = slot_at (content image) 0 ≡ []
Shows image name Named = IsPage image × (slot_at (content image) 0 ≢ []) × ((held : List ℕ) (t : Table) → Holds image held t → bytes_eq held name ≡ true)
Shows image name Other = (slot_at (content image) 0 ≢ []) × ((held : List ℕ) (t : Table) → Holds image held t → bytes_eq held name ≡ false)
Shows image name (Damaged at) = ¬ IsPage image
Shows image name Lost = Unit {0}

-- the refusal, if there is one, else the reply
abbrev pub unless_refused : Option Message → Reply → Reply
unless_refused (Some m) reply = Msg m
unless_refused None reply = reply

-- what a statement about rows answers over its table, which may not be there
abbrev pub replied : Stmt → Option Table → Reply
replied stmt table = unless_refused (shape_over stmt table) (data_over stmt (unwrap_or table (record { cols = []; rows = finite.empty }))).1

-- what it answers where these are the tables
abbrev pub selected : Stmt → List ℕ → Tables → Reply
selected stmt name tables = replied stmt (finite.get tables name)

-- the statement is a SELECT from the table of this name
pub record IsSelect (stmt : Stmt) (name : List ℕ) : Type 0 where
  pub select : SelectStmt
  pub is : stmt ≡ Select select
  pub table : select.table ≡ name

-- the verdict is the statement's over a table, which is the page's, if the page holds one
pub record IsVerdictOn (image : List ℕ) (stmt : Stmt) (verdict : Verdict) : Type 0 where
  pub over : Table
  pub held : (name : List ℕ) (t : Table) → Holds image name t → over ≡ t
  pub fits : HoldsFitting over
  pub is : IsVerdict stmt over verdict
