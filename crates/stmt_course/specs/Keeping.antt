-- What a course keeps at each stage, whatever the pages are.
use Rattle.std.specs.Prelude.{ℕ, ◌≡◌, ◌≢◌, ◌⊎◌, ◌<◌, ◌≤◌, ◌^◌, Bool, true, false, List, [], length, Option, Some, None}
use Rattle.std.specs.List.{AllByRecursion}
use Rattle.page_base.specs.declared.numbers.PageId.{PageId}
use Rattle.page_fmt.specs.Seen.{Looked}
use Rattle.plain_model.specs.declared.stmt.Stmt.{Stmt}
use Rattle.plain_model.specs.Free.{is_of_tables}
use Rattle.plain_model.specs.Sound.{is_sound}
use Rattle.plain_model.specs.Statements.{table_named}
use Rattle.sys_cat.specs.declared.desc.TableDesc.{TableDesc}
use Rattle.sys_cat.specs.Lists.{IsDesc}
use Rattle.sys_cat.specs.Rows.{zero_root}
use Rattle.table_walk.specs.Answers.{IsNext}
use Rattle.table_walk.specs.Plans.{IsBelow, SpotBelow}
use Rattle.table_walk.specs.Walk.{IsDone}
use Rattle.page_tables.specs.Layout.{shape, first}
use Rattle.step_words.specs.declared.stage.Stage.{Stage}
use Rattle.step_words.specs.declared.stage.Stage.TheVariants.{AskAll, ScanZero, AskTable, Scan, Plan, Claim, Edit as Editing, End}
use Rattle.step_words.specs.Courses.{Course, Draft, Plain, Root, is_planned, is_past_all, is_past_table}
use Rattle.stmt_course.specs.Knowing.{Finds}

-- this page of a table comes next, and wasn't read
abbrev pub ReadsOn : TableDesc → List Looked → PageId → Bool → Type 0
ReadsOn d seen page rows = IsNext shape.kids seen (first d.root) page rows

-- the statement's table was read whole, if it has one
abbrev pub IsReadWhole : Option TableDesc → List Looked → Type 0
IsReadWhole None seen = Unit {0}
IsReadWhole (Some d) seen = IsDone shape.kids seen (first d.root)

abbrev pub AtStage : Stage → Course → Type 0
AtStage AskAll c = Unit {0}
AtStage (ScanZero page) c = (rows : Bool) × IsNext shape.kids c.base (first zero_root) page rows
AtStage AskTable c = Finds c × ((d : TableDesc) × (c.desc ≡ Some d))
AtStage (Scan page rows) c = Finds c × ((d : TableDesc) × (c.desc ≡ Some d) × ReadsOn d c.seen page rows)
AtStage Plan c = Finds c × IsReadWhole c.desc c.seen
AtStage Claim c = length c.taken < length c.owners
AtStage Editing c = c.edits ≢ []
AtStage End c = c.edits ≡ []

-- a table that its description may have, under the statement's name
pub record IsTableOf (stmt : Stmt) (d : TableDesc) : Type 0 where
  pub desc : IsDesc d
  pub name : d.name ≡ table_named stmt

-- an edit speaks of the first n claimed pages alone
abbrev pub IsDraftBelow : ℕ → Draft → Type 0
IsDraftBelow n (Plain e) = IsBelow n e
IsDraftBelow n (Root e d new) = SpotBelow n e.spot × (new < n)

-- What it has read it forgets with the plan. It reads table 0 under the lock on that, and its own table under the lock on
-- this; it claims pages once it has planned, and edits once it has claimed.
pub record IsCourse (c : Course) : Type 0 where
  pub at : AtStage c.stage c
  pub tables : is_of_tables c.stmt ≡ true
  pub sound : is_sound c.stmt ≡ true
  pub table : (d : TableDesc) → c.desc ≡ Some d → IsTableOf c.stmt d
  pub emptied : is_planned c.stage ≡ true → (c.base ≡ []) × (c.seen ≡ [])
  pub unasked : is_past_all c.stage ≡ false → (c.base ≡ []) × (c.desc ≡ None)
  pub unread : is_past_table c.stage ≡ false → c.seen ≡ []
  pub fresh : is_planned c.stage ≡ false → (c.taken ≡ []) × (c.owners ≡ []) × (c.edits ≡ [])
  pub taken : length c.taken ≤ length c.owners
  pub claimed : (c.stage ≡ Editing) ⊎ (c.stage ≡ End) → length c.taken ≡ length c.owners
  pub below : AllByRecursion (IsDraftBelow (length c.owners)) c.edits
  pub small : AllByRecursion (λ number. number < 2 ^ 31) c.owners
  pub replied : is_planned c.stage ≡ true → c.reply ≢ None
