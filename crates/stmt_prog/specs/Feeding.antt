-- Where a statement goes from its stage, with what it needed.
use Rattle.std.specs.Prelude.{ℕ, ◌≡◌, Bool, true, false, List, [], ◌∷◌, ◌++◌, Option, Some, None}
use Rattle.page_base.specs.declared.numbers.Mode.{Mode}
use Rattle.page_base.specs.declared.numbers.PageId.{PageId}
use Rattle.plain_model.specs.declared.reply.Reply.{Reply}
use Rattle.plain_model.specs.declared.stmt.Stmt.{Stmt}
use Rattle.plain_model.specs.declared.stmt.Stmt.TheVariants.{Select}
use Rattle.plain_model.specs.Meaning.{change_and_reply}
use Rattle.plain_model.specs.Tables.{Tables}
use Rattle.plain_steps.specs.Phases.{second_mode}
use Rattle.page_fmt.specs.Seen.{SlotsAt}
use Rattle.sys_cat.specs.declared.desc.TableDesc.{TableDesc}
use Rattle.sys_cat.specs.Rows.{zero_root}
use Rattle.table_scan.specs.Scanned.{with_page}
use Rattle.step_words.specs.declared.stage.DbKind.{DbKind}
use Rattle.step_words.specs.declared.stage.DbKind.TheVariants.{Master, Source, Snap}
use Rattle.step_words.specs.declared.stage.Stage.{Stage}
use Rattle.step_words.specs.declared.stage.Stage.TheVariants as stages
use Rattle.step_words.specs.Courses.{Course, Draft}
use Rattle.stmt_course.specs.Knowing.{IsOver}
use Rattle.stmt_course.specs.Planning.{stage_for, stage_after}

-- a statement in a snapshot takes no locks
abbrev pub first_stage : DbKind → Stage
first_stage Master = stages.AskAll
first_stage Source = stages.AskAll
first_stage Snap = stages.ScanZero zero_root

-- nor does one that needs no lock on its table, which it reads at once
abbrev pub table_stage : Option Mode → DbKind → PageId → Stage
table_stage None at root = stages.Scan root false
table_stage (Some mode) Master root = stages.AskTable
table_stage (Some mode) Source root = stages.AskTable
table_stage (Some mode) Snap root = stages.Scan root false

-- it asks for a lock
abbrev pub asks : Stage → Bool
asks stages.AskAll = true
asks stages.AskTable = true
asks stage = false

-- once it has the lock it reads, from the root on
abbrev pub root_of : Option TableDesc → PageId
root_of None = zero_root
root_of (Some d) = d.root

abbrev pub locked_stage : Stage → Option TableDesc → Stage
locked_stage stages.AskAll desc = stages.ScanZero zero_root
locked_stage stages.AskTable desc = stages.Scan (root_of desc) false
locked_stage stage desc = stage

abbrev pub locked : Course → Course
locked c = record c { stage = locked_stage c.stage c.desc }

-- it reads a page
abbrev pub reads : Stage → Bool
reads (stages.ScanZero page) = true
reads (stages.Scan page rows) = true
reads stage = false

-- with the slots of that page
abbrev pub read_at : Stage → List (List ℕ) → Course → Course
read_at (stages.ScanZero page) slots c = record c { base = with_page c.base page slots }
read_at (stages.Scan page rows) slots c = record c { seen = with_page c.seen page slots }
read_at stage slots c = c

abbrev pub read : List (List ℕ) → Course → Course
read slots c = read_at c.stage slots c

abbrev pub is_select : Stmt → Bool
is_select (Select s) = true
is_select stmt = false

-- over each database that was read so
abbrev pub OverEach : Course → (Tables → Type 0) → Type 0
OverEach c P = (files : List ℕ) (at : SlotsAt) (ds : List TableDesc) (tables : Tables) → IsOver files at ds tables c → P tables

-- With a page read it reads on; or it has found its table and asks for its lock, or reads it; or it has read that too and
-- plans, or has found none of its name, which it makes; or it is a SELECT, has its reply, and forgets what it has read.
pub data TakesOn (old new : Course) (slots : List (List ℕ)) : Type 0 where
  ReadsZero : (page next : PageId) → old.stage ≡ stages.ScanZero page → new ≡ record (read slots old) { stage = stages.ScanZero next } → TakesOn old new slots
  FindsTable : (page : PageId) (d : TableDesc) → old.stage ≡ stages.ScanZero page → new ≡ record (read slots old) { stage = table_stage (second_mode old.stmt) old.at d.root; desc = Some d } → TakesOn old new slots
  FindsNone : (page : PageId) → old.stage ≡ stages.ScanZero page → new ≡ record (read slots old) { stage = stages.Plan } → TakesOn old new slots
  ReadsOwn : (page next : PageId) (was rows : Bool) → old.stage ≡ stages.Scan page was → new ≡ record (read slots old) { stage = stages.Scan next rows } → TakesOn old new slots
  ComesToPlan : (page : PageId) (was : Bool) → old.stage ≡ stages.Scan page was → new ≡ record (read slots old) { stage = stages.Plan } → TakesOn old new slots
  Answers : (page : PageId) (was : Bool) (reply : Reply) → old.stage ≡ stages.Scan page was → is_select old.stmt ≡ true → new ≡ record old { stage = stages.End; base = []; seen = []; reply = Some reply }
      → OverEach (read slots old) (λ tables. reply ≡ (change_and_reply old.stmt tables).1) → TakesOn old new slots

-- with a page claimed
abbrev pub claimed : Course → PageId → Course
claimed c p = record c { taken = c.taken ++ p ∷ []; stage = stage_for c.owners (c.taken ++ p ∷ []) c.edits }

-- with an edit done
abbrev pub later : List Draft → List Draft
later [] = []
later (draft ∷ drafts) = drafts

abbrev pub edited : Course → Course
edited c = record c { edits = later c.edits; stage = stage_after (later c.edits) }
