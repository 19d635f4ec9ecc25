-- What a plan comes to, over the database that the statement has read.
use Rattle.std.specs.Prelude.{ℕ, ◌≡◌, ◌+◌, ◌<◌, ◌^◌, Bool, true, false, if◌then◌else◌, nat_lt, List, [], ◌∷◌, length, Option, Some, None}
use Rattle.page_base.specs.declared.numbers.PageId.{PageId}
use Rattle.page_base.specs.Slots.{Slots}
use Rattle.plain_model.specs.declared.stmt.Stmt.{Stmt}
use Rattle.plain_model.specs.Meaning.{shape, change_and_reply}
use Rattle.plain_model.specs.Statements.{is_of_rows}
use Rattle.plain_model.specs.Tables.{Tables, apply}
use Rattle.sys_cat.specs.declared.desc.TableDesc.{TableDesc}
use Rattle.page_tables.specs.Owners.{is_there}
use Rattle.page_tables.specs.Sheets.{sheets}
use Rattle.step_words.specs.declared.stage.Stage.{Stage}
use Rattle.step_words.specs.declared.stage.Stage.TheVariants.{Claim, Edit as Editing, End}
use Rattle.step_words.specs.Courses.{Course, Draft}
use Rattle.stmt_course.specs.Bringing.{Brings}
use Rattle.stmt_course.specs.Knowing.{IsOver}

-- it claims, then it edits, then it has ended
abbrev pub stage_after : List Draft → Stage
stage_after [] = End
stage_after (draft ∷ drafts) = Editing

abbrev pub stage_for : List ℕ → List PageId → List Draft → Stage
stage_for owners taken drafts = if nat_lt (length taken) (length owners) then Claim else stage_after drafts

-- the files' pages can be told by table 0
abbrev pub CanBeTold : List ℕ → Type 0
CanBeTold files = (p : PageId) → is_there files p ≡ true → (p.file < 256) × (p.page < 2 ^ 31)

-- who may carry it out: who has all tables, or who has the statement's own, of which it is rows
pub record MayPlan (all : Bool) (mine : ℕ → Bool) (stmt : Stmt) (desc : Option TableDesc) : Type 0 where
  pub rows : all ≡ false → is_of_rows stmt ≡ true
  pub own : all ≡ false → (d : TableDesc) → desc ≡ Some d → mine (d.number.0 + 1) ≡ true

-- a statement that is planned over these tables: its shape is right, its reply is by its meaning, and so are the tables to
-- which it leads
pub record IsPlannedOver (files : List ℕ) (all : Bool) (mine : ℕ → Bool) (s : Slots) (ds : List TableDesc) (tables : Tables) (c : Course) : Type 0 where
  pub shaped : shape c.stmt tables ≡ None
  pub reply : c.reply ≡ Some (change_and_reply c.stmt tables).1
  pub after : (ℕ → PageId) → List TableDesc
  pub brings : Brings files all mine s c after (apply (change_and_reply c.stmt tables).0 tables)
  pub same : all ≡ false → (claimed : ℕ → PageId) → after claimed ≡ ds

-- so it is over each database that it has read, for who may carry it out
abbrev pub PlansOver : Course → Course → Type 0
PlansOver old new = (files : List ℕ) (all : Bool) (mine : ℕ → Bool) (s : Slots) (ds : List TableDesc) (tables : Tables) → CanBeTold files → IsOver files (sheets s) ds tables old → MayPlan all mine old.stmt old.desc → IsPlannedOver files all mine s ds tables new

-- a plan: what was read is forgotten, and its claims, its edits and its reply are there
pub record Plans (old new : Course) : Type 0 where
  pub is : new ≡ record old { stage = stage_for new.owners [] new.edits; base = []; seen = []; taken = []; owners = new.owners; edits = new.edits; reply = new.reply }
  pub over : PlansOver old new
