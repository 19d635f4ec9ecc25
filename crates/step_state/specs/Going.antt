-- Where a session goes on with the course of its statement.
use Rattle.std.specs.Prelude.{ℕ, ◌+◌, ◌==◌, ◌&&◌, if◌then◌else◌, false, true, List, [], ◌∷◌, length, drop, Option, Some, None, unwrap_or}
use Rattle.page_base.specs.declared.numbers.Mode.TheVariants.{S}
use Rattle.page_base.specs.declared.numbers.PageId.{PageId}
use Rattle.plain_model.specs.declared.event.LockName.TheVariants.{All, Table}
use Rattle.plain_model.specs.declared.stmt.Stmt.{Stmt}
use Rattle.sys_cat.specs.declared.desc.TableDesc.{TableDesc}
use Rattle.plain_steps.specs.Events.{is_write}
use Rattle.plain_steps.specs.Phases.{first_mode, second_mode}
use Rattle.step_words.specs.declared.point.Point.{Point}
use Rattle.step_words.specs.declared.point.Point.TheVariants.{Lock, Latch, Plan as Planning, Claim, Commit, Say}
use Rattle.sys_cat.specs.Rows.{zero_root}
use Rattle.step_words.specs.declared.stage.DbKind.{DbKind}
use Rattle.step_words.specs.declared.stage.DbKind.TheVariants.{Master, Source, Snap}
use Rattle.step_words.specs.declared.stage.Stage.{Stage}
use Rattle.step_words.specs.declared.stage.Stage.TheVariants.{AskAll, ScanZero, AskTable, Scan, Plan, Claim as Claiming, Edit as Editing, End}
use Rattle.step_words.specs.Courses.{Course, Draft}
use Rattle.step_words.specs.Seats.{Seated}
use Rattle.step_words.specs.Coming.{draft_write, taken_at}

-- it asks for its table's lock; a course without a table plans at once
abbrev pub asking : Stmt → Option TableDesc → Point
asking stmt None = Planning
asking stmt (Some d) = Lock (Table d.name) d.number (unwrap_or (second_mode stmt) S)

-- it claims for the next of these tables
abbrev pub claiming : List ℕ → Point
claiming [] = Say
claiming (number ∷ numbers) = Claim (number + 1)

-- it takes the latch of its next edit's page
abbrev pub editing : Course → List Draft → Point
editing c [] = Say
editing c (draft ∷ drafts) = Latch (draft_write (taken_at c) draft).page true

-- a write outside a transaction is committed, all else is answered
abbrev pub ending : Stmt → ℕ → Point
ending stmt depth = if is_write stmt && depth == 0 then Commit else Say

abbrev pub point_at : ℕ → Course → Stage → Point
point_at depth c AskAll = Lock All (record { 0 = 0 }) (first_mode c.stmt)
point_at depth c (ScanZero page) = Latch page false
point_at depth c AskTable = asking c.stmt c.desc
point_at depth c (Scan page rows) = Latch page false
point_at depth c Plan = Planning
point_at depth c Claiming = claiming (drop (length c.taken) c.owners)
point_at depth c Editing = editing c c.edits
point_at depth c End = ending c.stmt depth

-- a statement begins with the lock on the table of tables; in a snapshot it takes no locks, and reads at once
abbrev pub first_stage : DbKind → Stage
first_stage Master = AskAll
first_stage Source = AskAll
first_stage Snap = ScanZero zero_root

abbrev pub course_begun : Stmt → DbKind → Course
course_begun stmt at = record { stmt = stmt; at = at; stage = first_stage at; base = []; desc = None; seen = []; owners = []; taken = []; edits = []; reply = None }

-- where a session of this depth goes on
abbrev pub point_for : ℕ → Course → Point
point_for depth c = point_at depth c c.stage

-- with the lock for which it asked it reads, from the root on
abbrev pub root_of : Option TableDesc → PageId
root_of None = zero_root
root_of (Some d) = d.root

abbrev pub locked_stage : Stage → Option TableDesc → Stage
locked_stage AskAll desc = ScanZero zero_root
locked_stage AskTable desc = Scan (root_of desc) false
locked_stage stage desc = stage

abbrev pub locked : Course → Course
locked c = record c { stage = locked_stage c.stage c.desc }

-- the page that it reads next
abbrev pub page_visited : Stage → Option PageId
page_visited (ScanZero page) = Some page
page_visited (Scan page rows) = Some page
page_visited stage = None

-- a seat whose session goes on with this course
abbrev pub seat_going : Seated → Course → Seated
seat_going x c = record x { sitting = record x.sitting { course = Some c; point = point_for x.sitting.depth c } }
