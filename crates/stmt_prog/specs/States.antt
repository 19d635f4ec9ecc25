-- A program's state as the course of its statement.
use Rattle.std.specs.Prelude.{◌≡◌, ◌<◌, ◌≤◌, ◌^◌, true, false, List, [], length, drop, Option, Some, None}
use Rattle.std.specs.List.{AllByRecursion}
use Rattle.page_base.specs.declared.numbers.PageId.{PageId}
use Rattle.page_base.specs.declared.numbers.TableNo.{TableNo}
use Rattle.page_fmt.specs.Seen.{Looked}
use Rattle.plain_model.specs.declared.stmt.Stmt.{Stmt}
use Rattle.sys_cat.specs.declared.desc.TableDesc.{TableDesc}
use Rattle.sys_cat.specs.Lists.{has_number}
use Rattle.sys_cat.specs.Rows.{zero_root}
use Rattle.table_walk.specs.declared.visit.Visit.{Visit}
use Rattle.table_walk.specs.Tables.{is_leaf}
use Rattle.table_walk.specs.Walk.{IsDone}
use Rattle.page_tables.specs.Layout.{shape, first}
use Rattle.table_scan.specs.Scanned.{Scanned, IsScan}
use Rattle.step_words.specs.declared.stage.Stage.{Stage}
use Rattle.step_words.specs.declared.stage.Stage.TheVariants as stages
use Rattle.step_words.specs.Courses.{Course, Draft}
use Rattle.stmt_course.specs.Keeping.{IsTableOf, IsDraftBelow}
use Rattle.stmt_course.specs.Knowing.{IsFound}
use Rattle.stmt_course.specs.Planning.{stage_for}
use Rattle.stmt_prog.specs.Heads.{Headed, creates}
use Rattle.stmt_prog.specs.Reading.{OfBases}
use Rattle.stmt_prog.specs.declared.state.State.{State}
use Rattle.stmt_prog.specs.declared.state.State.TheVariants.{AskAll, ScanZero, AskTable, ScanOwn, Planning, Defining, Writing}
use Rattle.stmt_prog.specs.declared.queue.Queue.{Queue}
use Rattle.stmt_prog.specs.Drafts.{all_drafts, IsTold}

-- before anything is read
abbrev pub begun : Headed → Course
begun h = record { stmt = h.stmt; at = h.at; stage = stages.AskAll; base = []; desc = None; seen = []; owners = []; taken = []; edits = []; reply = None }

-- the stage of reading the page that comes next, of table 0 or of the statement's table
abbrev pub zero_stage : Option Visit → Stage
zero_stage None = stages.AskAll
zero_stage (Some v) = stages.ScanZero v.page

abbrev pub own_stage : Option Visit → Stage
own_stage None = stages.AskAll
own_stage (Some v) = stages.Scan v.page (is_leaf v)

-- the edits of a queue that are still to come
abbrev pub drafts : Queue → List Draft
drafts q = drop q.done (all_drafts q.told q.edits.items)

abbrev pub course_of : Headed → State → Course
course_of h (AskAll zero) = begun h
course_of h (ScanZero zero) = record (begun h) { stage = zero_stage zero.next; base = zero.seen }
course_of h (AskTable zero desc own) = record (begun h) { stage = stages.AskTable; base = zero.seen; desc = Some desc }
course_of h (ScanOwn zero desc own) = record (begun h) { stage = own_stage own.next; base = zero.seen; desc = Some desc; seen = own.seen }
course_of h (Planning zero desc own) = record (begun h) { stage = stages.Plan; base = zero.seen; desc = Some desc; seen = own.seen }
course_of h (Defining zero number) = record (begun h) { stage = stages.Plan; base = zero.seen }
course_of h (Writing desc queue reply) = record (begun h) { stage = stage_for queue.owners.items queue.taken.items (drafts queue); desc = desc; owners = queue.owners.items; taken = queue.taken.items; edits = drafts queue; reply = Some reply }

-- a queue whose edits speak of the pages alone that are claimed
pub record IsQueue (q : Queue) : Type 0 where
  pub taken : length q.taken.items ≤ length q.owners.items
  pub done : q.done ≤ length q.edits.items
  pub below : AllByRecursion (IsDraftBelow (length q.owners.items)) (all_drafts q.told q.edits.items)
  pub small : AllByRecursion (λ number. number < 2 ^ 31) q.owners.items
  pub told : IsTold q.told

-- table 0 was read whole, and the statement's table is this one
pub record IsFoundIn (stmt : Stmt) (zero : List Looked) (desc : TableDesc) : Type 0 where
  pub whole : IsDone shape.kids zero (first zero_root)
  pub found : OfBases zero (λ ds tables. IsFound ds tables stmt (Some desc))
  pub table : IsTableOf stmt desc
  pub there : creates stmt ≡ false

-- table 0 was read whole, and the statement makes a table; none has its name, nor this number
pub record IsLackingIn (stmt : Stmt) (zero : List Looked) (number : TableNo) : Type 0 where
  pub whole : IsDone shape.kids zero (first zero_root)
  pub found : OfBases zero (λ ds tables. IsFound ds tables stmt None)
  pub new : OfBases zero (λ ds tables. has_number ds number.0 ≡ false)
  pub makes : creates stmt ≡ true
  pub some : 1 ≤ number.0
  pub small : number.0 < 2 ^ 31

-- a page comes next
abbrev pub IsReading : Scanned → PageId → Type 0
IsReading s root = IsScan s × (s.root ≡ root) × ((v : Visit) × (s.next ≡ Some v))

-- nothing was read yet
abbrev pub IsFresh : Scanned → PageId → Type 0
IsFresh s root = (s ≡ record { root = root; seen = []; next = Some (first root) }) × IsScan s

-- the table of a statement may have its description
abbrev pub IsTableIn : Headed → Option TableDesc → Type 0
IsTableIn h None = Unit {0}
IsTableIn h (Some d) = IsTableOf h.stmt d

abbrev pub IsState : Headed → State → Type 0
IsState h (AskAll zero) = IsFresh zero zero_root
IsState h (ScanZero zero) = IsReading zero zero_root
IsState h (AskTable zero desc own) = IsFoundIn h.stmt zero.seen desc × IsFresh own desc.root
IsState h (ScanOwn zero desc own) = IsFoundIn h.stmt zero.seen desc × IsReading own desc.root
IsState h (Planning zero desc own) = IsFoundIn h.stmt zero.seen desc × IsDone shape.kids own.seen (first desc.root)
IsState h (Defining zero number) = IsLackingIn h.stmt zero.seen number
IsState h (Writing desc queue reply) = IsTableIn h desc × IsQueue queue
