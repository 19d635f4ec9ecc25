-- The step that begins a statement on tables.
use Rattle.std.specs.Prelude.{ℕ, ◌≡◌, true, false, length, Some, None}
use Rattle.page_tables.specs.Owners.{is_there}
use Rattle.plain_model.specs.declared.stmt.Stmt.{Stmt}
use Rattle.plain_model.specs.Free.{is_of_tables}
use Rattle.plain_model.specs.Messages.{first_that}
use Rattle.plain_model.specs.State.{is_suspect}
use Rattle.plain_steps.specs.Events.{is_write}
use Rattle.plain_steps.specs.Phases.{early_refusals}
use Rattle.snap_pages.specs.Shown.{counts}
use Rattle.sys_cat.specs.Rows.{zero_root}
use Rattle.step_words.specs.declared.point.Point.TheVariants.{Start}
use Rattle.step_words.specs.declared.stage.DbKind.{DbKind}
use Rattle.step_words.specs.declared.stage.DbKind.TheVariants.{Source, Snap}
use Rattle.step_words.specs.Courses.{Course}
use Rattle.step_words.specs.Sittings.{Sitting, stmt_at}
use Rattle.step_words.specs.Seats.{Seated}
use Rattle.step_state.specs.State.{State, seat, machine}
use Rattle.step_state.specs.Moving.{MovesSeat}
use Rattle.step_state.specs.Going.{course_begun, point_for}

-- in the source, past the refusals that need no page and no lock; or a SELECT in a snapshot that isn't suspect
pub data BeginsIn (e : State) (k : ℕ) (stmt : Stmt) : DbKind → Type 0 where
  InSource : (seat e k).sitting.within ≡ None → (seat e k).sitting.current ≡ e.fixed.opening.source → first_that (early_refusals (machine e) k stmt) ≡ None → BeginsIn e k stmt Source
  InSnap : (cut : ℕ) → (seat e k).sitting.within ≡ Some cut → is_write stmt ≡ false → is_suspect (machine e) (seat e k).sitting.current ≡ false → BeginsIn e k stmt Snap

abbrev pub sitting_begun : Sitting → Course → Sitting
sitting_begun s c = record s { course = Some c; point = point_for s.depth c }

-- it notes how long the history is
abbrev pub seat_begun : Seated → Course → ℕ → Seated
seat_begun x c began = record x { sitting = sitting_begun x.sitting c; began = began }

pub record DoesBegin (e s : State) (k : ℕ) : Type 0 where
  pub at : (seat e k).sitting.point ≡ Start
  pub stmt : Stmt
  pub has : stmt_at (seat e k).sitting ≡ Some stmt
  pub tables : is_of_tables stmt ≡ true
  pub kind : DbKind
  pub begins : BeginsIn e k stmt kind
  -- the source has the first page of table 0
  pub there : is_there (counts e.pages) zero_root ≡ true
  pub moves : MovesSeat e s k (seat_begun (seat e k) (course_begun stmt kind) (length e.events))
  pub pages : s.pages ≡ e.pages
  pub latches : s.latches ≡ e.latches
