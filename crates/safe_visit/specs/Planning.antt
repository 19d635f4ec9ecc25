-- The step that plans what a statement writes, with room for the records of all that.
use Rattle.std.specs.Prelude.{ℕ, ◌≡◌, ◌+◌, ◌≤◌, length, Some}
use Rattle.stmt_course.specs.Keeping.{IsCourse}
use Rattle.stmt_course.specs.Planning.{Plans}
use Rattle.step_words.specs.declared.point.Point.TheVariants.{Plan}
use Rattle.step_words.specs.Courses.{Course}
use Rattle.step_words.specs.Seats.{Seated}
use Rattle.step_state.specs.State.{State, seat}
use Rattle.step_state.specs.Moving.{MovesSeat}
use Rattle.step_state.specs.Going.{seat_going}

-- it begins its claims with the first allocation page
abbrev pub seat_planned : Seated → Course → ℕ → Seated
seat_planned x c spare = record (seat_going x c) { work = record x.work { spare = spare }; alloc = 0 }

pub record DoesPlan (e s : State) (k : ℕ) : Type 0 where
  pub at : (seat e k).sitting.point ≡ Plan
  pub course : Course
  pub has : (seat e k).sitting.course ≡ Some course
  pub is : IsCourse course
  pub next : Course
  pub plans : Plans course next
  pub is_next : IsCourse next
  pub spare : ℕ
  pub room : length next.owners + length next.edits ≤ spare
  pub moves : MovesSeat e s k (seat_planned (seat e k) next spare)
  pub pages : s.pages ≡ e.pages
  pub latches : s.latches ≡ e.latches
