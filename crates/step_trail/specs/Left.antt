-- How much is left to do: three numbers, compared in order.
use Rattle.std.specs.Prelude.{ℕ, ◌≡◌, ◌+◌, ◌-◌, ◌<◌, Bool, true, false, not, ◌||◌, if◌then◌else◌, List, length, sum_by, Option, Some, None}
use Rattle.plain_model.specs.declared.stmt.Stmt.{Stmt}
use Rattle.plain_model.specs.declared.stmt.Stmt.TheVariants.{Select}
use Rattle.snap_pages.specs.Shown.{Shown}
use Rattle.step_words.specs.declared.point.Point.{Point}
use Rattle.step_words.specs.declared.point.Point.TheVariants.{Start, Cut}
use Rattle.step_words.specs.Courses.{Course, is_planned}
use Rattle.step_words.specs.Sittings.{Sitting}
use Rattle.step_words.specs.Seats.{Seated}
use Rattle.step_state.specs.Own.{is_gone}
use Rattle.step_state.specs.State.{State}
use Rattle.step_trail.specs.Togo.{steps_left}

pub record Left : Type 0 where
  pub said : ℕ
  pub planned : ℕ
  pub steps : ℕ

-- a session's statements that aren't answered, and one as long as it hasn't left
abbrev pub left_said : Sitting → ℕ
left_said s = (length s.script - s.said) + (if is_gone s.point then 0 else 1)

abbrev pub is_select : Stmt → Bool
is_select (Select s) = true
is_select stmt = false

-- whether the present statement hasn't begun, or isn't past its plan or its cut; a SELECT, which plans nothing, until it is answered
abbrev pub is_ahead : Option Course → Point → Bool
is_ahead (Some c) point = is_select c.stmt || not (is_planned c.stage)
is_ahead None Start = true
is_ahead None Cut = true
is_ahead None point = false

-- a session's statements of which this holds
abbrev pub left_planned : Sitting → ℕ
left_planned s = if is_ahead s.course s.point then length s.script - s.said else length s.script - (s.said + 1)

-- over these pages
abbrev pub left_of : Shown → List Seated → Left
left_of v seats = record {
  said = sum_by (λ (x : Seated). left_said x.sitting) seats;
  planned = sum_by (λ (x : Seated). left_planned x.sitting) seats;
  steps = steps_left v seats;
}

abbrev pub left : State → Left
left e = left_of e.pages e.seats

-- the first number is lower, or it is the same and the second is lower, or both are the same and the third is lower
pub data IsBelow (new old : Left) : Type 0 where
  BySaying : new.said < old.said → IsBelow new old
  ByPlanning : new.said ≡ old.said → new.planned < old.planned → IsBelow new old
  ByStepping : new.said ≡ old.said → new.planned ≡ old.planned → new.steps < old.steps → IsBelow new old

-- a step from e to s leaves less to do
abbrev pub Lowers : State → State → Type 0
Lowers e s = IsBelow (left s) (left e)
