-- Runs of many steps: by a schedule, and by turns of the lowest session.
use Rattle.std.specs.Prelude.{ℕ, ◌≡◌, ◌⊎◌, ◌+◌, ◌-◌, ◌<◌, ◌≤◌, true, false, if◌then◌else◌, List, [], ◌∷◌, ◌++◌, length}
use Rattle.plain_model.specs.declared.stmt.Stmt.{Stmt}
use Rattle.plain_model.specs.declared.pick.Pick.{Pick}
use Rattle.plain_model.specs.Order.{closers, order}
use Rattle.early_engine.specs.declared.seat.Seat.{Seat}
use Rattle.early_engine.specs.Safe.{Run, seat_at}
use Rattle.early_engine.specs.Steps.{Moves}

-- a step of this number does nothing: it is the flusher's, or of a session that has left
abbrev pub IsIdle : Run → ℕ → Type 0
IsIdle e who = (who ≡ 0) ⊎ ((1 ≤ who) × ((seat_at e (who - 1)).gone ≡ true))

-- one step of this number was taken: nothing changed where it is idle, else its session moved
abbrev pub Takes : Run → Run → ℕ → Type 0
Takes old new who = (IsIdle old who × (new ≡ old)) ⊎ ((1 ≤ who) × Moves old new (who - 1))

-- the schedule's entries were played one after the other, each as one step
pub data Plays : List Pick → Run → Run → Type 0 where
  none : (e : Run) → Plays [] e e
  more : (picks : List Pick) (pick : Pick) (old mid new : Run) → Plays picks old mid → Takes mid new pick.who → Plays (picks ++ pick ∷ []) old new

-- session i + 1 is the lowest that hasn't left
pub record IsLowest (e : Run) (i : ℕ) : Type 0 where
  pub here : (seat_at e i).gone ≡ false
  pub before : (j : ℕ) → j < i → (seat_at e j).gone ≡ true

-- steps, each of the lowest session that hasn't left
pub data Rounds : Run → Run → Type 0 where
  none : (e : Run) → Rounds e e
  more : (old mid new : Run) (i : ℕ) → Rounds old mid → IsLowest mid i → Moves mid new i → Rounds old new

-- how many steps a session has left: its statements and its leaving
abbrev pub steps_left : List Stmt → Seat → ℕ
steps_left script seat = if seat.gone then 0 else length script - seat.said + 1

-- how many steps each session has left
abbrev pub owed : List (List Stmt) → List Seat → List ℕ
owed [] seats = []
owed (script ∷ scripts) [] = []
owed (script ∷ scripts) (seat ∷ seats) = steps_left script seat ∷ owed scripts seats

-- whose statements were answered and who left, in order, and then by this schedule and to the end
abbrev pub due_order : Run → List Pick → List ℕ
due_order e picks = closers e.kept.events ++ order (owed e.scripts e.seats) picks
